-- Laws of a pointer in its two registers, and of the zero flag.
use Rattle.word.proofs.Base.{◌≡◌, ℕ, ◌+◌, ◌<◌, arith, Bool, true, false, List, set}
use Rattle.word.specs.declared.types.Pointer.{Pointer}
use Rattle.word.specs.Pointer.{pointer_end, pointer, high, low}
use Rattle.file.specs.Places.{flag}
use Rattle.file.specs.Pointers.{pointer_at, with_pointer, put_flag}

pub pointer_at-lt : (file : List ℕ) (place : ℕ) → (pointer_at file place).word < pointer_end
unfolding pointer_at pointer
pointer_at-lt file place = omega arith

pub with_pointer-of-halves : (place up down : ℕ) (pointer : Pointer) (file one two : List ℕ)
    → up ≡ high pointer → one ≡ set file place up → down ≡ low pointer → two ≡ set one (place + 1) down
    → two ≡ with_pointer place pointer file
with_pointer-of-halves place up down pointer file one two upper first lower second = rw (second, first, upper, lower)

pub put_flag-when-zero : (allzero : Bool) (file after : List ℕ) → allzero ≡ true → after ≡ set file flag 1 → after ≡ put_flag allzero file
unfolding put_flag
put_flag-when-zero allzero file after none same = rw none same

pub put_flag-when-some : (allzero : Bool) (file after : List ℕ) → allzero ≡ false → after ≡ set file flag 0 → after ≡ put_flag allzero file
unfolding put_flag
put_flag-when-some allzero file after some same = rw some same
