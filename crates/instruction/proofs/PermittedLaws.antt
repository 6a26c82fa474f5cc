-- Laws of the offsets that a MOVE may write: their parts.
use Rattle.word.proofs.Base.{◌≡◌, ℕ, ◌/◌, ◌%◌, ◌<◌, ◌≤◌, arith, Bool, true, false, ◌||◌, eqb, ltb, le-leb, lt-leb, List}
use Rattle.word.proofs.Base.{get_or}
use Rattle.word.specs.Word.{is_set}
use Rattle.file.specs.Places.{copcon, flag}
use Rattle.file.specs.File.{place, is_register}
use Rattle.instruction.specs.Permitted.{danger, permitted, size_offset, modelled}

pub danger-of-word : (file : List ℕ) (word : ℕ) (set : Bool) → word ≡ get_or file copcon 0 → set ≡ is_set word 1 → set ≡ danger file
unfolding danger
danger-of-word file word set reads is = rw (is, reads)

pub permitted-from-080 : (file : List ℕ) (offset : ℕ) → 0x080 ≤ offset → true ≡ permitted file offset
unfolding permitted
permitted-from-080 file offset high = rw (le-leb 0x080 offset high)

pub permitted-below-040 : (file : List ℕ) (offset : ℕ) → offset < 0x040 → false ≡ permitted file offset
unfolding permitted
permitted-below-040 file offset low = rw (lt-leb 0x080 offset (omega arith), lt-leb 0x040 offset low)

pub permitted-of-danger : (file : List ℕ) (offset : ℕ) (set : Bool) → offset < 0x080 → 0x040 ≤ offset → set ≡ danger file
    → set ≡ permitted file offset
unfolding permitted
permitted-of-danger file offset set below from same = rw (lt-leb 0x080 offset below, le-leb 0x040 offset from) same

pub modelled-of-place : (offset found : ℕ) → found ≡ place offset → (eqb offset size_offset || ltb found flag) ≡ modelled offset
unfolding modelled is_register
modelled-of-place offset found same = rw same
