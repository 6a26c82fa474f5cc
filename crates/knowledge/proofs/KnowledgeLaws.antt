-- Laws of the knowledge as a list: its length, and the file of its numbers.
use mathlib.Core.Path.{◌≡◌, refl, sym, ◌∙◌}
use native.Mathlib.Omega.{arith}
use Rattle.std.proofs.lemmas.Grind.{same_number_lists}
use Prim.Native.Nat.{ℕ, zero, suc, ◌<◌, ◌≤◌}
use native.Mathlib.Nat.{le_of_suc-le-suc, not-suc-le-zero}
use mathlib.Core.List.{List, [], ◌∷◌}
use lib.ListN.{length, get_or, length-map}
use Rattle.std.specs.Prelude.{Option, Some, None, is_some, true}
use Rattle.file.specs.Places.{blitter_length}
use Rattle.knowledge.specs.Knowledge.{known_at, nothing, number, numbers}

pub nothing-length : length nothing ≡ blitter_length
nothing-length = refl

-- a register's number stands at its place
pub numbers-at : (known : List (Option ℕ)) (place : ℕ) → place < length known → get_or (numbers known) place 0 ≡ number (known_at known place)
unfolding numbers
numbers-at [] place inside = absurd (not-suc-le-zero inside)
numbers-at (first ∷ rest) zero inside = refl
numbers-at (first ∷ rest) (suc place) inside = numbers-at rest place (le_of_suc-le-suc inside)

-- words that hold each register's number are the file of the numbers
pub numbers-of-places : (known : List (Option ℕ)) (words : List ℕ) (place : ℕ)
    → length words ≡ blitter_length → length known ≡ blitter_length → blitter_length ≤ place
    → ((k : ℕ) → k < place → get_or words k 0 ≡ number (known_at known k)) → words ≡ numbers known
unfolding numbers
numbers-of-places known words place long held past each =
    same_number_lists words (numbers known) (long ∙ sym held ∙ sym (length-map known number))
    (λ (k : ℕ) (inside : k < length words). each k (omega arith) ∙ sym (numbers-at known k (omega arith)))

-- a register that is known is known with its number
pub known-is-number : (known : Option ℕ) → is_some known ≡ true → known ≡ Some (number known)
known-is-number (Some value) told = refl
known-is-number None told = let n : ◌≡◌ {A = ℕ} 0 1 = cc in absurd (omega arith)
