-- Laws of a table that holds a rule's value at each place: what it holds at a place is the rule's value there.
use Rattle.word.proofs.Base.{◌≡◌, sym, ap, ◌∙◌, ℕ, zero, suc, ◌+◌, ◌<◌, zero-add, add-zero, add-suc, List, [], ◌∷◌}
use Rattle.word.proofs.Base.{get_or}
use native.Mathlib.Nat.{suc-add, le_of_suc-le-suc, not-suc-le-zero}

-- the rule's values at n places from the first on
abbrev pub values : (rule : ℕ → ℕ) → (first n : ℕ) → List ℕ
values rule first zero = []
values rule first (suc n) = rule first ∷ values rule (suc first) n

values-from : (rule : ℕ → ℕ) (first n k : ℕ) → k < n → get_or (values rule first n) k 0 ≡ rule (first + k)
values-from rule first zero k inside = absurd (not-suc-le-zero inside)
values-from rule first (suc n) zero inside = ap rule (sym (add-zero first))
values-from rule first (suc n) (suc k) inside =
    values-from rule (suc first) n k (le_of_suc-le-suc inside)
    ∙ ap rule (suc-add first k ∙ sym (add-suc first k))

pub values-at : (rule : ℕ → ℕ) (n k : ℕ) → k < n → get_or (values rule 0 n) k 0 ≡ rule k
values-at rule n k inside = values-from rule 0 n k inside ∙ ap rule (zero-add k)
