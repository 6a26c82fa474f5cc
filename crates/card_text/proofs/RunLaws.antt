-- Laws of the memory that a card starts with, word by word.
use Rattle.word.proofs.Base.{◌≡◌, refl, sym, ap, ◌∙◌, ℕ, zero, suc, ◌+◌, ◌-◌, ◌<◌, ◌≤◌, arith, List, length, set}
use Rattle.word.specs.Laid.{laid}
use Rattle.word.proofs.LaidLaws.{laid-over}
use Rattle.card_text.specs.Run.{counted}

pub counted-length : (from many : ℕ) → length (counted from many) ≡ many
unfolding counted
counted-length from zero = refl
counted-length from (suc many) = ap suc (counted-length (from + 1) many)

pub counted_start : (ram : List ℕ) (words : ℕ) → words ≡ length ram → laid (counted 0 (words - 0)) 0 ram ≡ counted 0 (length ram)
counted_start ram words same =
    let all : words - 0 ≡ length ram = omega (arith, same) in
    ap (λ (many : ℕ). laid (counted 0 many) 0 ram) all ∙ laid-over (counted 0 (length ram)) ram (counted-length 0 (length ram))

pub counted-turn : (ram next whole : List ℕ) (words at : ℕ) → at < words → next ≡ set ram at at
    → laid (counted at (words - at)) at ram ≡ whole → laid (counted (at + 1) (words - (at + 1))) (at + 1) next ≡ whole
unfolding counted laid
counted-turn ram next whole words at inside sets so_far =
    let more : words - at ≡ suc (words - (at + 1)) = omega (arith, inside) in
    let here : laid (counted at (suc (words - (at + 1)))) at ram ≡ whole =
    sym (ap (λ (many : ℕ). laid (counted at many) at ram) more) ∙ so_far in
    rw sets here

pub counted-done : (ram whole : List ℕ) (words at : ℕ) → words ≤ at → laid (counted at (words - at)) at ram ≡ whole → ram ≡ whole
unfolding counted laid
counted-done ram whole words at past so_far =
    let none : words - at ≡ 0 = omega (arith, past) in
    sym (ap (λ (many : ℕ). laid (counted at many) at ram) none) ∙ so_far
