-- Laws of the table of keys: its letters one key after the other, and its offsets.
use Rattle.word.proofs.Base.{◌≡◌, refl, sym, ap, ◌∙◌, ℕ, zero, suc, ◌+◌, ◌*◌, ◌<◌, arith, Bool, true, ◌&&◌, eqb, eqb-true}
use Rattle.word.proofs.Base.{List, [], ◌∷◌, ◌++◌, length, get_or}
use Rattle.std.proofs.Math.ListN.{get_or-append}
use Rattle.std.proofs.lemmas.List.{get_or-append-add}
use Rattle.word.proofs.ChoiceLaws.{and_left, and_right}
use Rattle.card_reading.specs.declared.types.Key.{Key}

unfoldable pub in_a_row : List Key → List ℕ
in_a_row [] = []
in_a_row (one ∷ rest) = one.letters ++ in_a_row rest

unfoldable pub all_four : List Key → Bool
all_four [] = true
all_four (one ∷ rest) = eqb (length one.letters) 4 && all_four rest

unfoldable pub in_order : List Key → List ℕ
in_order [] = []
in_order (one ∷ rest) = one.offset ∷ in_order rest

letter-in-row : (keys : List Key) (none : Key) (key at : ℕ) → all_four keys ≡ true → key < length keys → at < 4
    → get_or (get_or keys key none).letters at 0 ≡ get_or (in_a_row keys) (key * 4 + at) 0
unfolding in_a_row all_four
letter-in-row [] none key at four inside small = absurd (omega arith)
letter-in-row (one ∷ rest) none zero at four inside small =
    let long : length one.letters ≡ 4 = eqb-true _ _ (and_left (eqb (length one.letters) 4) (all_four rest) four) in
    let here : at ≡ 0 * 4 + at = omega arith in
    sym (get_or-append one.letters (in_a_row rest) 0 at (omega (arith, long)))
    ∙ ap (λ (i : ℕ). get_or (one.letters ++ in_a_row rest) i 0) here
letter-in-row (one ∷ rest) none (suc key) at four inside small =
    let long : length one.letters ≡ 4 = eqb-true _ _ (and_left (eqb (length one.letters) 4) (all_four rest) four) in
    let there : length one.letters + (key * 4 + at) ≡ suc key * 4 + at = omega (arith, long) in
    letter-in-row rest none key at (and_right (eqb (length one.letters) 4) (all_four rest) four) (omega arith) small
    ∙ sym (get_or-append-add one.letters (in_a_row rest) (key * 4 + at) 0)
    ∙ ap (λ (i : ℕ). get_or (one.letters ++ in_a_row rest) i 0) there

pub letter-of-row : (keys : List Key) (none : Key) (key at : ℕ) (all : List ℕ) → key < length keys → at < 4
    → all_four keys ≡ true → in_a_row keys ≡ all
    → get_or (get_or keys key none).letters at 0 ≡ get_or all (key * 4 + at) 0
letter-of-row keys none key at all inside small four same =
    letter-in-row keys none key at four inside small ∙ ap (λ (row : List ℕ). get_or row (key * 4 + at) 0) same

one-offset : (keys : List Key) (none : Key) (key : ℕ) → key < length keys
    → (get_or keys key none).offset ≡ get_or (in_order keys) key 0
unfolding in_order
one-offset [] none key inside = absurd (omega arith)
one-offset (one ∷ rest) none zero inside = refl
one-offset (one ∷ rest) none (suc key) inside = one-offset rest none key (omega arith)

pub offset-in-order : (keys : List Key) (none : Key) (key : ℕ) (all : List ℕ) → key < length keys → in_order keys ≡ all
    → (get_or keys key none).offset ≡ get_or all key 0
offset-in-order keys none key all inside same =
    one-offset keys none key inside ∙ ap (λ (row : List ℕ). get_or row key 0) same
