-- Laws of A's masks in an array: two words of each row are touched.
use Rattle.word.proofs.Base.{◌≡◌, refl, sym, ap, ◌∙◌, ℕ, ◌+◌, ◌-◌, ◌*◌, ◌%◌, ◌<◌, ◌≤◌, arith, Bool, true, false, eqb, ◌&&◌}
use Rattle.word.proofs.ChoiceLaws.{and_left, and_right}
use Rattle.word.proofs.Base.{eq-eqb, ne_eqb, eqb-true, eqb-false, List, length, get_or, length-set, get_or-set_same}
use Rattle.word.proofs.Base.{get_or-set_other, bit_and, dec_lt}
use Rattle.word.specs.Mask.{masked_when, masked}
use Rattle.word.proofs.MaskLaws.{masked-by-ones}
use Rattle.area.specs.declared.types.Masks.{Masks}
use Rattle.quiet.specs.Words.{masked_at}
use Rattle.quiet.proofs.StreamLaws.{word_of}
use Rattle.block.specs.Inner.Each.{at, Each, Kept, masked_in}
use Rattle.block.proofs.EachLaws.{next-start}

-- a word masked where it stands
masked_in-at : (place mask j : ℕ) (words : List ℕ) → place < length words → get_or (masked_in place mask words) j 0 ≡ masked_when (eqb j place) mask (get_or words j 0)
unfolding masked_in masked_when
masked_in-at place mask j words inside = by (eqb j place) refl
  where
    by : (told : Bool) → eqb j place ≡ told → get_or (masked_in place mask words) j 0 ≡ masked_when (eqb j place) mask (get_or words j 0)
    by true told =
        let here : j ≡ place = eqb-true j place told in
        rw told
        (ap (λ (j : ℕ). get_or (masked_in place mask words) j 0) here
        ∙ get_or-set_same words place (bit_and (get_or words place 0) mask) 0 inside
        ∙ ap (λ (j : ℕ). bit_and (get_or words j 0) mask) (sym here))
    by false told = rw told (get_or-set_other words place j (bit_and (get_or words place 0) mask) 0 (eqb-false j place told))

masked_in-keeps-length : (place mask : ℕ) (words : List ℕ) → length (masked_in place mask words) ≡ length words
unfolding masked_in
masked_in-keeps-length place mask words = length-set words place (bit_and (get_or words place 0) mask)

same_test : (a b c d : ℕ) → (a ≡ b → c ≡ d) → (c ≡ d → a ≡ b) → eqb a b ≡ eqb c d
same_test a b c d there back = by (eqb c d) refl
  where
    by : (told : Bool) → eqb c d ≡ told → eqb a b ≡ eqb c d
    by true told = eq-eqb a b (back (eqb-true c d told)) ∙ sym told
    by false told = ne_eqb a b (λ same. eqb-false c d told (there same)) ∙ sym told

module _ (masks : Masks) (width row s : ℕ) (words before after : List ℕ) (some : 1 ≤ width) (here : s ≡ row * width)
    (inside : s + width ≤ length words) (does : after ≡ masked_in (s + width - 1) masks.last (masked_in s masks.first words)) (kept : Kept s words before) where
  -- any word of the array
  touched : (j : ℕ) → get_or after j 0 ≡ masked_when (eqb j (s + width - 1)) masks.last (masked_when (eqb j s) masks.first (get_or words j 0))
  touched j =
      ap (λ (after : List ℕ). get_or after j 0) does
      ∙ masked_in-at (s + width - 1) masks.last j (masked_in s masks.first words) (omega (arith, masked_in-keeps-length s masks.first words))
      ∙ ap (masked_when (eqb j (s + width - 1)) masks.last) (masked_in-at s masks.first j words (omega arith))

  -- in another row
  untouched : (j : ℕ) → (s ≤ j → s + width ≤ j) → get_or after j 0 ≡ get_or words j 0
  unfolding masked_when
  untouched j elsewhere = touched j ∙ rw (ne_eqb j (s + width - 1) (λ same. absurd (omega (arith, elsewhere (omega arith)))), ne_eqb j s (λ same. absurd (omega (arith, elsewhere (omega arith)))))

  pub mask-turn : Each s words (masked_at masks width (at before))
      → Kept ((row + 1) * width) after before × Each ((row + 1) * width) after (masked_at masks width (at before))
  unfolding Each masked_at at masked Kept
  mask-turn all =
      let next = next-start row width in
      (λ j past. untouched j (λ later. omega arith) ∙ kept j (omega arith), λ j within. by j (omega arith) (dec_lt j s))
    where
      by : (j : ℕ) → j < s + width → Dec (j < s) → get_or after j 0 ≡ masked_at masks width (at before) j
      by j within (yes early) = untouched j (λ here. absurd (omega arith)) ∙ all j early
      by j within (no late) =
          touched j
          ∙ rw (
            word_of width row (j - s) j (omega arith) (omega arith),
            same_test j (s + width - 1) (j - s + 1) width (λ same. omega arith) (λ same. omega arith),
            same_test j s (j - s) 0 (λ same. omega arith) (λ same. omega arith),
            kept j (omega arith),
          )

pub masked-all-ones : (masks : Masks) (width n : ℕ) (words : List ℕ) → (eqb masks.first 65535 && eqb masks.last 65535) ≡ true
    → ((j : ℕ) → get_or words j 0 < 65536) → Each n words (masked_at masks width (at words))
unfolding Each masked_at at
masked-all-ones masks width n words ones small j below =
    rw (eqb-true masks.first 65535 (and_left _ (eqb masks.last 65535) ones), eqb-true masks.last 65535 (and_right (eqb masks.first 65535) _ ones)) (sym (masked-by-ones (eqb (j % width) 0) (eqb (j % width + 1) width) (get_or words j 0) (small j)))
