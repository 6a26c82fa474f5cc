-- Every pixel has 12 bits: a line that is done has an accepted file and five planes at most, so that its colours are the
-- file's, which keep 12.
use Rattle.word.proofs.Base.{◌≡◌, refl, sym, ap, subst, ◌∙◌, ℕ, ◌+◌, ◌<◌, ◌≤◌, arith, Bool, true, false, not, not-false}
use Rattle.word.proofs.Base.{eqb, eqb→eq, List, [], ◌∷◌, length, get_or, bit_and}
use native.Mathlib.Nat.{lt_of_lt_of_le}
use lib.Bits.{mask_lt}
use lib.Pow.{pow_mono}
use Rattle.word.specs.Choice.{Rule, ◌when◌, given, every}
use Rattle.word.specs.Memory.{memory_size}
use Rattle.word.proofs.ChoiceLaws.{and_right, every-at}
use Rattle.word.proofs.WordLaws.{of_bits-lt}
use Rattle.file.specs.Places.{file_length, colour0, colour_count}
use Rattle.file.specs.File.{kept, kept_at, kept_bits, accepted}
use Rattle.file.proofs.FileLaws.{kept_bits-of-colour}
use Rattle.playfield.specs.Playfield.{most_planes, Playfield, pixel_at, colour_number}
use Rattle.picture.specs.Line.{colour, line_pixels}
use Rattle.picture.specs.Refusal.{bad_playfield, too_short, inside, leaves, rules, refusal}
use Rattle.picture.specs.Picture.{picture}
use Rattle.picture.specs.TwelveBits.{TwelveBits}
use Rattle.picture.proofs.PictureLaws.{drawable-when-passed}
use Rattle.picture.proofs.LineLaws.{picture-number, picture-shows}
use Rattle.picture.proofs.DelayOfNought.{pixel_at-lt}

-- a list of rules that gives 0: the first doesn't apply, and the rest gives 0
given-passed : (number : ℕ) (applies : Bool) (rest : List Rule) → (number ≡ 0 → ⊥) → given (number when applies ∷ rest) ≡ 0
    → (applies ≡ false) × (given rest ≡ 0)
unfolding given
given-passed number true rest some none = absurd (some none)
given-passed number false rest some none = (refl, none)

-- a colour of a file that is accepted
colour-lt : (file : List ℕ) (number : ℕ) → accepted file ≡ true → number < colour_count → colour file number < 0x1000
unfolding accepted kept_at kept
colour-lt file number fine small =
    let place : ℕ = colour0 + number in
    let word : ℕ = get_or file place 0 in
    let keeps : bit_and word (get_or kept_bits place 0) ≡ word =
    eqb→eq _ _ (every-at (kept_at file) file_length
    (rw (and_right (eqb (length file) file_length) (every (kept_at file) file_length) fine) tt) place (omega arith)) in
    let bits : 0x0FFF ≡ get_or kept_bits place 0 = kept_bits-of-colour place (omega arith) (omega arith) in
    subst (λ (word : ℕ). word < 0x1000) (ap (bit_and word) bits ∙ keeps) (mask_lt word 12)

-- what passes the rules of a line that is done
module _ (memory file : List ℕ) (field : Playfield) (out : List ℕ) (done : (picture memory file field out).number ≡ 0) where
  none : given (rules memory file field out) ≡ 0
  unfolding refusal
  none = sym (picture-number memory file field out) ∙ done

  abbrev last : List Rule
  last = 10 when leaves (length memory) field ∷ []

  abbrev third : List Rule
  third = 24 when bad_playfield field ∷ 25 when too_short out field ∷ last

  behind-1 : (memory_size (length memory) ≡ false) × (given (2 when not (accepted file) ∷ third) ≡ 0)
  behind-1 = given-passed 1 (memory_size (length memory)) (2 when not (accepted file) ∷ third) (λ same. omega (arith, same)) none

  behind-2 : (not (accepted file) ≡ false) × (given third ≡ 0)
  behind-2 = given-passed 2 (not (accepted file)) third (λ same. omega (arith, same)) behind-1.1

  behind-24 : (bad_playfield field ≡ false) × (given (25 when too_short out field ∷ last) ≡ 0)
  behind-24 = given-passed 24 (bad_playfield field) (25 when too_short out field ∷ last) (λ same. omega (arith, same)) behind-2.1

  behind-25 : (too_short out field ≡ false) × (given last ≡ 0)
  behind-25 = given-passed 25 (too_short out field) last (λ same. omega (arith, same)) behind-24.1

  behind-10 : (leaves (length memory) field ≡ false) × (given [] ≡ 0)
  behind-10 = given-passed 10 (leaves (length memory) field) [] (λ same. omega (arith, same)) behind-25.1

  few : length field.planes ≤ most_planes
  unfolding leaves
  few =
      (drawable-when-passed (length memory) field (bad_playfield field)
      (every (inside (length memory) field.words field.planes) (length field.planes))
      refl behind-24.0 refl behind-10.0).planes

  colour_number-lt : (i : ℕ) → colour_number memory field i < colour_count
  unfolding colour_number
  colour_number-lt i = lt_of_lt_of_le (of_bits-lt (pixel_at memory field i) (length field.planes) (pixel_at-lt memory field i)) (pow_mono few)

  pub done-lt : (i : ℕ) → i < line_pixels field → get_or (picture memory file field out).out i 0 < 0x1000
  done-lt i within =
      rw (picture-shows memory file field out done i within)
      (colour-lt file (colour_number memory field i) (not-false (accepted file) behind-2.0) (colour_number-lt i))

pub twelve-bits : TwelveBits
twelve-bits memory file field out i done within = done-lt memory file field out done i within
