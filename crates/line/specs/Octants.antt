-- The manual's Figure and table of octants: one worked example each, of slope 2 in 5, so that both moves are made. All start
-- at bit 7 of word 100, in a plane of 4 words a row; of ten dots the flat ones come to the next word.
use Rattle.std.specs.Prelude.{ℕ, ◌+◌, ◌-◌, ◌≡◌, List, [], ◌∷◌, ◌++◌, map, replicate}
use Rattle.line.specs.declared.types.Spot.{Spot}
use Rattle.line.specs.Setup.{line_setup}
use Rattle.line.specs.Dot.{first_dot}
use Rattle.line.specs.Line.{spots}

-- the manual's set-up, 5 along and 2 across: A's pointer 4 × 2 - 2 × 5, which is negative, so that the sign is set; A's
-- modulo 4 × (2 - 5), B's 4 × 2; C's and D's modulo 8 bytes. The octant's code stands in bits 4-2 of BLTCON1.
abbrev pub in_octant : (code : ℕ) → List ℕ
in_octant code =
    (0x8BCA ∷ (code + 0x0041) ∷ 0xFFFF ∷ 0xFFFF ∷ 0 ∷ 200 ∷ 0 ∷ 0 ∷ 0 ∷ 0xFFFE ∷ 0 ∷ 200 ∷ 8 ∷ 8 ∷ 0xFFF4 ∷ 8
    ∷ 0 ∷ 0xFFFF ∷ 0x8000 ∷ [])
    ++ replicate 34 0

-- the word and the bit of a spot; the leftmost pixel is bit 15
abbrev pub word_and_bit : Spot → ℕ × ℕ
word_and_bit spot = (spot.at.word, 15 - spot.shift)

pub record Example : Type 0 where
  pub code : ℕ
  pub dots : List (ℕ × ℕ)

abbrev pub example : (code : ℕ) → (dots : List (ℕ × ℕ)) → Example
example code dots = record { code = code; dots = dots }

unfoldable pub octants : List Example
octants =
    -- octant 0, SUD SUL AUL 1 1 0: always right, sometimes up
    example 0x18
    ((100, 7) ∷ (100, 6) ∷ (96, 5) ∷ (96, 4) ∷ (92, 3) ∷ (92, 2) ∷ (92, 1) ∷ (88, 0) ∷ (89, 15) ∷ (85, 14) ∷ [])
    -- octant 1, 0 0 1: always up, sometimes right
    ∷ example 0x04
    ((100, 7) ∷ (96, 7) ∷ (92, 6) ∷ (88, 6) ∷ (84, 5) ∷ (80, 5) ∷ (76, 5) ∷ (72, 4) ∷ (68, 4) ∷ (64, 3) ∷ [])
    -- octant 2, 0 1 1: always up, sometimes left
    ∷ example 0x0C
    ((100, 7) ∷ (96, 7) ∷ (92, 8) ∷ (88, 8) ∷ (84, 9) ∷ (80, 9) ∷ (76, 9) ∷ (72, 10) ∷ (68, 10) ∷ (64, 11) ∷ [])
    -- octant 3, 1 1 1: always left, sometimes up
    ∷ example 0x1C
    ((100, 7) ∷ (100, 8) ∷ (96, 9) ∷ (96, 10) ∷ (92, 11) ∷ (92, 12) ∷ (92, 13) ∷ (88, 14) ∷ (88, 15) ∷ (83, 0) ∷ [])
    -- octant 4, 1 0 1: always left, sometimes down
    ∷ example 0x14
    ((100, 7) ∷ (100, 8) ∷ (104, 9) ∷ (104, 10) ∷ (108, 11) ∷ (108, 12) ∷ (108, 13) ∷ (112, 14) ∷ (112, 15) ∷ (115, 0) ∷ [])
    -- octant 5, 0 1 0: always down, sometimes left
    ∷ example 0x08
    ((100, 7) ∷ (104, 7) ∷ (108, 8) ∷ (112, 8) ∷ (116, 9) ∷ (120, 9) ∷ (124, 9) ∷ (128, 10) ∷ (132, 10) ∷ (136, 11) ∷ [])
    -- octant 6, 0 0 0: always down, sometimes right
    ∷ example 0x00
    ((100, 7) ∷ (104, 7) ∷ (108, 6) ∷ (112, 6) ∷ (116, 5) ∷ (120, 5) ∷ (124, 5) ∷ (128, 4) ∷ (132, 4) ∷ (136, 3) ∷ [])
    -- octant 7, 1 0 0: always right, sometimes down
    ∷ example 0x10
    ((100, 7) ∷ (100, 6) ∷ (104, 5) ∷ (104, 4) ∷ (108, 3) ∷ (108, 2) ∷ (108, 1) ∷ (112, 0) ∷ (113, 15) ∷ (117, 14) ∷ [])
    ∷ []

-- where the first ten dots stand
abbrev pub first_ten : (file : List ℕ) → List (ℕ × ℕ)
first_ten file = map word_and_bit (spots (line_setup file) 10 (first_dot file))

abbrev pub OctantsHold : Type 0
OctantsHold =
    map (λ (octant : Example). first_ten (in_octant octant.code)) octants ≡ map (λ (octant : Example). octant.dots) octants
