-- The manual's chapter 2: its comparisons, as the lines of a frame on which they hold at a position, or the positions
-- at which they hold on a line, the highest first; and the colour part of its sample list, as the beam's line and
-- position and colours 0 to 3 after each instruction. One list, computed on the left, what the manual's text comes to
-- on the right.
use Rattle.std.specs.Prelude.{ℕ, zero, suc, ◌+◌, ◌-◌, ◌*◌, ◌≡◌, Bool, List, [], ◌∷◌, ◌++◌, map, get_or, replicate, if◌then◌else◌}
use Rattle.word.specs.Example.{Example, ◌is◌}
use Rattle.file.specs.Places.{file_length, colour0}
use Rattle.beam.specs.Beam.{lines, positions, frame_end, line, position}
use Rattle.beam.specs.Satisfied.{satisfied}
use Rattle.beam.specs.Wait.{first_satisfied}
use Rattle.instruction.specs.Effect.{Moment, moment}
use Rattle.copper_facts.specs.Course.{after}

-- the numbers before one at which a test holds, the highest first
unfoldable pub numbers_before : (test : ℕ → Bool) → (end : ℕ) → List ℕ
numbers_before test zero = []
numbers_before test (suc number) =
    if test number then number ∷ numbers_before test number else
    numbers_before test number

-- the lines of a frame on which a comparison is satisfied at a position, and the positions of a line at which it is
abbrev pub lines_at : (position first second : ℕ) → List ℕ
lines_at position first second = numbers_before (λ line. satisfied first second (line * positions + position)) lines

abbrev pub positions_on : (line first second : ℕ) → List ℕ
positions_on line first second = numbers_before (λ position. satisfied first second (line * positions + position)) positions

-- so many numbers down from one, each so much below the one before
unfoldable pub down : (from apart many : ℕ) → List ℕ
down from apart zero = []
down from apart (suc many) = from ∷ down (from - apart) apart many

abbrev pub comparisons : List Example
comparisons =
    -- 9601 FF00: lines 150 to 255
    lines_at 0 0x9601 0xFF00 is down 255 1 106
    -- 6401 FF01: lines 100 to 255
    ∷ lines_at 0 0x6401 0xFF01 is down 255 1 156
    -- 0F01 8F00: lines 15, 31, .. 111, then 127 to 255
    ∷ lines_at 0 0x0F01 0x8F00 is (down 255 1 129 ++ down 111 16 7)
    -- 8F01 8F00: lines 143, 159, .. 255
    ∷ lines_at 0 0x8F01 0x8F00 is down 255 16 8
    -- 7F01 7F01: lines 127 to 255
    ∷ lines_at 0 0x7F01 0x7F01 is down 255 1 129
    -- FF01 FE01: lines 254 and 255
    ∷ lines_at 0 0xFF01 0xFE01 is (255 ∷ 254 ∷ [])
    -- 00E3 80FE: lines 128 to 255 at any position, every line at 226
    ∷ lines_at 0 0x00E3 0x80FE is down 255 1 128
    ∷ positions_on 128 0x00E3 0x80FE is down 226 1 227
    ∷ lines_at 226 0x00E3 0x80FE is down 261 1 262
    ∷ positions_on 0 0x00E3 0x80FE is (226 ∷ [])
    -- 80E3 80FE: lines 128 to 255, at position 226 alone
    ∷ lines_at 226 0x80E3 0x80FE is down 255 1 128
    ∷ positions_on 128 0x80E3 0x80FE is (226 ∷ [])
    ∷ lines_at 225 0x80E3 0x80FE is []
    ∷ []

abbrev pub never : List Example
never =
    -- FFFF FFFE: no line, at any position: the first place where it holds is past the frame
    (first_satisfied 0xFFFF 0xFFFE frame_end 0 ∷ []) is (frame_end ∷ [])
    ∷ []

-- the colour part of the sample list, at word 0 of memory
abbrev pub sample : List ℕ
sample =
    0x0180 ∷ 0x0FFF ∷ 0x0182 ∷ 0x0F00 ∷ 0x0184 ∷ 0x00F0 ∷ 0x0186 ∷ 0x000F
    ∷ 0x9601 ∷ 0xFF00
    ∷ 0x0180 ∷ 0x0000 ∷ 0x0182 ∷ 0x0FF0 ∷ 0x0184 ∷ 0x00FF ∷ 0x0186 ∷ 0x0F0F
    ∷ 0xFFFF ∷ 0xFFFE ∷ []

-- the beam's line and position, and colours 0 to 3
abbrev pub seen : Moment → List ℕ
seen here =
    line here.beam ∷ position here.beam
    ∷ get_or here.file colour0 0 ∷ get_or here.file (colour0 + 1) 0
    ∷ get_or here.file (colour0 + 2) 0 ∷ get_or here.file (colour0 + 3) 0 ∷ []

-- what is seen after so many instructions of the sample list, from a file of zeros
abbrev pub sample_after : (many : ℕ) → List ℕ
sample_after many = seen (after many (moment sample (replicate file_length 0) 0 0))

abbrev pub sample_list : List Example
sample_list =
    sample_after 0 is (0 ∷ 0 ∷ 0x000 ∷ 0x000 ∷ 0x000 ∷ 0x000 ∷ [])
    -- MOVE COLOR00,0FFF to MOVE COLOR03,000F
    ∷ sample_after 1 is (0 ∷ 4 ∷ 0xFFF ∷ 0x000 ∷ 0x000 ∷ 0x000 ∷ [])
    ∷ sample_after 2 is (0 ∷ 8 ∷ 0xFFF ∷ 0xF00 ∷ 0x000 ∷ 0x000 ∷ [])
    ∷ sample_after 3 is (0 ∷ 12 ∷ 0xFFF ∷ 0xF00 ∷ 0x0F0 ∷ 0x000 ∷ [])
    ∷ sample_after 4 is (0 ∷ 16 ∷ 0xFFF ∷ 0xF00 ∷ 0x0F0 ∷ 0x00F ∷ [])
    -- WAIT 9601 FF00: the last four MOVEs start at line 150, positions 0, 4, 8, 12
    ∷ sample_after 5 is (150 ∷ 0 ∷ 0xFFF ∷ 0xF00 ∷ 0x0F0 ∷ 0x00F ∷ [])
    ∷ sample_after 6 is (150 ∷ 4 ∷ 0x000 ∷ 0xF00 ∷ 0x0F0 ∷ 0x00F ∷ [])
    ∷ sample_after 7 is (150 ∷ 8 ∷ 0x000 ∷ 0xFF0 ∷ 0x0F0 ∷ 0x00F ∷ [])
    ∷ sample_after 8 is (150 ∷ 12 ∷ 0x000 ∷ 0xFF0 ∷ 0x0FF ∷ 0x00F ∷ [])
    ∷ sample_after 9 is (150 ∷ 16 ∷ 0x000 ∷ 0xFF0 ∷ 0x0FF ∷ 0xF0F ∷ [])
    -- WAIT FFFF FFFE: the frame is over, at line 262
    ∷ sample_after 10 is (262 ∷ 0 ∷ 0x000 ∷ 0xFF0 ∷ 0x0FF ∷ 0xF0F ∷ [])
    ∷ []

-- every example gives what the manual's text comes to
abbrev pub ManualHolds : Type 0
ManualHolds =
    map (λ (example : Example). example.gives) (comparisons ++ (never ++ sample_list))
    ≡ map (λ (example : Example). example.says) (comparisons ++ (never ++ sample_list))
