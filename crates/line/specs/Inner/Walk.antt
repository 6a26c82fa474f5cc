-- A dot's place as one number: the pixels of all words that a pointer reaches, counted through. A move is then a sum, and
-- what a dot's two moves come to is known before the first dot, by the sign.
use Rattle.std.specs.Prelude.{ℕ, ◌+◌, ◌-◌, ◌*◌, ◌/◌, ◌%◌, Bool, true, false, if◌then◌else◌}
use Rattle.word.specs.Pointer.{pointer_end}
use Rattle.line.specs.declared.types.Line.{Line}
use Rattle.line.specs.declared.types.Spot.{Spot}
use Rattle.line.specs.declared.types.Dot.{Dot}
use Rattle.line.specs.declared.types.Drawn.{Drawn}
use Rattle.line.specs.declared.marks.Step.{Step}
use Rattle.line.specs.declared.marks.Steps.{Steps}
use Rattle.line.specs.declared.marks.Mark.{Mark}
use Rattle.line.specs.declared.marks.Marked.{Marked}
use Rattle.line.specs.Texture.{lower}
use Rattle.line.specs.Move.{went_vertical}
use Rattle.line.specs.Accumulator.{sign_of}

abbrev pub pixel_end : ℕ
pixel_end = 4194304

-- a spot from its pixel, and its pixel
abbrev pub spot_of : (pixel : ℕ) → Spot
spot_of pixel = record { at = record { word = pixel / 16 % pointer_end }; shift = pixel % 16 }

abbrev pub pixel_of : Spot → ℕ
pixel_of spot = (spot.at.word % pointer_end) * 16 + spot.shift % 16

-- a dot from its mark, and its mark
abbrev pub dot_of : Mark → Dot
dot_of mark =
    record {
      spot = spot_of mark.pixel;
      bit = mark.bit % 16;
      accumulator = mark.accumulator;
      sign = mark.sign;
      first = mark.first;
    }

abbrev pub mark_of : Dot → Mark
mark_of dot =
    record {
      pixel = pixel_of dot.spot;
      bit = dot.bit;
      accumulator = dot.accumulator;
      sign = dot.sign;
      first = dot.first;
    }

abbrev pub drawn_of : Marked → Drawn
drawn_of marked = record { dot = dot_of marked.mark; allzero = marked.allzero; stored = marked.stored }

-- the moves, in pixels
abbrev pub vertical_pixels : (row : ℕ) → (upward : Bool) → ℕ
vertical_pixels row upward = if upward then pixel_end - row % pointer_end * 16 else row % pointer_end * 16

abbrev pub horizontal_pixels : (leftward : Bool) → ℕ
horizontal_pixels leftward = if leftward then pixel_end - 1 else 1

unfoldable pub sometimes_pixels : Line → ℕ
sometimes_pixels line =
    if line.octant.sud then vertical_pixels line.row line.octant.sul else horizontal_pixels line.octant.sul

unfoldable pub always_pixels : Line → ℕ
always_pixels line =
    if line.octant.sud then horizontal_pixels line.octant.aul else vertical_pixels line.row line.octant.aul

-- what follows a dot, where the sign is 0 and where it is 1
unfoldable pub steps : Line → Steps
steps line =
    record {
      clear = record {
        pixels = sometimes_pixels line + always_pixels line;
        gain = line.gains.a;
        vertical = went_vertical line false;
      };
      set = record {
        pixels = always_pixels line;
        gain = line.gains.b;
        vertical = went_vertical line true;
      };
    }

abbrev pub step_by : Steps → (sign : Bool) → Step
step_by steps sign = if sign then steps.set else steps.clear

abbrev pub walked : Step → Mark → Mark
walked step mark =
    record {
      pixel = (mark.pixel + step.pixels) % pixel_end;
      bit = lower mark.bit;
      accumulator = (mark.accumulator + step.gain) % 65536;
      sign = sign_of ((mark.accumulator + step.gain) % 65536);
      first = step.vertical;
    }
