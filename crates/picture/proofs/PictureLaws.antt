-- Laws of a whole line: the numbers that the planes make are the pixels' colour numbers, and the answers in their order.
use Rattle.word.proofs.Base.{◌≡◌, sym, ap, ◌∙◌, ℕ, ◌+◌, ◌<◌, ◌≤◌, arith, Bool, true, false, ◌||◌, not, eqb, leb, not-false}
use Rattle.word.proofs.Base.{lt-ltb, le-ltb, List, ◌++◌, length, get_or, drop}
use lib.Dec.{leb→le}
use Rattle.word.specs.Choice.{every, given}
use Rattle.word.specs.Memory.{memory_size}
use Rattle.file.specs.Places.{file_length}
use Rattle.file.specs.File.{accepted}
use Rattle.file.proofs.FileLaws.{accepted-has-length}
use Rattle.word.proofs.ChoiceLaws.{or_left, or_right, within-when-passed, every-at}
use Rattle.word.proofs.WordLaws.{of_bits-is-pointwise}
use Rattle.playfield.specs.Playfield.{most_planes, most_words, most_delay, Playfield, plane_delay, pixel_at, colour_number}
use Rattle.picture.specs.Line.{colour, pixel_colour, line_pixels, shown_line}
use Rattle.std.specs.Prelude.{Ok, Err}
use Rattle.picture.specs.declared.types.Refusal.TheVariants.{MemorySize, RegisterFile, BadPlayfield, TooShort, Leaves}
use Rattle.picture.specs.Refusal.{refusal, bad_playfield, too_short, leaves}
use Rattle.picture.specs.Refusal as refusals
use Rattle.picture.specs.Picture.{with_line, picture, left}
use Rattle.playfield.specs.Inner.Numbers.{Drawable, place_pixel, Numbered}
use Rattle.picture.specs.Inner.Painted.{painted, number_colour}
use Rattle.playfield.proofs.PlanesLaws.{words_pixel-within}
use Rattle.picture.proofs.PaintedLaws.{painted-in-front, pixels-are-pointwise}

-- within the line a plane's words give what the plane shows
numbered-is-colour_number : (memory : List ℕ) (field : Playfield) (numbers : List ℕ) → Numbered memory field (length field.planes) numbers
    → (i : ℕ) → i < line_pixels field → get_or numbers i 0 ≡ colour_number memory field i
unfolding colour_number pixel_at place_pixel
numbered-is-colour_number memory field numbers all i within =
    all.each i
    ∙ of_bits-is-pointwise (place_pixel memory field i) (pixel_at memory field i) (length field.planes)
    (λ place _. words_pixel-within memory (get_or field.planes place 0) (plane_delay field.odd field.even (place + 1)) field.words i (omega arith))

pub with_line-of-numbers : (memory file : List ℕ) (field : Playfield) (numbers out next : List ℕ) → Numbered memory field (length field.planes) numbers
    → line_pixels field ≤ length out → next ≡ painted (number_colour file numbers) (line_pixels field) out → next ≡ with_line memory file field out
unfolding with_line shown_line number_colour
with_line-of-numbers memory file field numbers out next all fits writes =
    writes
    ∙ painted-in-front (number_colour file numbers) (line_pixels field) out fits
    ∙ ap (λ (front : List ℕ). front ++ drop (line_pixels field) out)
    (pixels-are-pointwise (number_colour file numbers) (pixel_colour memory file field) (line_pixels field)
    (λ i within. ap (colour file) (numbered-is-colour_number memory field numbers all i within)))

-- the answers in their order
module _ (memory file : List ℕ) (field : Playfield) (out : List ℕ) (size : Bool) (of_size : size ≡ memory_size (length memory)) where
  pub picture-of-memory_size : size ≡ true → left (Err MemorySize) out ≡ picture memory file field out
  unfolding picture refusal given
  picture-of-memory_size refused = rw (← of_size, refused)

  module _ (fine : Bool) (of-file : fine ≡ accepted file) (passed : size ≡ false) where
    pub picture-of-file : not fine ≡ true → left (Err RegisterFile) out ≡ picture memory file field out
    unfolding picture refusal given
    picture-of-file refused = rw (← of_size, passed, ← of-file, refused)

    module _ (bad : Bool) (of-playfield : bad ≡ bad_playfield field) (good : not fine ≡ false) where
      pub picture-of-playfield : bad ≡ true → left (Err BadPlayfield) out ≡ picture memory file field out
      unfolding picture refusal given
      picture-of-playfield refused = rw (← of_size, passed, ← of-file, good, ← of-playfield, refused)

      module _ (lawful : bad ≡ false) where
        pub picture-of-too_short : length out < line_pixels field → left (Err TooShort) out ≡ picture memory file field out
        unfolding picture refusal given too_short
        picture-of-too_short short = rw (← of_size, passed, ← of-file, good, ← of-playfield, lawful, lt-ltb (length out) (line_pixels field) short)

        module _ (inside : Bool)
            (of-planes : inside ≡ every (refusals.inside (length memory) field.words field.planes) (length field.planes))
            (room : line_pixels field ≤ length out) where
          pub picture-of-leaves : not inside ≡ true → left (Err Leaves) out ≡ picture memory file field out
          unfolding picture refusal given too_short leaves
          picture-of-leaves refused =
              rw (← of_size, passed, ← of-file, good, ← of-playfield, lawful, le-ltb (length out) (line_pixels field) room, ← of-planes, refused)

          pub picture-when-done : (next : List ℕ) → not inside ≡ false → next ≡ with_line memory file field out → left (Ok tt) next ≡ picture memory file field out
          unfolding picture refusal given too_short leaves
          picture-when-done next stays writes =
              rw (← of_size, passed, ← of-file, good, ← of-playfield, lawful, le-ltb (length out) (line_pixels field) room, ← of-planes, stays)
              (ap (left (Ok tt)) writes)

-- what passes the tests can be drawn
pub file-length-told : (file : List ℕ) (fine : Bool) → fine ≡ accepted file → not fine ≡ false → length file ≡ file_length
file-length-told file fine is good = accepted-has-length file (sym is ∙ not-false fine good)

at_most : (number most : ℕ) → refusals.bad number most ≡ false → number ≤ most
unfolding refusals.bad
at_most number most good = within-when-passed number most (or_right (eqb number 0) (not (leb number most)) good)

module _ (n : ℕ) (field : Playfield) (bad inside : Bool) (of-playfield : bad ≡ bad_playfield field) (lawful : bad ≡ false)
    (of-planes : inside ≡ every (refusals.inside n field.words field.planes) (length field.planes)) (stays : not inside ≡ false) where
  abbrev planes : Bool
  planes = refusals.bad (length field.planes) most_planes

  abbrev words : Bool
  words = refusals.bad field.words most_words

  abbrev odd : Bool
  odd = not (leb field.odd most_delay)

  abbrev even : Bool
  even = not (leb field.even most_delay)

  first_three : (planes || words || odd) ≡ false
  unfolding bad_playfield
  first_three = or_left (planes || words || odd) even (sym of-playfield ∙ lawful)

  first_two : (planes || words) ≡ false
  first_two = or_left (planes || words) odd first_three

  each : (place : ℕ) → place < length field.planes → get_or field.planes place 0 + field.words ≤ n
  unfolding refusals.inside
  each place below =
      leb→le (get_or field.planes place 0 + field.words) n
      (every-at (refusals.inside n field.words field.planes) (length field.planes)
      (rw (← of-planes, not-false inside stays) tt) place below)

  pub drawable-when-passed : Drawable n field
  unfolding bad_playfield
  drawable-when-passed =
      record {
        planes = at_most (length field.planes) most_planes (or_left planes words first_two);
        words = at_most field.words most_words (or_right planes words first_two);
        odd = within-when-passed field.odd most_delay (or_right (planes || words) odd first_three);
        even = within-when-passed field.even most_delay (or_right (planes || words || odd) even (sym of-playfield ∙ lawful));
        inside = each;
      }
