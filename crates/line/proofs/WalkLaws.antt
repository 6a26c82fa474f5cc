-- Laws of a dot's place as one number: a move is a sum, and the mark after a mark is the mark of the dot after its dot.
use Rattle.std.specs.Prelude.{if◌then◌else◌}
use Rattle.word.proofs.Base.{◌≡◌, refl, sym, ap, ◌∙◌, ℕ, ◌+◌, ◌-◌, ◌*◌, ◌/◌, ◌%◌, ◌^◌, ◌<◌, mod-eq_of_lt, arith, Bool, true, false, not, ◌||◌, eqb, eqb-true, eqb-false}
use native.Mathlib.Nat.{add_assoc}
use Rattle.word.specs.Word.{is_set}
use Rattle.word.specs.Logic.{logic}
use Rattle.word.specs.Pointer.{pointer_end, up, down}
use Rattle.line.specs.declared.types.Line.{Line}
use Rattle.line.specs.declared.types.Spot.{Spot}
use Rattle.line.specs.declared.types.Dot.{Dot}
use Rattle.line.specs.declared.marks.Step.{Step}
use Rattle.line.specs.declared.marks.Steps.{Steps}
use Rattle.line.specs.declared.marks.Mark.{Mark}
use Rattle.line.specs.Texture.{lower}
use Rattle.line.specs.Accumulator.{sign_of}
use Rattle.line.specs.Move.{vertical, right, left, horizontal, sometimes, always, moved_spot}
use Rattle.line.specs.Word.{dot_word}
use Rattle.line.specs.Line.{next}
use Rattle.line.specs.Inner.Walk.{pixel_end, spot_of, dot_of, mark_of, vertical_pixels, horizontal_pixels, sometimes_pixels, always_pixels, steps, step_by, walked}

-- a spot of a word and a shift
spot-of : {word word' shift shift' : ℕ} → word ≡ word' → shift ≡ shift'
    → ◌≡◌ {A = Spot} (record { at = record { word = word }; shift = shift }) (record { at = record { word = word' }; shift = shift' })
spot-of same too = rw (same, too)

vertical-is-pixels : (row : ℕ) (upward : Bool) (pixel : ℕ) → vertical row upward (spot_of pixel) ≡ spot_of (pixel + vertical_pixels row upward)
unfolding vertical
vertical-is-pixels row true pixel = spot-of (omega arith) (omega arith)
vertical-is-pixels row false pixel = spot-of (omega arith) (omega arith)

right-is-pixels : (pixel : ℕ) → right (spot_of pixel) ≡ spot_of (pixel + 1)
unfolding right
right-is-pixels pixel = by-shift (eqb (pixel % 16) 15) refl
  where
    by-shift : (wraps : Bool) → eqb (pixel % 16) 15 ≡ wraps
        → ◌≡◌ {A = Spot} (record { at = if wraps then up (spot_of pixel).at else (spot_of pixel).at; shift = (pixel % 16 + 1) % 16 }) (spot_of (pixel + 1))
    by-shift true wraps = let last = eqb-true (pixel % 16) 15 wraps in spot-of (omega arith) (omega arith)
    by-shift false stays = let before = eqb-false (pixel % 16) 15 stays in spot-of (omega arith) (omega arith)

left-is-pixels : (pixel : ℕ) → left (spot_of pixel) ≡ spot_of (pixel + (pixel_end - 1))
unfolding left
left-is-pixels pixel = by-shift (eqb (pixel % 16) 0) refl
  where
    by-shift : (wraps : Bool) → eqb (pixel % 16) 0 ≡ wraps
        → ◌≡◌ {A = Spot} (record { at = if wraps then down (spot_of pixel).at else (spot_of pixel).at; shift = (pixel % 16 + 15) % 16 }) (spot_of (pixel + (pixel_end - 1)))
    by-shift true wraps = let first = eqb-true (pixel % 16) 0 wraps in spot-of (omega arith) (omega arith)
    by-shift false stays = let after = eqb-false (pixel % 16) 0 stays in spot-of (omega arith) (omega arith)

horizontal-is-pixels : (leftward : Bool) (pixel : ℕ) → horizontal leftward (spot_of pixel) ≡ spot_of (pixel + horizontal_pixels leftward)
horizontal-is-pixels true pixel = left-is-pixels pixel
horizontal-is-pixels false pixel = right-is-pixels pixel

by-sud : {this other : Spot} (pixel one two : ℕ) (sud : Bool) → this ≡ spot_of (pixel + one) → other ≡ spot_of (pixel + two)
    → (if sud then this else other) ≡ spot_of (pixel + (if sud then one else two))
by-sud pixel one two true first second = first
by-sud pixel one two false first second = second

pub sometimes-is-pixels : (line : Line) (pixel : ℕ) → sometimes line (spot_of pixel) ≡ spot_of (pixel + sometimes_pixels line)
unfolding sometimes sometimes_pixels
sometimes-is-pixels line pixel =
    by-sud pixel _ _ line.octant.sud (vertical-is-pixels line.row line.octant.sul pixel) (horizontal-is-pixels line.octant.sul pixel)

always-is-pixels : (line : Line) (pixel : ℕ) → always line (spot_of pixel) ≡ spot_of (pixel + always_pixels line)
unfolding always always_pixels
always-is-pixels line pixel =
    by-sud pixel _ _ line.octant.sud (horizontal-is-pixels line.octant.aul pixel) (vertical-is-pixels line.row line.octant.aul pixel)

-- past the last pixel the first one comes again
pub spot_of-of-remainder : (pixel : ℕ) → spot_of (pixel % pixel_end) ≡ spot_of pixel
spot_of-of-remainder pixel = spot-of (omega arith) (omega arith)

-- the two moves of a dot, where the sign is 0 and where it is 1
moved-when-clear : (line : Line) (pixel : ℕ) → moved_spot line false (spot_of pixel) ≡ spot_of ((pixel + (sometimes_pixels line + always_pixels line)) % pixel_end)
unfolding moved_spot
moved-when-clear line pixel =
    ap (always line) (sometimes-is-pixels line pixel)
    ∙ always-is-pixels line (pixel + sometimes_pixels line)
    ∙ ap spot_of (add_assoc pixel (sometimes_pixels line) (always_pixels line))
    ∙ sym (spot_of-of-remainder (pixel + (sometimes_pixels line + always_pixels line)))

moved-when-set : (line : Line) (pixel : ℕ) → moved_spot line true (spot_of pixel) ≡ spot_of ((pixel + always_pixels line) % pixel_end)
unfolding moved_spot
moved-when-set line pixel = always-is-pixels line pixel ∙ sym (spot_of-of-remainder (pixel + always_pixels line))

-- the mark after a mark
abbrev mark : (pixel bit accumulator : ℕ) → (sign first : Bool) → Mark
mark pixel bit accumulator sign first =
    record { pixel = pixel; bit = bit; accumulator = accumulator; sign = sign; first = first }

lower-of-remainder : (bit : ℕ) → (bit + 15) % 16 % 16 ≡ (bit % 16 + 15) % 16
lower-of-remainder bit = omega arith

walked-by-parts : (line : Line) (pixel bit accumulator : ℕ) (sign first : Bool)
    → dot_of (walked (step_by (steps line) sign) (mark pixel bit accumulator sign first)) ≡ next line (dot_of (mark pixel bit accumulator sign first))
unfolding steps next
walked-by-parts line pixel bit accumulator true first = rw (moved-when-set line pixel, lower-of-remainder bit)
walked-by-parts line pixel bit accumulator false first = rw (moved-when-clear line pixel, lower-of-remainder bit)

pub walked-is-next : (line : Line) (mark : Mark) → dot_of (walked (step_by (steps line) mark.sign) mark) ≡ next line (dot_of mark)
walked-is-next line mark = walked-by-parts line mark.pixel mark.bit mark.accumulator mark.sign mark.first

pub or-true : (test : Bool) → (test || true) ≡ true
or-true true = refl
or-true false = refl

or-false : (test : Bool) → (test || false) ≡ test
or-false true = refl
or-false false = refl

-- a dot and its mark
pub dot_of-of-mark_of : (dot : Dot) → dot.spot.at.word < pointer_end → dot.spot.shift < 16 → dot.bit < 16 → dot_of (mark_of dot) ≡ dot
dot_of-of-mark_of dot word shift bit =
    dot-of dot.accumulator dot.sign dot.first
    (spot-of (omega arith) (omega arith)) (mod-eq_of_lt bit)
  where
    dot-of : {spot spot' : Spot} {bit bit' : ℕ} (accumulator : ℕ) (sign first : Bool) → spot ≡ spot' → bit ≡ bit'
        → ◌≡◌ {A = Dot} (record { spot = spot; bit = bit; accumulator = accumulator; sign = sign; first = first })
        (record { spot = spot'; bit = bit'; accumulator = accumulator; sign = sign; first = first })
    dot-of accumulator sign first same too = rw (same, too)

pub dot_of-of-parts : (mark : Mark) (word shift : ℕ) → word ≡ mark.pixel / 16 % pointer_end → shift ≡ mark.pixel % 16
    → ◌≡◌ {A = Dot} (record {
      spot = record { at = record { word = word }; shift = shift };
      bit = mark.bit % 16;
      accumulator = mark.accumulator;
      sign = mark.sign;
      first = mark.first;
    }) (dot_of mark)
dot_of-of-parts mark word shift there far = rw (there, far)

-- the moves in pixels, by their tests
module _ (row : ℕ) (upward : Bool) where
  pub vertical_pixels-when-up : upward ≡ true → pixel_end - row % pointer_end * 16 ≡ vertical_pixels row upward
  vertical_pixels-when-up rises = rw rises

  pub vertical_pixels-when-down : upward ≡ false → row % pointer_end * 16 ≡ vertical_pixels row upward
  vertical_pixels-when-down falls = rw falls

pub always_pixels-of-move : (line : Line) (pixels : ℕ)
    → pixels ≡ (if not line.octant.sud then vertical_pixels line.row line.octant.aul else horizontal_pixels line.octant.aul)
    → pixels ≡ always_pixels line
unfolding always_pixels
always_pixels-of-move line pixels same = same ∙ exchanged line.octant.sud (horizontal_pixels line.octant.aul) (vertical_pixels line.row line.octant.aul)
  where
    exchanged : (test : Bool) (one other : ℕ) → (if not test then other else one) ≡ (if test then one else other)
    exchanged true one other = refl
    exchanged false one other = refl

pub steps-of-parts : (line : Line) (always sometimes : ℕ) → always ≡ always_pixels line → sometimes ≡ sometimes_pixels line
    → ◌≡◌ {A = Steps} (record {
      clear = record { pixels = sometimes + always; gain = line.gains.a; vertical = true };
      set = record { pixels = always; gain = line.gains.b; vertical = not line.octant.sud };
    }) (steps line)
unfolding steps
steps-of-parts line always sometimes first second = rw (first, second, or-true (not line.octant.sud), or-false (not line.octant.sud))

pub walked-of-parts : (by : Steps) (mark : Mark) (step : Step) (pixel bit accumulator : ℕ) (sign : Bool)
    → step ≡ step_by by mark.sign → pixel ≡ (mark.pixel + step.pixels) % pixel_end → bit ≡ lower mark.bit
    → accumulator ≡ (mark.accumulator + step.gain) % 65536 → sign ≡ sign_of accumulator
    → ◌≡◌ {A = Mark} (record { pixel = pixel; bit = bit; accumulator = accumulator; sign = sign; first = step.vertical })
    (walked (step_by by mark.sign) mark)
walked-of-parts by mark step pixel bit accumulator sign is on low sum told = rw (told, sum, low, on, is)

-- a dot's word, where its bit of the texture is set and where it isn't
module _ (line : Line) (mark : Mark) (c shift a : ℕ) (set : Bool) (word : ℕ)
    (of_shift : shift ≡ mark.pixel % 16) (of-a : a ≡ line.a / 2 ^ shift) (of-set : set ≡ is_set line.texture (mark.bit % 16)) where
  pub dot_word-when-set : set ≡ true → word ≡ logic line.function a 0xFFFF c → word ≡ dot_word line (dot_of mark) c
  unfolding dot_word
  dot_word-when-set holds same = rw (← of-set, holds, ← of_shift, ← of-a) same

  pub dot_word-when-clear : set ≡ false → word ≡ logic line.function a 0 c → word ≡ dot_word line (dot_of mark) c
  unfolding dot_word
  dot_word-when-clear fails same = rw (← of-set, fails, ← of_shift, ← of-a) same
