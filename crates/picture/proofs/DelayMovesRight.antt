-- A line with the same delay on both is the line without, moved right: pixel d + j of each plane is its own bit j, and before
-- pixel d every plane has 0.
use Rattle.word.proofs.Base.{◌≡◌, refl, sym, ap, ◌∙◌, ℕ, zero, suc, ◌+◌, ◌-◌, ◌*◌, ◌%◌, ◌<◌, ◌≤◌, dec_lt, arith, eqb, le-leb}
use Rattle.word.proofs.Base.{List, ◌++◌, length, get_or, take, drop, length-append, length-take-le}
use lib.ListN.{replicate, length-replicate, get_or-replicate, get_or-append}
use lib.Seq.{ext_get_or, get_or-take, get_or-append-add}
use Rattle.word.specs.Word.{of_bits}
use Rattle.word.proofs.ChoiceLaws.{if-either}
use Rattle.word.proofs.WordLaws.{of_bits-is-pointwise}
use Rattle.playfield.specs.Plane.{own_bit, plane_pixel}
use Rattle.playfield.specs.Playfield.{most_delay, Playfield, playfield, plane_delay, pixel_at, colour_number}
use Rattle.picture.specs.Line.{colour, pixel_colour, line_pixels, shown_line}
use Rattle.picture.specs.Refusal.{bad_playfield, too_short, leaves, refusal}
use Rattle.picture.specs.Picture.{with_line}
use Rattle.picture.specs.DelayMovesRight.{delayed_by, DelayMovesRight}
use Rattle.playfield.proofs.PlanesLaws.{plane_pixel-before, plane_pixel-from}
use Rattle.picture.proofs.PaintedLaws.{pixels-length}
use Rattle.picture.proofs.LineLaws.{pixels-at, picture-number, picture-writes}
use Rattle.picture.proofs.DelayOfNought.{plane_pixel-by-zero}

-- the same delay on both is every plane's
plane_delay-of-both : (d number : ℕ) → plane_delay d d number ≡ d
unfolding plane_delay
plane_delay-of-both d number = if-either (λ delay. delay ≡ d) (eqb (number % 2) 1) d d refl refl

of_bits-of-noughts : (f : ℕ → ℕ) (n : ℕ) → ((i : ℕ) → f i ≡ 0) → of_bits f n ≡ 0
unfolding of_bits
of_bits-of-noughts f zero none = refl
of_bits-of-noughts f (suc n) none = rw (none n) (omega (arith, of_bits-of-noughts f n none))

module _ (d : ℕ) (memory planes : List ℕ) (words : ℕ) where
  abbrev delayed : Playfield
  delayed = playfield planes words d d

  abbrev plain : Playfield
  plain = playfield planes words 0 0

  colour_number-before : (i : ℕ) → i < d → colour_number memory delayed i ≡ 0
  unfolding colour_number pixel_at
  colour_number-before i before =
      of_bits-of-noughts (pixel_at memory delayed i) (length planes)
      (λ place. rw (plane_delay-of-both d (place + 1)) (plane_pixel-before memory (get_or planes place 0) d i before))

  colour_number-moved : (j : ℕ) → colour_number memory delayed (d + j) ≡ colour_number memory plain j
  unfolding colour_number pixel_at
  colour_number-moved j =
      of_bits-is-pointwise (pixel_at memory delayed (d + j)) (pixel_at memory plain j) (length planes)
      (λ place _. rw (plane_delay-of-both d (place + 1), plane_delay-of-both 0 (place + 1)) (pixel-moved place))
    where
      pixel-moved : (place : ℕ) → plane_pixel memory (get_or planes place 0) d (d + j) ≡ plane_pixel memory (get_or planes place 0) 0 j
      pixel-moved place =
          let same : d + j - d ≡ j = omega arith in
          plane_pixel-from memory (get_or planes place 0) d (d + j) (omega arith) ∙ ap (own_bit memory (get_or planes place 0)) same
          ∙ sym (plane_pixel-by-zero memory (get_or planes place 0) j)

  refusal-same : (file out : List ℕ) → d ≤ most_delay → refusal memory file delayed out ≡ refusal memory file plain out
  unfolding refusal bad_playfield too_short leaves
  refusal-same file out fits = rw (le-leb d most_delay fits)

-- the line moved, pixel by pixel
module _ (d : ℕ) (memory file planes : List ℕ) (words : ℕ) (rest : List ℕ) where
  abbrev n : ℕ
  n = 16 * words

  abbrev before : List ℕ
  before = replicate d (colour file 0)

  abbrev behind : List ℕ
  behind = shown_line memory file (plain d memory planes words) ++ rest

  shown-length : (field : Playfield) → length (shown_line memory file field) ≡ line_pixels field
  unfolding shown_line
  shown-length field = pixels-length (pixel_colour memory file field) (line_pixels field)

  shown-at : (field : Playfield) (i : ℕ) → i < line_pixels field → get_or (shown_line memory file field) i 0 ≡ pixel_colour memory file field i
  unfolding shown_line
  shown-at field i within = pixels-at (pixel_colour memory file field) (line_pixels field) i within

  at_before : (i : ℕ) → i < d → get_or (before ++ behind) i 0 ≡ colour file 0
  at_before i early =
      get_or-append before behind 0 i (omega (arith, early, length-replicate d (colour file 0)))
      ∙ get_or-replicate d i (colour file 0) 0 early

  at-behind : (j : ℕ) → j < n → get_or (before ++ behind) (d + j) 0 ≡ pixel_colour memory file (plain d memory planes words) j
  at-behind j within =
      ap (λ (many : ℕ). get_or (before ++ behind) (many + j) 0) (sym (length-replicate d (colour file 0)))
      ∙ get_or-append-add before behind j 0
      ∙ get_or-append (shown_line memory file (plain d memory planes words)) rest 0 j (omega (arith, within, shown-length (plain d memory planes words)))
      ∙ shown-at (plain d memory planes words) j within

  moved_at : (i : ℕ) → i < n → get_or (shown_line memory file (delayed d memory planes words)) i 0 ≡ get_or (before ++ behind) i 0
  moved_at i within = shown-at (delayed d memory planes words) i within ∙ by (dec_lt i d)
    where
      by : Dec (i < d) → pixel_colour memory file (delayed d memory planes words) i ≡ get_or (before ++ behind) i 0
      by (yes early) = ap (colour file) (colour_number-before d memory planes words i early) ∙ sym (at_before i early)
      by (no later) =
          let there : d + (i - d) ≡ i = omega arith in
          ap (pixel_colour memory file (delayed d memory planes words)) (sym there)
          ∙ ap (colour file) (colour_number-moved d memory planes words (i - d))
          ∙ sym (at-behind (i - d) (omega arith))
          ∙ ap (λ (at : ℕ). get_or (before ++ behind) at 0) there

  moved-line : shown_line memory file (delayed d memory planes words) ≡ take n (before ++ behind)
  moved-line =
      ext_get_or 0 (shown_line memory file (delayed d memory planes words)) (take n (before ++ behind))
      (shown-length (delayed d memory planes words) ∙ sym (length-take-le n (before ++ behind) long))
      (λ i inside.
      let within : i < n = omega (arith, inside, shown-length (delayed d memory planes words)) in
      moved_at i within ∙ sym (get_or-take n (before ++ behind) i 0 within))
    where
      long : n ≤ length (before ++ behind)
      long =
          omega (
            arith,
            length-append before behind,
            length-append (shown_line memory file (plain d memory planes words)) rest,
            shown-length (plain d memory planes words),
          )

pub delay-moves-right : DelayMovesRight
unfolding with_line
delay-moves-right d memory file planes words out fits = record { number = same; moved = moved }
  where
    same : (delayed_by d memory file planes words out).number ≡ (delayed_by 0 memory file planes words out).number
    same =
        picture-number memory file (delayed d memory planes words) out
        ∙ refusal-same d memory planes words file out fits
        ∙ sym (picture-number memory file (plain d memory planes words) out)

    moved : (delayed_by d memory file planes words out).number ≡ 0
        → (delayed_by d memory file planes words out).out
        ≡ take (16 * words) (replicate d (colour file 0) ++ (delayed_by 0 memory file planes words out).out) ++ drop (16 * words) out
    moved done =
        picture-writes memory file (delayed d memory planes words) out done
        ∙ ap (λ (front : List ℕ). front ++ drop (16 * words) out) (moved-line d memory file planes words (drop (16 * words) out))
        ∙ ap (λ (plain : List ℕ). take (16 * words) (replicate d (colour file 0) ++ plain) ++ drop (16 * words) out)
        (sym (picture-writes memory file (plain d memory planes words) out (sym same ∙ done)))
