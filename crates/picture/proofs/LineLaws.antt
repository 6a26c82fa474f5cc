-- Laws of a line that is done: its number, and what each of its pixels is.
use Rattle.std.specs.Prelude.{if◌then◌else◌}
use Rattle.word.proofs.Base.{◌≡◌, refl, sym, ap, ◌∙◌, ℕ, zero, suc, ◌<◌, dec_lt, arith, Bool, true, false, eqb}
use Rattle.word.proofs.Base.{eqb-true, eqb-false, List, [], ◌∷◌, ◌++◌, get_or, drop}
use lib.ListN.{get_or-append}
use lib.Seq.{get_or_at}
use Rattle.playfield.specs.Playfield.{Playfield}
use Rattle.picture.specs.Line.{pixel_colour, pixels, line_pixels, shown_line}
use Rattle.picture.specs.Refusal.{refusal}
use Rattle.picture.specs.Picture.{Picture, ended, with_line, picture}
use Rattle.picture.proofs.PaintedLaws.{pixels-length}

pub pixels-at : (pixel : ℕ → ℕ) (n i : ℕ) → i < n → get_or (pixels pixel n) i 0 ≡ pixel i
unfolding pixels
pixels-at pixel zero i within = absurd (omega arith)
pixels-at pixel (suc n) i within = by (λ below. pixels-at pixel n i below) (dec_lt i n)
  where
    by : (i < n → get_or (pixels pixel n) i 0 ≡ pixel i) → Dec (i < n) → get_or (pixels pixel n ++ (pixel n ∷ [])) i 0 ≡ pixel i
    by earlier (yes below) =
        get_or-append (pixels pixel n) (pixel n ∷ []) 0 i (omega (arith, below, pixels-length pixel n)) ∙ earlier below
    by earlier (no last) =
        let here : i ≡ n = omega arith in
        rw here (get_or_at (pixels pixel n) (pixel n) [] 0 n (pixels-length pixel n))

module _ (memory file : List ℕ) (field : Playfield) (out : List ℕ) where
  -- what is refused has its number, what is done has 0
  abbrev by : Bool → Picture
  by done =
      if done then ended 0 (with_line memory file field out) else
      ended (refusal memory file field out) out

  pub picture-number : (picture memory file field out).number ≡ refusal memory file field out
  unfolding picture
  picture-number = told (eqb (refusal memory file field out) 0) refl
    where
      told : (done : Bool) → eqb (refusal memory file field out) 0 ≡ done → (by done).number ≡ refusal memory file field out
      told true is = sym (eqb-true (refusal memory file field out) 0 is)
      told false is = refl

  module _ (done : (picture memory file field out).number ≡ 0) where
    pub picture-writes : (picture memory file field out).out ≡ with_line memory file field out
    unfolding picture
    picture-writes = told (eqb (refusal memory file field out) 0) refl
      where
        told : (done : Bool) → eqb (refusal memory file field out) 0 ≡ done → (by done).out ≡ with_line memory file field out
        told true is = refl
        told false is = absurd (eqb-false (refusal memory file field out) 0 is (sym picture-number ∙ done))

    pub picture-shows : (i : ℕ) → i < line_pixels field → get_or (picture memory file field out).out i 0 ≡ pixel_colour memory file field i
    unfolding with_line shown_line
    picture-shows i within =
        ap (λ (out : List ℕ). get_or out i 0) picture-writes
        ∙ get_or-append (shown_line memory file field) (drop (line_pixels field) out) 0 i
        (omega (arith, within, pixels-length (pixel_colour memory file field) (line_pixels field)))
        ∙ pixels-at (pixel_colour memory file field) (line_pixels field) i within
