-- One plane shows two colours at most: its colour numbers have one bit.
use Rattle.word.proofs.Base.{◌≡◌, refl, ℕ, ◌^◌, ◌<◌, subst, List, length}
use mathlib.Core.Logic.{◌⊎◌, inl, inr}
use Rattle.word.proofs.WordLaws.{bit-cases, of_bits-lt}
use Rattle.playfield.specs.Playfield.{Playfield, pixel_at, colour_number}
use Rattle.picture.specs.Line.{colour}
use Rattle.picture.specs.OnePlaneTwoColours.{OnePlaneTwoColours}
use Rattle.picture.proofs.DelayOfNought.{pixel_at-lt}
use Rattle.picture.proofs.LineLaws.{picture-shows}

colour_number-of-one : (memory : List ℕ) (field : Playfield) (i : ℕ) → length field.planes ≡ 1 → colour_number memory field i < 2
unfolding colour_number
colour_number-of-one memory field i one =
    subst (λ (planes : ℕ). colour_number memory field i < 2 ^ planes) one
    (of_bits-lt (pixel_at memory field i) (length field.planes) (pixel_at-lt memory field i))

pub one-plane-two-colours : OnePlaneTwoColours
one-plane-two-colours memory file field out i one done within =
    rw (picture-shows memory file field out done i within)
    (bit-cases (λ number. (colour file number ≡ colour file 0) ⊎ (colour file number ≡ colour file 1)) (inl refl) (inr refl)
    (colour_number memory field i) (colour_number-of-one memory field i one))
