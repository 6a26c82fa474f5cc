-- A widened file is accepted: its first 19 words are the old file's, 0 has no bit that isn't kept, and the flag is 0 or 1.
use Rattle.word.proofs.Base.{◌≡◌, refl, ℕ, ◌<◌, dec_lt, arith, true, eqb→eq, eq-eqb, List, length, get_or}
use lib.Bits.{and_zero_l}
use Rattle.word.proofs.ChoiceLaws.{every-at, every-of-each}
use Rattle.file.specs.Places.{file_length, blitter_length, flag}
use Rattle.file.specs.File.{registers, kept_bits, kept, kept_at, accepted}
use Rattle.file.proofs.FileLaws.{kept-of-bits, kept_at-of-word}
use Rattle.widen.specs.Old.{old_flag, old_accepted}
use Rattle.widen.specs.Widen.{widened}
use Rattle.widen.specs.WidenedIsAccepted.{WidenedIsAccepted}
use Rattle.widen.proofs.OldLaws.{old_accepted-has-length, old_accepted-keeps-bits, old_accepted-has-flag}
use Rattle.widen.proofs.WidenLaws.{widened-length, widened-of-blitter, widened-of-flag, widened-of-screen}

kept-of-zero : (place : ℕ) → kept place 0 ≡ 0
unfolding kept
kept-of-zero place = and_zero_l (get_or kept_bits place 0)

flag-bits : get_or kept_bits flag 0 ≡ 1
unfolding kept_bits registers
flag-bits = refl

module _ (old : List ℕ) (fine : old_accepted old ≡ true) where
  long : length old ≡ 20
  long = old_accepted-has-length old fine

  kept-of-blitter : (place : ℕ) → place < blitter_length → kept place (get_or old place 0) ≡ get_or old place 0
  unfolding kept_at
  kept-of-blitter place inside =
      eqb→eq _ _ (every-at (kept_at old) blitter_length (rw (old_accepted-keeps-bits old fine) tt) place inside)

  each : (place : ℕ) → place < file_length → kept_at (widened old) place ≡ true
  each place inside = by_place (dec_lt place blitter_length) (dec_lt place flag)
    where
      by_place : Dec (place < blitter_length) → Dec (place < flag) → kept_at (widened old) place ≡ true
      by_place (yes first) end =
          kept_at-of-word (widened old) place (get_or old place 0) (widened-of-blitter old long place _ first refl) (kept-of-blitter place first)
      by_place (no past) (yes before) =
          kept_at-of-word (widened old) place 0 (widened-of-screen old long place (omega (arith, past)) (λ same. omega (arith, same, before))) (kept-of-zero place)
      by_place (no past) (no last) =
          let here : place ≡ flag = omega (arith, inside, last) in
          kept_at-of-word (widened old) place (get_or old old_flag 0) (widened-of-flag old long place _ here refl)
          (rw here (kept-of-bits flag (get_or old old_flag 0) 1 flag-bits (omega (arith, old_accepted-has-flag old fine))))

pub widened-is-accepted : WidenedIsAccepted
unfolding accepted
widened-is-accepted old fine =
    rw (eq-eqb (length (widened old)) file_length (widened-length old (old_accepted-has-length old fine)))
    (every-of-each (kept_at (widened old)) file_length (each old fine))
