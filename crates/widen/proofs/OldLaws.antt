-- Laws of the old rule for the old file.
use Rattle.word.proofs.Base.{◌≡◌, sym, ◌∙◌, ℕ, ◌≤◌, Bool, true, false, ◌&&◌, not, eqb, leb, eq-eqb, ne_eqb, eqb-true}
use Rattle.word.proofs.Base.{leb-true, not-false, List, length, get_or}
use Rattle.word.specs.Choice.{every}
use Rattle.word.proofs.ChoiceLaws.{and_left, and_right}
use Rattle.file.specs.Places.{blitter_length}
use Rattle.file.specs.File.{kept_at}
use Rattle.widen.specs.Old.{old_length, old_flag, old_accepted}

pub old_accepted-of-length : (old : List ℕ) → (length old ≡ old_length → ⊥) → false ≡ old_accepted old
unfolding old_accepted
old_accepted-of-length old other = rw (ne_eqb (length old) old_length other)

pub old_accepted-of-kept : (old : List ℕ) (fine : Bool) → length old ≡ old_length → fine ≡ every (kept_at old) blitter_length
    → (fine && leb (get_or old old_flag 0) 1) ≡ old_accepted old
unfolding old_accepted
old_accepted-of-kept old fine long same = rw (eq-eqb (length old) old_length long, same)

-- what an old file has that is accepted
module _ (old : List ℕ) (is : old_accepted old ≡ true) where
  two : (eqb (length old) old_length && every (kept_at old) blitter_length) ≡ true
  unfolding old_accepted
  two = and_left (eqb (length old) old_length && every (kept_at old) blitter_length) (leb (get_or old old_flag 0) 1) is

  pub old_accepted-has-length : length old ≡ old_length
  old_accepted-has-length = eqb-true (length old) old_length (and_left (eqb (length old) old_length) (every (kept_at old) blitter_length) two)

  pub old_accepted-keeps-bits : every (kept_at old) blitter_length ≡ true
  old_accepted-keeps-bits = and_right (eqb (length old) old_length) (every (kept_at old) blitter_length) two

  pub old_accepted-has-flag : get_or old old_flag 0 ≤ 1
  unfolding old_accepted
  old_accepted-has-flag =
      leb-true (get_or old old_flag 0) 1
      (and_right (eqb (length old) old_length && every (kept_at old) blitter_length) (leb (get_or old old_flag 0) 1) is)

-- the same of what the code was told
pub old_accepted-length-told : (old : List ℕ) (fine : Bool) → fine ≡ old_accepted old → not fine ≡ false → length old ≡ old_length
old_accepted-length-told old fine is good = old_accepted-has-length old (sym is ∙ not-false fine good)
