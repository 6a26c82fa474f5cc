-- Laws of a widening: the new file's word at each place, its words laid into the target, and its number.
use Rattle.word.proofs.Base.{◌≡◌, sym, ap, ◌∙◌, ℕ, ◌+◌, ◌-◌, ◌<◌, ◌≤◌, dec_lt, arith, Bool, true, false, not, eqb}
use Rattle.word.proofs.Base.{eqb→eq, eq-eqb, ne_eqb, List, [], ◌∷◌, ◌++◌, length, get_or, set, take, drop, length-append}
use Rattle.word.proofs.Base.{List·get_or-eq-default}
use Rattle.std.specs.Prelude.{Ok, Err}
use Rattle.std.proofs.lemmas.List.{set-append_right, drop-replicate}
use lib.ListN.{replicate, length-take, get_or-append}
use lib.Seq.{get_or-take, get_or-append-add}
use Rattle.word.specs.Choice.{given}
use Rattle.word.proofs.ChoiceLaws.{every-at}
use Rattle.file.specs.Places.{file_length, blitter_length, colour_count, copcon, flag}
use Rattle.widen.specs.declared.types.Refusal.TheVariants.{OldFile, TargetLength}
use Rattle.widen.specs.Old.{old_length, old_flag, old_accepted}
use Rattle.widen.specs.Widen.{black, widened, refusal, widening, left}

-- what follows the first 19 words
abbrev following : (old : List ℕ) → List ℕ
following old = 0 ∷ (replicate colour_count black ++ (get_or old old_flag 0 ∷ []))

module _ (old : List ℕ) (long : length old ≡ old_length) where
  first-length : length (take blitter_length old) ≡ blitter_length
  first-length = omega (arith, length-take blitter_length old, long)

  pub widened-length : length (widened old) ≡ file_length
  unfolding widened
  widened-length = omega (arith, length-append (take blitter_length old) (following old), first-length)

  pub widened-of-blitter : (place word : ℕ) → place < blitter_length → word ≡ get_or old place 0 → word ≡ get_or (widened old) place 0
  unfolding widened
  widened-of-blitter place word inside is =
      is
      ∙ sym (get_or-append (take blitter_length old) (following old) 0 place (omega (arith, inside, first-length))
      ∙ get_or-take blitter_length old place 0 inside)

  -- past the first 19 words
  widened-at : (k : ℕ) → get_or (widened old) (blitter_length + k) 0 ≡ get_or (following old) k 0
  unfolding widened
  widened-at k =
      ap (λ (many : ℕ). get_or (widened old) (many + k) 0) (sym first-length)
      ∙ get_or-append-add (take blitter_length old) (following old) k 0

  pub widened-of-flag : (place word : ℕ) → place ≡ flag → word ≡ get_or old old_flag 0 → word ≡ get_or (widened old) place 0
  widened-of-flag place word here is = rw here (is ∙ sym (widened-at 33))

  -- COPCON 0 and black colours; past the file's end 0 too
  pub widened-of-screen : (place : ℕ) → copcon ≤ place → (place ≡ flag → ⊥) → 0 ≡ get_or (widened old) place 0
  widened-of-screen place past other = by_end (dec_lt place flag)
    where
      by_end : Dec (place < flag) → 0 ≡ get_or (widened old) place 0
      by_end (yes inside) =
          let there : blitter_length + (place - blitter_length) ≡ place = omega (arith, past) in
          let none : 0 ≡ get_or (following old) (place - blitter_length) 0 =
          eqb→eq _ _ (every-at (λ (k : ℕ). eqb 0 (get_or (following old) k 0)) 33 tt (place - blitter_length) (omega (arith, past, inside))) in
          none ∙ sym (widened-at (place - blitter_length)) ∙ ap (λ (at : ℕ). get_or (widened old) at 0) there
      by_end (no outside) = sym (List·get_or-eq-default (widened old) 0 (omega (arith, widened-length, outside, other)))

-- black words, over them the first 19, and the flag
pub laid-is-widened : (old filled : List ℕ) (many : ℕ) → length old ≡ old_length → many ≡ file_length → filled ≡ replicate many black
    → set (take blitter_length old ++ drop blitter_length filled) flag (get_or old old_flag 0) ≡ widened old
unfolding widened
laid-is-widened old filled many long all fills =
    ap (λ (rest : List ℕ). set (take blitter_length old ++ rest) flag (get_or old old_flag 0))
    (rw (fills, all) (drop-replicate blitter_length file_length black))
    ∙ set-append_right (take blitter_length old) (replicate 34 black) blitter_length flag (get_or old old_flag 0) (first-length old long) (omega arith)

-- the answers in their order
pub widening-of-old-file : (old target : List ℕ) (fine : Bool) → fine ≡ old_accepted old → not fine ≡ true → left (Err OldFile) target ≡ widening old target
unfolding widening refusal given
widening-of-old-file old target fine is bad = rw (← is, bad)

module _ (old target : List ℕ) (fine : Bool) (is : fine ≡ old_accepted old) (good : not fine ≡ false) where
  pub widening-of-target-length : (length target ≡ file_length → ⊥) → left (Err TargetLength) target ≡ widening old target
  unfolding widening refusal given
  widening-of-target-length other = rw (← is, good, ne_eqb (length target) file_length other)

  pub widening-when-done : (next : List ℕ) → length target ≡ file_length → next ≡ widened old
      → left (Ok tt) next ≡ widening old target
  unfolding widening refusal given
  widening-when-done next fits lays =
      rw (← is, good, eq-eqb (length target) file_length fits)
      (ap (left (Ok tt)) lays)
