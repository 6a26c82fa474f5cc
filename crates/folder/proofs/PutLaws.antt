-- Laws of a step laid: what it becomes, how many words those are, and what is known after it.
use Rattle.std.specs.Prelude.{Option}
use Rattle.word.proofs.Base.{◌≡◌, sym, ap, ◌∙◌, ℕ, ◌+◌, ◌*◌, ◌≤◌, arith, Bool, true, false, ◌&&◌, eqb, leb}
use Rattle.word.proofs.Base.{leb-true, List, length, length-append}
use Rattle.word.specs.Laid.{laid}
use Rattle.word.specs.Size.{height, width}
use Rattle.word.specs.declared.types.Pointer.{Pointer}
use Rattle.word.proofs.ChoiceLaws.{and_left, and_right}
use Rattle.file.specs.File.{con0}
use Rattle.word.specs.Control.{function}
use Rattle.job.specs.declared.types.Step.{Step}
use Rattle.stores.specs.Stores.{stores, final_d}
use Rattle.stores.proofs.StoresLaws.{stores-length}
use Rattle.settled.specs.Words.{stores_words, settled_words}
use Rattle.settled.proofs.RunLaws.{stores_words-length}
use Rattle.knowledge.specs.Knowledge.{numbers}
use Rattle.learning.specs.Learn.{written, forgotten, moved_d}
use Rattle.refusal.specs.Refusal.{step_refusal}
use Rattle.settled.specs.declared.types.Fate.{Fate}
use Rattle.settled.specs.Settled.{controls_known, only_d_used, sources_known, otherwise_settled, settled, kept_for_round}
use Rattle.settled.specs.Inner.Fate.{fate}
use Rattle.settled.proofs.SettledLaws.{fate-settled, fate-round, fate-kept, settled-is-otherwise, settled-is-not-kept}
use Rattle.folder.specs.Fold.{becomes, learned}
use Rattle.folder.specs.Kept.{keeps_for_round}
use Rattle.folder.specs.Inner.Put.{Put}

-- the words of a settled blit
settled_words-length : (file : List ℕ) (size : ℕ) → length (settled_words file size) ≡ 3 * (height size * width size) + 5
unfolding settled_words
settled_words-length file size =
    length-append (stores_words (stores file size)) _
    ∙ ap (λ (many : ℕ). many + 5) (stores_words-length (stores file size) ∙ ap (λ (many : ℕ). 3 * many) (stores-length file size))

-- a settled blit laid, the place behind it, and what is known after it
module _ (size : ℕ) (known : List (Option ℕ)) (file : List ℕ) (same : file ≡ numbers known) where
  pub put-blit-of-parts : (at : ℕ) (run next : List ℕ) → next ≡ laid (settled_words file size) at run → next ≡ laid (settled_words (numbers known) size) at run
  put-blit-of-parts at run next lays = rw same at lays

  pub put-blit-end : (at to : ℕ) → to ≡ at + length (settled_words file size) → to ≡ at + length (settled_words (numbers known) size)
  put-blit-end at to ends = rw same at ends

  pub settled-known-of-parts : (after : List (Option ℕ)) (end : Pointer) → end ≡ final_d file size → after ≡ moved_d end known
      → after ≡ moved_d (final_d (numbers known) size) known
  settled-known-of-parts after end ends moves = rw (ends ∙ ap (λ (f : List ℕ). final_d f size) same) at moves

-- a 058, settled or kept
module _ (n size : ℕ) (known : List (Option ℕ)) (told : Fate) (is : told ≡ fate n known size) where
  -- a settled blit has at most 64 words
  pub few-when-settled : told ≡ Fate.Settled → height size * width size ≤ 64
  unfolding otherwise_settled
  few-when-settled same =
      let before : Bool = controls_known known && only_d_used (con0 (numbers known)) && eqb (step_refusal n (numbers known) size) 0 in
      let small : Bool = leb (height size * width size) 64 in
      leb-true (height size * width size) 64
      (and_right before small
      (and_left (before && small) (sources_known (function (con0 (numbers known))) known)
      (settled-is-otherwise n known size (fate-settled n size known told is same))))

  module _ (at : ℕ) (raw run next : List ℕ) (end : ℕ) (after : List (Option ℕ)) where
    pub put-when-settled : told ≡ Fate.Settled → next ≡ laid (settled_words (numbers known) size) at run
        → end ≡ at + length (settled_words (numbers known) size) → after ≡ moved_d (final_d (numbers known) size) known
        → Put n known (Step.Size size) raw at run next end after false
    unfolding becomes learned keeps_for_round
    put-when-settled same lays counts moves =
        let holds = fate-settled n size known told is same in
        let small = few-when-settled same in
        record {
          lays = rw holds lays;
          counts = rw holds counts;
          few = omega (arith, settled_words-length (numbers known) size);
          learns = rw holds moves;
          keeps = sym (settled-is-not-kept n known size holds);
        }

    -- kept, and the yes it is kept with
    module _ (inside : length raw ≤ 3) (lays : next ≡ laid raw at run) (counts : end ≡ at + length raw) (forgets : after ≡ forgotten known) where
      put-when-not : (says : Bool) → settled n known size ≡ false → kept_for_round n known size ≡ says
          → Put n known (Step.Size size) raw at run next end after says
      unfolding becomes learned keeps_for_round
      put-when-not says fails tells =
          record {
            lays = rw fails lays;
            counts = rw fails counts;
            few = omega arith;
            learns = rw fails forgets;
            keeps = sym tells;
          }

      pub put-when-round : told ≡ Fate.KeptForRound → Put n known (Step.Size size) raw at run next end after true
      put-when-round same = let tells = fate-round n size known told is same in put-when-not true tells.0 tells.1

      pub put-when-kept : told ≡ Fate.Kept → Put n known (Step.Size size) raw at run next end after false
      put-when-kept same = let tells = fate-kept n size known told is same in put-when-not false tells.0 tells.1

-- a step by its kind
module _ (n at : ℕ) (known : List (Option ℕ)) (raw run next : List ℕ) (step : Step) (end : ℕ) (after : List (Option ℕ)) (round : Bool) where
  pub put-of-size : (size : ℕ) → step ≡ Step.Size size → Put n known (Step.Size size) raw at run next end after round
      → Put n known step raw at run next end after round
  put-of-size size same put = rw same put

  module _ (inside : length raw ≤ 3) (lays : next ≡ laid raw at run) (counts : end ≡ at + length raw) (no : round ≡ false) where
    pub put-of-register : (place value : ℕ) → step ≡ Step.Register place value → after ≡ written place value known
        → Put n known step raw at run next end after round
    unfolding becomes learned keeps_for_round
    put-of-register place value same writes =
        rw same (record { lays = lays; counts = counts; few = omega arith; learns = writes; keeps = no })

    pub put-of-store : (to value : ℕ) → step ≡ Step.Store to value → after ≡ known → Put n known step raw at run next end after round
    unfolding becomes learned keeps_for_round
    put-of-store to value same stays =
        rw same (record { lays = lays; counts = counts; few = omega arith; learns = stays; keeps = no })

    pub put-of-flag : (value : ℕ) → step ≡ Step.Flag value → after ≡ known → Put n known step raw at run next end after round
    unfolding becomes learned keeps_for_round
    put-of-flag value same stays =
        rw same (record { lays = lays; counts = counts; few = omega arith; learns = stays; keeps = no })
