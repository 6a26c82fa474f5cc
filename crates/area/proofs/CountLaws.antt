-- Every word is counted if D is used: a blit's count is its words, or none.
use Rattle.std.specs.Prelude.{if◌then◌else◌}
use Rattle.word.proofs.Base.{◌≡◌, refl, sym, ap, ◌∙◌, ℕ, zero, suc, ◌+◌, ◌*◌, suc-mul, arith, Bool, true, false}
use Rattle.word.specs.Repeat.{repeated}
use Rattle.area.specs.declared.types.Setup.{Setup}
use Rattle.area.specs.Flow.{State}
use Rattle.area.specs.Fetch.{fetch}
use Rattle.area.specs.Finish.{finish}
use Rattle.area.specs.Move.{move_on, row_end}
use Rattle.area.specs.Store.{waiting, wait, count_with, store_pending}
use Rattle.area.specs.Rows.{finished_word, stored_before, one_word, words, row_start, one_row, rows}

-- what one word adds to the count
unfoldable pub each : (used : Bool) → ℕ
each used = if used then 1 else 0

pub each-of-used : (used : Bool) → used ≡ true → each used ≡ 1
unfolding each
each-of-used used uses = rw uses

count_with-is : (used : Bool) (place word stored : ℕ) → count_with (waiting used place word) stored ≡ stored + each used
unfolding count_with each
count_with-is true place word stored = refl
count_with-is false place word stored = omega arith

sums : (a b c : ℕ) → a + b + c ≡ a + (c + b)
sums a b c = omega arith

-- so many turns, each adding the same
more : (before turn remaining step after : ℕ) → turn ≡ before + step → after ≡ turn + remaining * step → after ≡ before + suc remaining * step
more before turn remaining step after one rest =
    rest
    ∙ ap (λ (here : ℕ). here + remaining * step) one
    ∙ sums before step (remaining * step)
    ∙ ap (λ (all : ℕ). before + all) (sym (suc-mul remaining step))

none : (before step : ℕ) → before ≡ before + zero * step
none before step = omega arith

module _ (setup : Setup) (width : ℕ) where
  word_counts : (remaining : ℕ) (now : State) → (store_pending (one_word setup width remaining now)).flow.stored ≡ (store_pending now).flow.stored + each setup.uses.d
  unfolding one_word stored_before store_pending wait move_on finished_word finish fetch
  word_counts remaining now =
      count_with-is setup.uses.d now.flow.pointers.d.word (finished_word setup width remaining now).word (count_with now.flow.pending now.flow.stored)

  words-count-all : (remaining : ℕ) (now : State) → (store_pending (words setup width remaining now)).flow.stored ≡ (store_pending now).flow.stored + remaining * each setup.uses.d
  unfolding repeated
  words-count-all zero now = none (store_pending now).flow.stored (each setup.uses.d)
  words-count-all (suc remaining) now =
      more _ _ remaining (each setup.uses.d) _ (word_counts remaining now) (words-count-all remaining (one_word setup width remaining now))

  row_counts : (now : State) → (store_pending (one_row setup width now)).flow.stored ≡ (store_pending now).flow.stored + width * each setup.uses.d
  unfolding one_row row_start row_end store_pending
  row_counts now = words-count-all width (row_start setup now)

  pub rows-count-all : (remaining : ℕ) (now : State)
      → (store_pending (rows setup width remaining now)).flow.stored ≡ (store_pending now).flow.stored + remaining * (width * each setup.uses.d)
  unfolding repeated
  rows-count-all zero now = none (store_pending now).flow.stored (width * each setup.uses.d)
  rows-count-all (suc remaining) now =
      more _ _ remaining (width * each setup.uses.d) _ (row_counts now) (rows-count-all remaining (one_row setup width now))
