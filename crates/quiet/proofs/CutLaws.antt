-- A blit cut between two rows: the second part begins with the first one's last word stored, where none of its sources
-- fetches that word first.
use Rattle.word.proofs.Base.{◌≡◌, sym, ap, ◌∙◌, ℕ, zero, suc, ◌+◌, ◌-◌, ◌*◌, ◌≤◌, zero-add, add-zero, arith, true}
use Rattle.word.proofs.Base.{List}
use native.Mathlib.Nat.{suc-add}
use Rattle.word.specs.Repeat.{repeated}
use Rattle.area.specs.declared.types.Setup.{Setup}
use Rattle.area.specs.declared.types.Flow.{Flow}
use Rattle.area.specs.Flow.{State, state, nothing}
use Rattle.area.specs.Store.{store_pending}
use Rattle.area.specs.Rows.{one_row, rows, area_blit}
use Rattle.area.proofs.StoreLaws.{waits-if-used}
use Rattle.area.proofs.EarlyLaws.{Clear, one_row-early, store_pending-again}
use Rattle.quiet.specs.Stream.{at_d}
use Rattle.quiet.specs.Quiet.{Quiet, pointers_in}
use Rattle.quiet.proofs.QuietLaws.{rows-pointers, rows-pending}

-- so many steps, and then more
pub repeated-sum : {State : Type 0} (step : State → State) (n more : ℕ) (state : State)
    → repeated (λ _. step) (n + more) state ≡ repeated (λ _. step) more (repeated (λ _. step) n state)
unfolding repeated
repeated-sum step zero more state = rw (zero-add more)
repeated-sum step (suc n) more state = rw (suc-add n more) (repeated-sum step n more (step state))

area_blit-cut : (setup : Setup) (width first more : ℕ) (now : State) → 1 ≤ width
    → (1 ≤ more → Clear setup.uses (rows setup width first now).flow.pending (rows setup width first now).flow.pointers)
    → area_blit setup width more (area_blit setup width first now) ≡ area_blit setup width (first + more) now
unfolding area_blit repeated
area_blit-cut setup width first zero now some clear =
    store_pending-again (rows setup width first now)
    ∙ ap (λ (all : ℕ). store_pending (rows setup width all now)) (sym (add-zero first))
area_blit-cut setup width first (suc more) now some clear =
    ap (λ (after : State). store_pending (rows setup width more after)) (one_row-early setup width (rows setup width first now) some (clear (omega arith)))
    ∙ ap store_pending (sym (repeated-sum (one_row setup width) first (suc more) now))

-- no source fetches first where D stored last
unfoldable pub Seam : Setup → (width first : ℕ) → Flow → Type 0
Seam setup width first flow =
    setup.uses.d ≡ true
    → (setup.uses.a ≡ true → (at_d setup width flow (first * width - 1)).word ≡ (pointers_in setup width first 0 flow.pointers).a.word → ⊥)
    × (setup.uses.b ≡ true → (at_d setup width flow (first * width - 1)).word ≡ (pointers_in setup width first 0 flow.pointers).b.word → ⊥)
    × (setup.uses.c ≡ true → (at_d setup width flow (first * width - 1)).word ≡ (pointers_in setup width first 0 flow.pointers).c.word → ⊥)

pub quiet-cut : (setup : Setup) (width first more : ℕ) (memory : List ℕ) (flow : Flow) → 1 ≤ width → 1 ≤ first * width → flow.pending ≡ nothing
    → Quiet setup width (first * width) flow → (1 ≤ more → Seam setup width first flow)
    → area_blit setup width more (area_blit setup width first (state memory flow)) ≡ area_blit setup width (first + more) (state memory flow)
unfolding Seam
quiet-cut setup width first more memory flow some words none quiet seam =
    area_blit-cut setup width first more (state memory flow) some
    (λ left.
    rw (rows-pointers setup width first memory flow some none quiet, rows-pending setup width first memory flow some none quiet words)
    (record {
      a = λ uses waits is same. let there = waits-if-used _ _ _ waits is in (seam left there.0).0 uses (there.1 ∙ sym same);
      b = λ uses waits is same. let there = waits-if-used _ _ _ waits is in (seam left there.0).1 uses (there.1 ∙ sym same);
      c = λ uses waits is same. let there = waits-if-used _ _ _ waits is in (seam left there.0).2 uses (there.1 ∙ sym same);
    }))
