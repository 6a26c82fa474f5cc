-- A frame has room for 14,869 instructions: so many as are done have taken the beam four places on each.
use Rattle.word.proofs.Base.{◌≡◌, ℕ, zero, suc, ◌+◌, ◌*◌, ◌<◌, ◌≤◌, arith, true, false, eqb, leb-false}
use Rattle.word.proofs.ChoiceLaws.{if-either}
use Rattle.beam.specs.Beam.{frame_end}
use Rattle.instruction.specs.Effect.{Moment, moment, effect}
use Rattle.copper.specs.Frame.{refusal, stopped, over, onward, start_refusal, frame_from}
use Rattle.copper_facts.specs.Course.{after, goes}
use Rattle.copper_facts.specs.EveryFrameEnds.{most_instructions, Ends, EveryFrameEnds}
use Rattle.copper_facts.proofs.BeamLaws.{effect-forward}
use Rattle.copper_facts.proofs.CourseLaws.{goes-done, goes-rest, goes_last, onward-wherever}

-- so many that are done have taken the beam four places on each
after-forward : (many : ℕ) (here : Moment) → goes many here ≡ true → here.beam + many * 4 ≤ (after many here).beam
unfolding after
after-forward zero here all = omega arith
after-forward (suc many) here all =
    omega (arith, effect-forward here (goes-done many here all), after-forward many (effect here).moment (goes-rest many here all))

inside-lt : (here : Moment) → over here ≡ false → here.beam < frame_end
unfolding over
inside-lt here inside = leb-false frame_end here.beam inside

-- no more are done than have room
goes-few : (many : ℕ) (here : Moment) → goes many here ≡ true → many ≤ most_instructions
goes-few zero here all = omega arith
goes-few (suc many) here all =
    let last = goes_last many here all in
    omega (arith, inside-lt (after many here) last.1, after-forward many here last.0)

onward-ends : (lent : ℕ) (here : Moment) → Ends lent (onward lent 0 here)
onward-ends lent here =
    onward-wherever (Ends lent) lent 0 here
    (λ many few all past. record {
      few = omega (arith, goes-few many here all);
      never = λ enough used. omega (arith, used);
    })
    (λ all within. record {
      few = omega (arith, goes-few lent here all);
      never = λ enough used. omega (arith, enough, inside-lt (after lent here) within, after-forward lent here all);
    })
    (λ many few all within some. record {
      few = omega (arith, goes-few many here all);
      never = λ enough used. omega (arith, used);
    })

pub every-frame-ends : EveryFrameEnds
unfolding frame_from
every-frame-ends memory file beam start lent =
    if-either (Ends lent) (eqb (start_refusal memory file) 0) (onward lent 0 (moment memory file beam start))
    (stopped refusal (start_refusal memory file) 0 (moment memory file beam 0))
    (onward-ends lent (moment memory file beam start))
    (record {
      few = omega arith;
      never = λ enough used. omega (arith, used);
    })
