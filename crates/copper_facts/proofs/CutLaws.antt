-- Cutting a frame and going on, and a refused one: wherever a frame stops.
use Rattle.std.specs.Prelude.{if◌then◌else◌}
use Rattle.word.proofs.Base.{◌≡◌, refl, sym, ap, ◌∙◌, ℕ, zero, suc, ◌+◌, add-zero, arith, Bool, true, false, not, eqb}
use Rattle.word.proofs.Base.{eq-eqb, ne_eqb, eqb-true, List, length}
use Rattle.word.specs.Choice.{given}
use Rattle.file.specs.File.{accepted}
use Rattle.word.specs.Memory.{memory_size}
use Rattle.instruction.specs.Effect.{Moment, moment, effect}
use Rattle.copper.specs.Frame.{end_of_frame, used_up, refusal, Frame, stopped, over, onward, start_refusal, frame_from}
use Rattle.copper_facts.specs.Course.{after}
use Rattle.copper_facts.specs.AcceptedAgain.{ReadyAt}
use Rattle.copper_facts.specs.CutAndGoOn.{counted_on, ◌going_on◌, CutAndGoOn}
use Rattle.copper_facts.specs.RefusedChangesNothing.{RefusedChangesNothing}
use Rattle.copper_facts.proofs.AcceptedAgainLaws.{after-ready}
use Rattle.copper_facts.proofs.CourseLaws.{onward-goes, onward-wherever, onward-stops-over, onward-stops-used-up, onward-stops-refused}

-- what is taken at the start, and what is taken again
StartsWith : (n : ℕ) → (fine : Bool) → Type 0
StartsWith n fine = (memory_size n ≡ false) × (fine ≡ true)

starts_with : (memory file : List ℕ) → start_refusal memory file ≡ 0 → StartsWith (length memory) (accepted file)
unfolding start_refusal given StartsWith
starts_with memory file starts = by_tests (memory_size (length memory)) (accepted file) starts
  where
    by_tests : (bad fine : Bool) → ◌≡◌ {A = ℕ} (if bad then 1 else if not fine then 2 else 0) 0 → (bad ≡ false) × (fine ≡ true)
    by_tests true fine wrong = absurd (omega (arith, wrong))
    by_tests false true starts = (refl, refl)
    by_tests false false wrong = absurd (omega (arith, wrong))

starts-again : (n : ℕ) (here : Moment) → memory_size n ≡ false → ReadyAt n here → start_refusal here.memory here.file ≡ 0
unfolding start_refusal given
starts-again n here room ready = rw (ready.long, room, ready.fine)

-- a frame that starts
pub frame_from-when-started : (memory file : List ℕ) (beam start lent : ℕ) → start_refusal memory file ≡ 0
    → frame_from memory file beam start lent ≡ onward lent 0 (moment memory file beam start)
unfolding frame_from
frame_from-when-started memory file beam start lent starts = rw (eq-eqb (start_refusal memory file) 0 starts)

-- a frame counts on from what was done before
onward-counts-on : (lent before done : ℕ) (here : Moment) → onward lent (before + done) here ≡ counted_on before (onward lent done here)
unfolding onward
onward-counts-on zero before done here = by_over (over here)
  where
    by_over : (past : Bool)
        → (if past then stopped end_of_frame 0 (before + done) here else stopped used_up 0 (before + done) here)
        ≡ counted_on before (if past then stopped end_of_frame 0 done here else stopped used_up 0 done here)
    by_over true = refl
    by_over false = refl
onward-counts-on (suc lent) before done here =
    let one : suc (before + done) ≡ before + suc done = omega arith in
    by_tests (over here) (eqb (effect here).number 0)
    (ap (λ (count : ℕ). onward lent count (effect here).moment) one ∙ onward-counts-on lent before (suc done) (effect here).moment)
  where
    by_tests : (past none : Bool)
        → onward lent (suc (before + done)) (effect here).moment ≡ counted_on before (onward lent (suc done) (effect here).moment)
        → (if past then stopped end_of_frame 0 (before + done) here else
        if none then onward lent (suc (before + done)) (effect here).moment else
        stopped refusal (effect here).number (before + done) here)
        ≡ counted_on before
        (if past then stopped end_of_frame 0 done here else
        if none then onward lent (suc done) (effect here).moment else
        stopped refusal (effect here).number done here)
    by_tests true none later = refl
    by_tests false true later = later
    by_tests false false later = refl

-- the next call, from where the frame stands
onward-is-next : (n more done : ℕ) (here : Moment) → memory_size n ≡ false → ReadyAt n here
    → onward more done here ≡ counted_on done (frame_from here.memory here.file here.beam here.word more)
onward-is-next n more done here room ready =
    ap (λ (count : ℕ). onward more count here) (sym (add-zero done))
    ∙ onward-counts-on more done 0 here
    ∙ ap (counted_on done)
    (sym (frame_from-when-started here.memory here.file here.beam here.word more (starts-again n here room ready)))

onward-cut : (n lent more : ℕ) (here : Moment) → memory_size n ≡ false → ReadyAt n here
    → onward (lent + more) 0 here ≡ (onward lent 0 here going_on more)
unfolding ◌going_on◌
onward-cut n lent more here room ready =
    onward-wherever (λ (end : Frame). onward (lent + more) 0 here ≡ (end going_on more)) lent 0 here
    (λ many few all past. onward-stops-over many 0 here all (lent + more) (omega (arith, few)) past)
    (λ all within. onward-goes lent more 0 here all ∙ onward-is-next n more (lent + 0) (after lent here) room (after-ready n lent here ready))
    (λ many few all within some. onward-stops-refused many 0 here all within (lent + more) (omega (arith, few)) some)

pub cut-and-go-on : CutAndGoOn
unfolding frame_from ◌going_on◌ StartsWith
cut-and-go-on memory file beam start lent more all = by-start (eqb (start_refusal memory file) 0) refl
  where
    by-start : (fine : Bool) → eqb (start_refusal memory file) 0 ≡ fine
        → (if fine then onward (lent + more) 0 (moment memory file beam start) else
        stopped refusal (start_refusal memory file) 0 (moment memory file beam 0))
        ≡ ((if fine then onward lent 0 (moment memory file beam start) else
        stopped refusal (start_refusal memory file) 0 (moment memory file beam 0)) going_on more)
    by-start true is =
        let fine = starts_with memory file (eqb-true (start_refusal memory file) 0 is) in
        onward-cut (length memory) lent more (moment memory file beam start) fine.0
        (record { long = refl; words = all; fine = fine.1 })
    by-start false is = refl

onward-refused : (lent : ℕ) (here : Moment) → (onward lent 0 here).why ≡ refusal
    → onward (onward lent 0 here).done 0 here ≡ stopped used_up 0 (onward lent 0 here).done (onward lent 0 here).moment
onward-refused lent here =
    onward-wherever
    (λ (end : Frame). end.why ≡ refusal → onward end.done 0 here ≡ stopped used_up 0 end.done end.moment) lent 0 here
    (λ many few all past why. absurd (omega (arith, why)))
    (λ all within why. absurd (omega (arith, why)))
    (λ many few all within some why.
    let same : many + 0 ≡ many = omega arith in
    ap (λ (still : ℕ). onward still 0 here) same ∙ onward-stops-used-up many 0 here all within)

pub refused-changes-nothing : RefusedChangesNothing
unfolding frame_from
refused-changes-nothing memory file beam start lent =
    record {
      before_any = λ some. rw (ne_eqb (start_refusal memory file) 0 some);
      at_one = λ starts why. rw (eq-eqb (start_refusal memory file) 0 starts)
          (onward-refused lent (moment memory file beam start) (rw (eq-eqb (start_refusal memory file) 0 starts) at why));
    }
