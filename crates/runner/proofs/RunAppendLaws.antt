-- Laws of a run that follows another: the run of two lists of steps, of words cut at a step boundary, and of a job.
use Rattle.std.specs.Prelude.{if◌then◌else◌, Some, None, Ok, Err}
use Rattle.word.proofs.Base.{◌≡◌, refl, sym, ap, ◌∙◌, ℕ, ◌+◌, ◌≤◌, arith, Bool, true, false, eqb, ne_eqb, List, [], ◌∷◌}
use Rattle.word.proofs.Base.{◌++◌, length, length-append}
use Rattle.blit.specs.Blit.{refused}
use Rattle.job.specs.Types.{Read}
use Rattle.job.specs.Length.{job_most}
use Rattle.job.specs.Steps.{Placed, behind, steps_from, steps}
use Rattle.job.proofs.StepsLaws.{read_number-of-refused}
use Rattle.job.proofs.WellCutLaws.{well_cut, steps-of-append}
use Rattle.runner.specs.Effect.{effect}
use Rattle.runner.specs.Run.{Machine, machine, effect_on, after, End, ended, run_steps, run_from, start_refusal, run}
use Rattle.runner.specs.RunAppend.{joined, ◌followed_by◌, RunAppend}
use Rattle.runner.proofs.StartLaws.{start_refusal-of-other}

pub followed_by-when-done : (end : End) (next : Machine → End) → end.number ≡ 0 → (end followed_by next) ≡ next end.machine
unfolding ◌followed_by◌
followed_by-when-done end next done = ap (λ (n : ℕ). if eqb n 0 then next end.machine else end) done

-- a choice between a run that goes on and one that has ended
by-test : (number place : ℕ) (before : Machine) (on whole : End) (next : Machine → End) (test : Bool)
    → eqb number 0 ≡ test → whole ≡ (on followed_by next)
    → (if test then whole else ended number place before) ≡ ((if test then on else ended number place before) followed_by next)
unfolding ◌followed_by◌
by-test number place before on whole next true same later = later
by-test number place before on whole next false same later =
    ap (λ (done : Bool). if done then next before else ended number place before) (sym same)

pub run_steps-of-append : (these others : List Placed) (before : Machine)
    → run_steps (these ++ others) before ≡ (run_steps these before followed_by run_steps others)
unfolding run_steps ◌followed_by◌
run_steps-of-append [] others before = refl
run_steps-of-append (one ∷ rest) others before =
    by-test (effect_on before one.read).number one.place before (run_steps rest (after before (effect_on before one.read)))
    (run_steps (rest ++ others) (after before (effect_on before one.read))) (run_steps others)
    (eqb (effect_on before one.read).number 0) refl (run_steps-of-append rest others (after before (effect_on before one.read)))

pub run_from-of-append : (at : ℕ) (first rest : List ℕ) (before : Machine) → well_cut first ≡ true
    → run_from at (first ++ rest) before ≡ (run_from at first before followed_by run_from (at + length first) rest)
run_from-of-append at first rest before whole =
    ap (λ (list : List Placed). run_steps list before) (steps-of-append at first rest whole)
    ∙ run_steps-of-append (steps_from 0 at first) (steps_from 0 (at + length first) rest) before

-- behind what is refused nothing is run, so that it doesn't matter what follows
cut_short : (number place : ℕ) (before : Machine) (this other : End) → (number ≡ 0 → ⊥)
    → (if eqb number 0 then this else ended number place before) ≡ (if eqb number 0 then other else ended number place before)
cut_short number place before this other some = rw (ne_eqb number 0 some)

run_steps-behind : (one : Placed) (read : Read) → one.read ≡ read → (later : List Placed) (before : Machine)
    → run_steps (one ∷ behind read (λ _. later)) before ≡ run_steps (one ∷ later) before
unfolding run_steps behind effect refused
run_steps-behind one (Ok (Some (step, next))) reads later before = refl
run_steps-behind one (Ok None) reads later before = refl
run_steps-behind one (Err why) reads later before =
    cut_short (effect_on before one.read).number one.place before _ _
    (λ none. omega (arith, read_number-of-refused why, sym (ap (λ (read : Read). (effect_on before read).number) reads) ∙ none))

run_steps-goes-on : (one : Placed) (these others : List Placed) (before : Machine)
    → run_steps these (after before (effect_on before one.read)) ≡ run_steps others (after before (effect_on before one.read))
    → run_steps (one ∷ these) before ≡ run_steps (one ∷ others) before
unfolding run_steps
run_steps-goes-on one these others before same =
    ap (λ (on : End). if eqb (effect_on before one.read).number 0 then on else ended (effect_on before one.read).number one.place before) same

pub run_steps-of-joined : (these others : List Placed) (before : Machine)
    → run_steps (joined these others) before ≡ run_steps (these ++ others) before
unfolding joined
run_steps-of-joined [] others before = refl
run_steps-of-joined (one ∷ these) others before =
    run_steps-behind one one.read refl (joined these others) before
    ∙ run_steps-goes-on one (joined these others) (these ++ others) before
    (run_steps-of-joined these others (after before (effect_on before one.read)))

pub run-append : RunAppend
unfolding run
run-append memory file first rest cut short =
    let fits : length first ≤ job_most = omega (arith, length-append first rest) in
    ap (λ (number : ℕ). if eqb number 0 then run_from 0 (first ++ rest) start else ended number 0 start)
    (start_refusal-of-other memory file (first ++ rest) first short fits)
    ∙ by-test (start_refusal memory file first) 0 start (run_from 0 first start) (run_from 0 (first ++ rest) start)
    (run_from (length first) rest) (eqb (start_refusal memory file first) 0) refl
    (ap (λ (list : List Placed). run_steps list start) cut
    ∙ run_steps-of-joined (steps first) (steps_from 0 (length first) rest) start
    ∙ run_steps-of-append (steps first) (steps_from 0 (length first) rest) start)
  where
    start : Machine
    start = machine memory file 0 false
