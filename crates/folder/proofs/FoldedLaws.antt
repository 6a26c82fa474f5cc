-- Laws of the folding into a run, step by step: what is left of the job from a place on gives what the whole gives.
use Rattle.std.specs.Prelude.{if◌then◌else◌, Option, Some, None, Ok, Err}
use Rattle.word.proofs.Base.{◌≡◌, refl, sym, ap, ap₂, ◌∙◌, ℕ, ◌+◌, ◌-◌, ◌*◌, ◌<◌, ◌≤◌, zero-add, arith, Bool, true, false, ◌||◌}
use Rattle.word.proofs.Base.{not, eqb, leb, ne_eqb, List, [], ◌∷◌, ◌++◌, length, take, drop, length-append, length-take-le}
use mathlib.Core.Bool.{or-false, or_assoc}
use lib.ListN.{length-drop}
use Rattle.word.specs.Choice.{given}
use Rattle.word.specs.Laid.{laid}
use Rattle.word.proofs.ChoiceLaws.{or_left, or_right, within-when-passed}
use Rattle.word.proofs.LaidLaws.{laid-of-append, laid-as-long}
use Rattle.job.specs.declared.types.Refusal as jobs
use Rattle.job.specs.Step as jobs-numbers
use Rattle.job.specs.declared.types.Step.{Step}
use Rattle.job.specs.Types.{Read}
use Rattle.job.specs.Step.{operands, step_at, read_number}
use Rattle.job.specs.Steps.{Placed, placed, steps_from, steps}
use Rattle.job.proofs.StepLaws.{step_at-moves, step_at-next, read-step, read-end, read-inside}
use Rattle.job.proofs.StepsLaws.{steps-of-step, steps-of-refused, steps-of-end, read_number-of-refused}
use Rattle.job.specs.Length.{job_most}
use Rattle.knowledge.specs.Knowledge.{nothing}
use Rattle.folder.specs.declared.types.Refusal.{Refusal}
use Rattle.folder.specs.Types.{Answer}
use Rattle.folder.specs.Fold.{becomes, learned, raw_words, piece, learned_after, fold_steps, fold_from, fold}
use Rattle.folder.specs.Kept.{keeps_there, keeps_some, kept_from, kept}
use Rattle.folder.specs.Folding.{refused, done, too_long, by_step}
use Rattle.folder.specs.Inner.Put.{Put}
use Rattle.folder.specs.Inner.Folded.{Answers, Folded}

-- the length tested last of all
abbrev pub fitting : (words : ℕ) → (round : Bool) → (room : ℕ) → Answer
fitting words round room =
    if not (leb words room) || not (leb words job_most) then Err (record { why = Refusal.TooLong; place = 0 }) else Ok (record { length = words; round = round })

-- a step has two words at most after its first
operands-few : (step : Step) → operands step ≤ 2
unfolding operands
operands-few (Step.Register place value) = omega arith
operands-few (Step.Size size) = omega arith
operands-few (Step.Store to value) = omega arith
operands-few (Step.Flag value) = omega arith

-- the steps of a job from a place on
abbrev steps_at : (job : List ℕ) → (at : ℕ) → List Placed
steps_at job at = steps_from 0 at (drop at job)

-- how the folding stands at a place of the job and of the run; every word of the job has become at most 197
pub record Stands (n : ℕ) (job out start : List ℕ) (known : List (Option ℕ)) (at from : ℕ) (round : Bool) (run : List ℕ) : Type 0 where
  pub lays : laid (fold_steps n known job (steps_at job from)) at run ≡ laid (fold n job) 0 start
  pub counts : at + length (fold_steps n known job (steps_at job from)) ≡ length (fold n job)
  pub keeps : (round || keeps_some n known (steps_at job from)) ≡ kept n job
  pub gives : by_step (fold n job) (kept n job) out (steps_at job from) ≡ by_step (fold n job) (kept n job) out (steps job)
  pub few : at ≤ from * 197
  pub inside : from ≤ length job
  pub long : length run ≡ length start

pub stands-start : (n : ℕ) (job out run : List ℕ) (known : List (Option ℕ)) → known ≡ nothing → Stands n job out run known 0 0 false run
unfolding fold fold_from kept kept_from
stands-start n job out run known same =
    record {
      lays = rw same;
      counts = rw same (zero-add (length (fold_steps n nothing job (steps job))));
      keeps = rw same;
      gives = refl;
      few = omega arith;
      inside = omega arith;
      long = refl;
    }

module _ (n : ℕ) (job out start : List ℕ) (known : List (Option ℕ)) (at from : ℕ) (round : Bool) (run : List ℕ)
    (stands : Stands n job out start known at from round run) where
  -- the end of the list
  at_last : (answer : Answer) (last : List ℕ) → steps_at job from ≡ [] → answer ≡ fitting at round (length out) → last ≡ run
      → Folded n job out start answer last
  unfolding by_step too_long fold_steps keeps_some laid Answers
  at_last answer last none fits ends-so =
      let all : at ≡ length (fold n job) = omega (arith, ap (λ (list : List Placed). length (fold_steps n known job list)) none, stands.counts) in
      let says : round ≡ kept n job =
      sym (or-false round) ∙ sym (ap (λ (list : List Placed). round || keeps_some n known list) none) ∙ stands.keeps in
      let ends : by_step (fold n job) (kept n job) out [] ≡ by_step (fold n job) (kept n job) out (steps job) =
      sym (ap (λ (list : List Placed). by_step (fold n job) (kept n job) out list) none) ∙ stands.gives in
      record {
        answers = rw (← ends, fits, all, says) (by-test (far || long) refl);
        lays = ends-so ∙ sym (ap (λ (list : List Placed). laid (fold_steps n known job list) at run) none) ∙ stands.lays;
      }
    where
      far : Bool
      far = not (leb (length (fold n job)) (length out))

      long : Bool
      long = not (leb (length (fold n job)) job_most)

      by-test : (over : Bool) → far || long ≡ over
          → Answers (if over then Err (record { why = Refusal.TooLong; place = 0 }) else Ok (record { length = length (fold n job); round = kept n job })) (fold n job) out
          (if over then refused 11 0 out else done (fold n job) (kept n job) out)
      by-test true is = refl
      by-test false is = (
        record {
          counts = refl;
          room = within-when-passed (length (fold n job)) (length out) (or_left far long is);
          few = within-when-passed (length (fold n job)) job_most (or_right far long is);
        },
        refl,
      )

  pub room-to-put : length job ≤ job_most → at < 1000000
  room-to-put short = let few = stands.few in let inside = stands.inside in omega arith

  module _ (read : Read) (reads : read ≡ step_at job from) where
    pub folded-of-end : (found : Option (Step × ℕ)) (answer : Answer) (last : List ℕ) → read ≡ Ok found → found ≡ None
        → answer ≡ fitting at round (length out) → last ≡ run
        → Folded n job out start answer last
    folded-of-end found answer last is same fits = at_last answer last (steps-of-end job from (read-end job from read reads found is same)) fits

    -- what is no step is refused with its own number, at its place, and becomes nothing
    pub folded-of-fault : (why : jobs.Refusal) (last : List ℕ) → read ≡ Err why → last ≡ run
        → Folded n job out start (Err (record { why = Refusal.Step why; place = from })) last
    unfolding by_step read_number given fold_steps piece laid Answers
    folded-of-fault why last same ends =
        let alone = steps-of-refused job from why (sym reads ∙ same) in
        let number : 0 < jobs-numbers.refusal_number why = read_number-of-refused why in
        let some : eqb (jobs-numbers.refusal_number why) 0 ≡ false = ne_eqb (jobs-numbers.refusal_number why) 0 (λ none. omega (arith, number, none)) in
        let here : by_step (fold n job) (kept n job) out (placed from (Err why) ∷ []) ≡ refused (jobs-numbers.refusal_number why) from out = rw some in
        record {
          answers = sym stands.gives ∙ ap (λ (list : List Placed). by_step (fold n job) (kept n job) out list) alone ∙ here;
          lays = ends ∙ sym (ap (λ (list : List Placed). laid (fold_steps n known job list) at run) alone) ∙ stands.lays;
        }

    module _ (found : Option (Step × ℕ)) (is : read ≡ Ok found) (step : Step) (next : ℕ) (same : found ≡ Some (step, next)) where
      -- the step's own words
      pub raw-few : length (take (next - from) (drop from job)) ≤ 3
      raw-few =
          let past = step_at-next job from step next (read-step job from read reads found is step next same) in
          let inside = read-inside job from read reads found is step next same in
          let few = operands-few step in
          omega (arith, length-take-le (next - from) (drop from job) (omega (arith, length-drop from job)))

      raw-of-step : take (next - from) (drop from job) ≡ raw_words job from step
      raw-of-step =
          let past = step_at-next job from step next (read-step job from read reads found is step next same) in
          let many : next - from ≡ 1 + operands step = omega arith in
          ap (λ (count : ℕ). take count (drop from job)) many

      -- a step passed
      module _ (end : ℕ) (after : List (Option ℕ)) (here : Bool) (later : List ℕ)
          (laying : Put n known step (take (next - from) (drop from job)) at run later end after here) where
        put : Put n known step (raw_words job from step) at run later end after here
        put = rw raw-of-step at laying

        pub stands-turn : Stands n job out start after end next (round || here) later
        unfolding by_step read_number given fold_steps piece learned_after keeps_some keeps_there
        stands-turn =
            let reads-step = read-step job from read reads found is step next same in
            let first = steps-of-step job from step next reads-step in
            let on = step_at-moves job from step next reads-step in
            let words : List ℕ = becomes n known step (raw_words job from step) in
            let rest : List ℕ = fold_steps n (learned n known step) job (steps_at job next) in
            let split : fold_steps n known job (steps_at job from) ≡ words ++ rest = ap (λ (list : List Placed). fold_steps n known job list) first in
            let learns : fold_steps n after job (steps_at job next) ≡ rest = ap (λ (k : List (Option ℕ)). fold_steps n k job (steps_at job next)) put.learns in
            let joined = ap length split ∙ length-append words rest in
            let so_far = stands.counts in
            let counts = put.counts in
            let left_over = ap length learns in
            let few = stands.few in
            let little = put.few in
            record {
              lays =
                  ap (λ (list : List ℕ). laid list end later) learns
                  ∙ ap (λ (before : List ℕ). laid rest end before) put.lays
                  ∙ ap (λ (to : ℕ). laid rest to (laid words at run)) put.counts
                  ∙ sym (laid-of-append words rest at run)
                  ∙ sym (ap (λ (list : List ℕ). laid list at run) split)
                  ∙ stands.lays;
              counts = omega arith;
              keeps =
                  or_assoc round here (keeps_some n after (steps_at job next))
                  ∙ ap₂ (λ (yes : Bool) (k : List (Option ℕ)). round || (yes || keeps_some n k (steps_at job next))) put.keeps put.learns
                  ∙ sym (ap (λ (list : List Placed). round || keeps_some n known list) first)
                  ∙ stands.keeps;
              gives = sym (ap (λ (list : List Placed). by_step (fold n job) (kept n job) out list) first) ∙ stands.gives;
              few = omega arith;
              inside = on.1;
              long = laid-as-long words at (length start) run later put.lays stands.long;
            }
