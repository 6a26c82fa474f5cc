-- Laws of the blit: what it writes back, and how it is put together from its parts.
use Rattle.std.specs.Prelude.{if◌then◌else◌, Result, Ok, Err, IsErrAnd}
use Rattle.word.proofs.Base.{◌≡◌, refl, ap, ℕ, ◌+◌, ◌*◌, ◌<◌, ◌≤◌, arith, Bool, true, false, eqb, eqb-true, ne_eqb, List, length}
use Rattle.word.proofs.Base.{length-set}
use native.Mathlib.Nat.{mul-one, mul-zero}
use Rattle.word.specs.declared.types.Pointer.{Pointer}
use Rattle.word.specs.Types.{Uses}
use Rattle.word.specs.Pointer.{pointer_end}
use Rattle.word.specs.Size.{height, width}
use Rattle.word.proofs.SizeLaws.{height-le, words-le}
use Rattle.area.specs.declared.types.Flow.{Flow}
use Rattle.refusal.specs.declared.types.Refusal.{Refusal}
use Rattle.refusal.specs.declared.types.AreaPlan.{AreaPlan}
use Rattle.refusal.specs.declared.types.LinePlan.{LinePlan}
use Rattle.refusal.specs.declared.types.Plan.{Plan}
use Rattle.refusal.specs.declared.types.Plan.TheVariants as plans
use Rattle.blit.specs.declared.types.Done.{Done}
use Rattle.area.specs.Setup.{shifts, setup}
use Rattle.area.specs.Flow.{State, state, nothing, sources, start_from, start}
use Rattle.area.specs.Store.{store_pending, count_with}
use Rattle.area.specs.Rows.{area_blit}
use Rattle.area.proofs.RowsLaws.{area_blit-keeps-length}
use Rattle.area.proofs.CountLaws.{each, rows-count-all}
use Rattle.word.specs.Control.{line}
use Rattle.file.specs.File.{con1}
use Rattle.line.specs.declared.types.Drawn.{Drawn}
use Rattle.line.specs.Setup.{line_setup}
use Rattle.line.specs.Dot.{first_dot}
use Rattle.line.specs.Line as lines
use Rattle.line.specs.Line.{begun, line_blit}
use Rattle.line.specs.Leave.{leave}
use Rattle.line.proofs.DotsLaws.{line_blit-keeps-length, line_blit-counts}
use Rattle.refusal.specs.Plan.{area_plan, line_plan, plan}
use Rattle.refusal.proofs.PlanLaws.{line_or_area-cases, area-bit, area-of-plan, line-bit, line-of-plan}
use Rattle.refusal.specs.Refusal.{step_refusal, refusal, verdict_number, handed}
use Rattle.refusal.proofs.RefusalLaws.{plan-lt-a, plan-lt-b, plan-lt-c, plan-lt-d, refusal-is-some}
use Rattle.round.specs.Channel.{area_round}
use Rattle.round.specs.Line.{line_round}
use Rattle.round.specs.Round.{goes_round}
use Rattle.file.specs.Pointers.{put_flag}
use Rattle.blit.specs.WriteBack.{put_pointer, put_pointers, put_source, put_sources, write_back}
use Rattle.blit.specs.Blit.{Outcome, finished, drawn, area_done, line_done, done, refused, answered, blit_step, blit, left}

pub write_back-of-parts : (uses : Uses) (end : Flow) (file one two three : List ℕ)
    → one ≡ put_pointers uses end.pointers file
    → two ≡ put_sources uses end.sources one
    → three ≡ put_flag end.allzero two
    → three ≡ write_back uses end file
write_back-of-parts uses end file one two three points sources flags = rw (flags, sources, points)

-- what a blit goes by
module _ (file : List ℕ) (size : ℕ) (by : AreaPlan) (same : by ≡ area_plan file size) where
  pub plan-shifts-a : by.setup.shifts.a < 16
  unfolding setup shifts
  plan-shifts-a = rw same (omega arith)

  pub plan-shifts-b : by.setup.shifts.b < 16
  unfolding setup shifts
  plan-shifts-b = rw same (omega arith)

-- how a blit starts: where its pointers stand, with none waiting and none stored
module _ (file : List ℕ) (size : ℕ) (by : AreaPlan) (flow : Flow) (same : by ≡ area_plan file size) (starts : flow ≡ start_from by.pointers (sources file)) where
  pub start-a : flow.pointers.a.word < pointer_end
  start-a = rw starts (plan-lt-a file size by same)

  pub start-b : flow.pointers.b.word < pointer_end
  start-b = rw starts (plan-lt-b file size by same)

  pub start-c : flow.pointers.c.word < pointer_end
  start-c = rw starts (plan-lt-c file size by same)

  pub start-d : flow.pointers.d.word < pointer_end
  start-d = rw starts (plan-lt-d file size by same)

  pub start-nothing : flow.pending ≡ nothing
  start-nothing = ap (λ (flow : Flow). flow.pending) starts

  pub start-room : flow.stored + by.height * 64 < 4294967232
  start-room = rw (starts, same) (omega (arith, height-le size))

pub finished-of-parts : (file : List ℕ) (size : ℕ) (by : AreaPlan) (memory after : List ℕ) (flow end : Flow)
    → by ≡ area_plan file size
    → flow ≡ start_from by.pointers (sources file)
    → state after end ≡ area_blit by.setup by.width by.height (state memory flow)
    → state after end ≡ finished memory file size
unfolding finished start
finished-of-parts file size by memory after flow end same starts does = rw (starts, same) at does

pub area_done-of-parts : (file : List ℕ) (size : ℕ) (by : AreaPlan) (round : Bool) (memory after changed : List ℕ) (end : Flow)
    → by ≡ area_plan file size
    → round ≡ area_round by
    → state after end ≡ finished memory file size
    → changed ≡ write_back by.setup.uses end file
    → left (Ok (record { stored = end.stored; round = round })) after changed ≡ area_done file (area_round (area_plan file size)) (finished memory file size)
unfolding area_done
area_done-of-parts file size by round memory after changed end same tells does writes = rw (← does, writes, tells, same)

-- a line by its plan
module _ (file : List ℕ) (size : ℕ) (by : LinePlan) (same : by ≡ line_plan file size) where
  pub course-room : by.dots < 4294967295
  course-room = rw same (omega (arith, height-le size))

  pub line_done-of-parts : (round : Bool) (memory after changed : List ℕ) (end : Drawn)
      → round ≡ line_round by
      → lines.state after end ≡ line_blit by.line by.dots (lines.state memory (begun by.first))
      → changed ≡ leave end file
      → left (Ok (record { stored = end.stored; round = round })) after changed ≡ line_done file (line_round (line_plan file size)) (drawn memory file size)
  unfolding line_done drawn
  line_done-of-parts round memory after changed end tells does leaves = rw (leaves, tells, ← (rw same at does), same)

-- no test both holds and fails
pub not-both : {test : Bool} → test ≡ true → test ≡ false → ⊥
not-both holds fails = let n : ◌≡◌ {A = ℕ} 0 1 = cc in absurd (omega arith)

-- a blit that is done has the number 0
pub done-number : (memory file : List ℕ) (size : ℕ) → (done memory file size).number ≡ 0
unfolding done area_done line_done
done-number memory file size =
    line_or_area-cases (λ (outcome : Outcome). outcome.number ≡ 0) file (line_done file (goes_round file size) (drawn memory file size))
    (area_done file (goes_round file size) (finished memory file size)) (λ _. refl) (λ _. refl)

-- and gives the yes of its moves
pub done-round : (memory file : List ℕ) (size : ℕ) → (done memory file size).round ≡ goes_round file size
unfolding done area_done line_done
done-round memory file size =
    line_or_area-cases (λ (outcome : Outcome). outcome.round ≡ goes_round file size) file
    (line_done file (goes_round file size) (drawn memory file size))
    (area_done file (goes_round file size) (finished memory file size)) (λ _. refl) (λ _. refl)

-- a lawful blit is a line or an area blit, as the plan says
module _ (file : List ℕ) (size : ℕ) (by : Plan) (same : by ≡ plan file size) where
  pub area-by-plan : (area : AreaPlan) → by ≡ plans.Area area → area ≡ area_plan file size
  area-by-plan area is = area-of-plan file size by same area is

  pub line-by-plan : (course : LinePlan) → by ≡ plans.Line course → course ≡ line_plan file size
  line-by-plan course is = line-of-plan file size by same course is

  module _ (memory : List ℕ) (outcome : Outcome) where
    pub done-of-area : (area : AreaPlan) → by ≡ plans.Area area → outcome ≡ area_done file (area_round (area_plan file size)) (finished memory file size)
        → outcome ≡ done memory file size
    unfolding done goes_round
    done-of-area area is does = rw (area-bit file size by same area is) does

    pub done-of-line : (course : LinePlan) → by ≡ plans.Line course → outcome ≡ line_done file (line_round (line_plan file size)) (drawn memory file size)
        → outcome ≡ done memory file size
    unfolding done goes_round
    done-of-line course is does = rw (line-bit file size by same course is) does

-- the plan is the one that its verdict hands on
pub plan-of-verdict : (file : List ℕ) (size : ℕ) (verdict : Result Plan Refusal) (by : Plan) → verdict ≡ Ok by
    → handed verdict (plan file size) ≡ plan file size → by ≡ plan file size
plan-of-verdict file size verdict by lawful hands = rw lawful at hands

-- a blit by its verdict: done, or refused
module _ (memory file : List ℕ) (size : ℕ) (verdict : Result Plan Refusal) where
  answered-when-lawful : (by : Plan) (outcome : Outcome) → verdict ≡ Ok by → outcome ≡ done memory file size
      → outcome ≡ answered (verdict_number verdict) memory file size
  unfolding answered
  answered-when-lawful by outcome lawful does = rw lawful does

  answered-when-refused : (why : Refusal) (answer : Result Done Refusal) → verdict ≡ Err why → IsErrAnd answer (λ reason. reason ≡ why)
      → left answer memory file ≡ answered (verdict_number verdict) memory file size
  unfolding answered refused
  answered-when-refused why (Ok done) against passed = absurd passed
  answered-when-refused why (Err reason) against passed = rw (against, refusal-is-some why, passed)

  module _ (tells : verdict_number verdict ≡ refusal (length memory) file size) where
    pub blit-when-lawful : (by : Plan) (outcome : Outcome) → verdict ≡ Ok by → outcome ≡ done memory file size → outcome ≡ blit memory file size
    unfolding blit
    blit-when-lawful by outcome lawful does = rw (← tells) (answered-when-lawful by outcome lawful does)

    pub blit-when-refused : (why : Refusal) (answer : Result Done Refusal) → verdict ≡ Err why → IsErrAnd answer (λ reason. reason ≡ why)
        → left answer memory file ≡ blit memory file size
    unfolding blit
    blit-when-refused why answer against passed = rw (← tells) (answered-when-refused why answer against passed)

  module _ (tells : verdict_number verdict ≡ step_refusal (length memory) file size) where
    pub blit_step-when-lawful : (by : Plan) (outcome : Outcome) → verdict ≡ Ok by → outcome ≡ done memory file size → outcome ≡ blit_step memory file size
    unfolding blit_step
    blit_step-when-lawful by outcome lawful does = rw (← tells) (answered-when-lawful by outcome lawful does)

    pub blit_step-when-refused : (why : Refusal) (answer : Result Done Refusal) → verdict ≡ Err why → IsErrAnd answer (λ reason. reason ≡ why)
        → left answer memory file ≡ blit_step memory file size
    unfolding blit_step
    blit_step-when-refused why answer against passed = rw (← tells) (answered-when-refused why answer against passed)

-- what a blit keeps: the lengths of memory and file
put_pointer-keeps-length : (used : Bool) (place : ℕ) (pointer : Pointer) (file : List ℕ) → length (put_pointer used place pointer file) ≡ length file
unfolding put_pointer
put_pointer-keeps-length true place pointer file = simp length-set
put_pointer-keeps-length false place pointer file = refl

put_source-keeps-length : (used : Bool) (place word : ℕ) (file : List ℕ) → length (put_source used place word file) ≡ length file
unfolding put_source
put_source-keeps-length true place word file = simp length-set
put_source-keeps-length false place word file = refl

area_done-keeps-length : (file : List ℕ) (round : Bool) (end : State) → length (area_done file round end).file ≡ length file
unfolding area_done put_flag put_sources put_pointers
area_done-keeps-length file round end = simp (length-set, put_source-keeps-length, put_pointer-keeps-length)

line_done-keeps-length : (file : List ℕ) (round : Bool) (end : lines.State) → length (line_done file round end).file ≡ length file
unfolding line_done leave put_flag
line_done-keeps-length file round end = simp length-set

-- what holds of a line that is done, of an area blit that is done, and of a blit that is refused
pub answered-cases : (Holds : Outcome → Type 0) (number : ℕ) (memory file : List ℕ) (size : ℕ)
    → (number ≡ 0 → line (con1 file) ≡ true → Holds (line_done file (goes_round file size) (drawn memory file size)))
    → (number ≡ 0 → line (con1 file) ≡ false → Holds (area_done file (goes_round file size) (finished memory file size)))
    → Holds (refused number memory file) → Holds (answered number memory file size)
unfolding answered done
answered-cases Holds number memory file size first second third = by_number (eqb number 0) refl
  where
    by_number : (none : Bool) → eqb number 0 ≡ none → Holds (if none then done memory file size else refused number memory file)
    by_number true lawful =
        line_or_area-cases Holds file (line_done file (goes_round file size) (drawn memory file size))
        (area_done file (goes_round file size) (finished memory file size))
        (first (eqb-true number 0 lawful)) (second (eqb-true number 0 lawful))
    by_number false against = third

pub answered-either : (Holds : Outcome → Type 0) (number : ℕ) (memory file : List ℕ) (size : ℕ)
    → Holds (line_done file (goes_round file size) (drawn memory file size)) → Holds (area_done file (goes_round file size) (finished memory file size))
    → Holds (refused number memory file) → Holds (answered number memory file size)
answered-either Holds number memory file size first second third =
    answered-cases Holds number memory file size (λ _ _. first) (λ _ _. second) third

pub answered-keeps-memory-length : (number : ℕ) (memory file : List ℕ) (size : ℕ)
    → length (answered number memory file size).memory ≡ length memory
unfolding area_done line_done refused finished drawn
answered-keeps-memory-length number memory file size =
    answered-either (λ (end : Outcome). length end.memory ≡ length memory) number memory file size
    (line_blit-keeps-length (line_setup file) (height size) (lines.state memory (begun (first_dot file))))
    (area_blit-keeps-length (setup file) (width size) (height size) (state memory (start file))) refl

pub answered-keeps-file-length : (number : ℕ) (memory file : List ℕ) (size : ℕ)
    → length (answered number memory file size).file ≡ length file
unfolding refused
answered-keeps-file-length number memory file size =
    answered-either (λ (end : Outcome). length end.file ≡ length file) number memory file size
    (line_done-keeps-length file (goes_round file size) (drawn memory file size))
    (area_done-keeps-length file (goes_round file size) (finished memory file size)) refl

-- an area blit stores at most 1,024 rows of 64 words, a line at most a word a row
words-each-le : (size : ℕ) (used : Bool) → height size * (width size * each used) ≤ 65536
unfolding each
words-each-le size true = rw (mul-one (width size)) (words-le size)
words-each-le size false = rw (mul-zero (width size), mul-zero (height size)) (omega arith)

pub answered-counts : (number : ℕ) (memory file : List ℕ) (size : ℕ) → (answered number memory file size).stored ≤ 65536
unfolding area_done line_done refused finished drawn start area_blit store_pending count_with
answered-counts number memory file size =
    answered-either (λ (end : Outcome). end.stored ≤ 65536) number memory file size
    (omega (arith, height-le size, line_blit-counts (line_setup file) (height size) (lines.state memory (begun (first_dot file)))))
    (omega (arith, rows-count-all (setup file) (width size) (height size) (state memory (start file)), words-each-le size (setup file).uses.d))
    (omega arith)

-- the same of a job's blit
pub blit_step-keeps-memory-length : (memory file : List ℕ) (size : ℕ) → length (blit_step memory file size).memory ≡ length memory
unfolding blit_step
blit_step-keeps-memory-length memory file size = answered-keeps-memory-length (step_refusal (length memory) file size) memory file size

pub blit_step-keeps-file-length : (memory file : List ℕ) (size : ℕ) → length (blit_step memory file size).file ≡ length file
unfolding blit_step
blit_step-keeps-file-length memory file size = answered-keeps-file-length (step_refusal (length memory) file size) memory file size

pub blit_step-counts : (memory file : List ℕ) (size : ℕ) → (blit_step memory file size).stored ≤ 65536
unfolding blit_step
blit_step-counts memory file size = answered-counts (step_refusal (length memory) file size) memory file size

-- a refused one leaves memory and file
Stays : (memory file : List ℕ) → Outcome → Type 0
Stays memory file outcome = (outcome.number ≡ 0 → ⊥) → (outcome.memory ≡ memory) × (outcome.file ≡ file)

pub blit_step-stays : (memory file : List ℕ) (size : ℕ) → ((blit_step memory file size).number ≡ 0 → ⊥)
    → ((blit_step memory file size).memory ≡ memory) × ((blit_step memory file size).file ≡ file)
unfolding Stays blit_step area_done line_done refused
blit_step-stays memory file size =
    answered-either (Stays memory file) (step_refusal (length memory) file size) memory file size
    (λ refusal. absurd (refusal refl)) (λ refusal. absurd (refusal refl)) (λ refusal. (refl, refl))

-- a blit that is done gives the yes of its moves, a refused one none
pub blit_step-round-when-done : (memory file : List ℕ) (size : ℕ) → step_refusal (length memory) file size ≡ 0
    → (blit_step memory file size).round ≡ goes_round file size
unfolding blit_step answered
blit_step-round-when-done memory file size lawful = rw lawful (done-round memory file size)

pub blit_step-round-when-refused : (memory file : List ℕ) (size : ℕ) → (step_refusal (length memory) file size ≡ 0 → ⊥)
    → (blit_step memory file size).round ≡ false
unfolding blit_step answered refused
blit_step-round-when-refused memory file size against = rw (ne_eqb (step_refusal (length memory) file size) 0 against)
