-- The number of a refusal tells it from all others, and is never 0: what a verdict's number is tells the verdict.
use Rattle.std.specs.Prelude.{if◌then◌else◌, Result, Ok, Err}
use Rattle.word.proofs.Base.{◌≡◌, refl, sym, ap, ◌∙◌, ℕ, Bool, true, eqb, eq-eqb, eqb-false}
use Rattle.refusal.specs.declared.types.Refusal.{Refusal}
use Rattle.refusal.specs.declared.types.Refusal.TheVariants.{MemorySize, RegisterFile, BothFills, FillUpward, ALeaves, BLeaves, CLeaves, DLeaves, LineForm, LineApart}
use Rattle.refusal.specs.declared.types.Plan.{Plan}
use Rattle.refusal.specs.Plan.{plan}
use Rattle.refusal.specs.Refusal.{refusal_number, verdict_number, handed}
use Rattle.refusal.specs.OneAnswer.{OneAnswer, OneStepAnswer}
use Rattle.refusal.proofs.RefusalLaws.{refusal_number-positive}

-- the refusal with a number
unfoldable pub refusal_of : ℕ → Refusal
refusal_of number =
    if eqb number 1 then MemorySize else
    if eqb number 2 then RegisterFile else
    if eqb number 8 then BothFills else
    if eqb number 9 then FillUpward else
    if eqb number 14 then ALeaves else
    if eqb number 15 then BLeaves else
    if eqb number 16 then CLeaves else
    if eqb number 17 then DLeaves else
    if eqb number 18 then LineForm else
    LineApart

pub refusal_number-tells : (why : Refusal) → refusal_of (refusal_number why) ≡ why
unfolding refusal_of
refusal_number-tells MemorySize = refl
refusal_number-tells RegisterFile = refl
refusal_number-tells BothFills = refl
refusal_number-tells FillUpward = refl
refusal_number-tells ALeaves = refl
refusal_number-tells BLeaves = refl
refusal_number-tells CLeaves = refl
refusal_number-tells DLeaves = refl
refusal_number-tells LineForm = refl
refusal_number-tells LineApart = refl

-- a number that a blit's refusal has
abbrev pub is_own : ℕ → Bool
is_own number = eqb (refusal_number (refusal_of number)) number

pub refusal_number-is-own : (why : Refusal) → is_own (refusal_number why) ≡ true
refusal_number-is-own why = eq-eqb _ _ (ap refusal_number (refusal_number-tells why))

pub refusal_number-is-unique : (why reason : Refusal) → refusal_number why ≡ refusal_number reason → why ≡ reason
refusal_number-is-unique why reason same = sym (refusal_number-tells why) ∙ ap refusal_of same ∙ refusal_number-tells reason

-- two verdicts with one number that hand on the same
verdict-is-unique : (by : Plan) (first second : Result Plan Refusal) → verdict_number first ≡ verdict_number second
    → handed first by ≡ by → handed second by ≡ by → first ≡ second
verdict-is-unique by (Ok one) (Ok other) same hands again = ap Ok (hands ∙ sym again)
verdict-is-unique by (Ok one) (Err why) same hands again = absurd (refusal_number-positive why (sym same))
verdict-is-unique by (Err why) (Ok other) same hands again = absurd (refusal_number-positive why same)
verdict-is-unique by (Err why) (Err reason) same hands again = ap Err (refusal_number-is-unique why reason same)

pub one_answer : OneAnswer
one_answer n file size first second promise again =
    verdict-is-unique (plan file size) first second (promise.0 ∙ sym again.0) promise.1 again.1

pub one-step-answer : OneStepAnswer
one-step-answer n file size first second promise again =
    verdict-is-unique (plan file size) first second (promise.0 ∙ sym again.0) promise.1 again.1
