-- The number of a refusal tells it from all others, and is never 0: what an answer leaves tells the answer.
use Rattle.std.specs.Prelude.{if◌then◌else◌, Ok, Err}
use Rattle.word.proofs.Base.{◌≡◌, refl, sym, ap, ◌∙◌, ℕ, eqb, List}
use Rattle.refusal.proofs.OneAnswerLaws.{refusal_of, refusal_number-tells, is_own, refusal_number-is-own}
use Rattle.job.specs.declared.types.Refusal as jobs
use Rattle.runner.specs.declared.types.Refusal.{Refusal}
use Rattle.blit.specs.declared.types.Done.{Done}
use Rattle.runner.specs.Types.{Answer}
use Rattle.runner.specs.Run.{End}
use Rattle.runner.specs.Answer.{refusal_number, left}
use Rattle.runner.specs.OneAnswer.{OneAnswer}
use Rattle.runner.proofs.RunLaws.{refusal_number-positive}

-- the refusal with a number
numbered : (number : ℕ) → Refusal
numbered number =
    if is_own number then Refusal.Blit (refusal_of number) else
    if eqb number 3 then Refusal.JobLength else
    if eqb number 4 then Refusal.Step jobs.Refusal.NoStep else
    if eqb number 5 then Refusal.Step jobs.Refusal.CutOff else
    if eqb number 6 then Refusal.Step jobs.Refusal.OddStore else
    Refusal.StoreOutside

numbered-of-number : (why : Refusal) → numbered (refusal_number why) ≡ why
unfolding numbered refusal_of
numbered-of-number (Refusal.Blit why) = rw (refusal_number-is-own why) (ap Refusal.Blit (refusal_number-tells why))
numbered-of-number Refusal.JobLength = refl
numbered-of-number (Refusal.Step jobs.Refusal.NoStep) = refl
numbered-of-number (Refusal.Step jobs.Refusal.CutOff) = refl
numbered-of-number (Refusal.Step jobs.Refusal.OddStore) = refl
numbered-of-number Refusal.StoreOutside = refl

pub refusal_number-is-unique : (one other : Refusal) → refusal_number one ≡ refusal_number other → one ≡ other
refusal_number-is-unique one other same = sym (numbered-of-number one) ∙ ap numbered same ∙ numbered-of-number other

done-is-unique : (one other : Done) → one.stored ≡ other.stored → one.round ≡ other.round → one ≡ other
done-is-unique one other counts rounds = λ i. record { stored = counts i; round = rounds i }

pub answer-is-unique : (one other : Answer) (memory file others other_file : List ℕ)
    → left one memory file ≡ left other others other_file → one ≡ other
answer-is-unique (Ok one) (Ok other) memory file others other_file same =
    ap Ok (done-is-unique one other (ap (λ (end : End). end.machine.stored) same) (ap (λ (end : End). end.machine.round) same))
answer-is-unique (Ok done) (Err stopped) memory file others other_file same =
    absurd (refusal_number-positive stopped.why (sym (ap (λ (end : End). end.number) same)))
answer-is-unique (Err stopped) (Ok done) memory file others other_file same =
    absurd (refusal_number-positive stopped.why (ap (λ (end : End). end.number) same))
answer-is-unique (Err one) (Err other) memory file others other_file same =
    let reasons = refusal_number-is-unique one.why other.why (ap (λ (end : End). end.number) same) in
    let places = ap (λ (end : End). end.place) same in
    let did = done-is-unique one.done other.done (ap (λ (end : End). end.machine.stored) same) (ap (λ (end : End). end.machine.round) same) in
    λ i. Err (record { why = reasons i; place = places i; done = did i })

pub one_answer : OneAnswer
one_answer memory file job first second promise again =
    let same = promise ∙ sym again in
    let answers = answer-is-unique first.answer second.answer first.memory first.file second.memory second.file same in
    λ i. record {
      answer = answers i;
      memory = (same i).machine.memory;
      file = (same i).machine.file;
    }
