-- The number of a refusal tells it from all others, and is never 0: what an answer leaves tells the answer.
use Rattle.std.specs.Prelude.{if◌then◌else◌, Ok, Err}
use Rattle.word.proofs.Base.{◌≡◌, refl, sym, ap, ◌∙◌, ℕ, eqb, List}
use Rattle.job.specs.declared.types.Refusal as jobs
use Rattle.folder.specs.declared.types.Refusal.{Refusal}
use Rattle.folder.specs.Types.{Answer}
use Rattle.folder.specs.Folding.{Folding}
use Rattle.folder.specs.Answer.{refusal_number, left}
use Rattle.folder.specs.OneAnswer.{OneAnswer}
use Rattle.folder.proofs.FoldingLaws.{refusal_number-positive}

-- the refusal with a number
numbered : (number : ℕ) → Refusal
numbered number =
    if eqb number 1 then Refusal.MemorySize else
    if eqb number 3 then Refusal.JobLength else
    if eqb number 4 then Refusal.Step jobs.Refusal.NoStep else
    if eqb number 5 then Refusal.Step jobs.Refusal.CutOff else
    if eqb number 6 then Refusal.Step jobs.Refusal.OddStore else
    Refusal.TooLong

numbered-of-number : (why : Refusal) → numbered (refusal_number why) ≡ why
unfolding numbered
numbered-of-number Refusal.MemorySize = refl
numbered-of-number Refusal.JobLength = refl
numbered-of-number (Refusal.Step jobs.Refusal.NoStep) = refl
numbered-of-number (Refusal.Step jobs.Refusal.CutOff) = refl
numbered-of-number (Refusal.Step jobs.Refusal.OddStore) = refl
numbered-of-number Refusal.TooLong = refl

pub refusal_number-is-unique : (one other : Refusal) → refusal_number one ≡ refusal_number other → one ≡ other
refusal_number-is-unique one other same = sym (numbered-of-number one) ∙ ap numbered same ∙ numbered-of-number other

pub answer-is-unique : (one other : Answer) (out others : List ℕ) → left one out ≡ left other others → one ≡ other
answer-is-unique (Ok one) (Ok other) out others same =
    let lengths : one.length ≡ other.length = ap (λ (end : Folding). end.long) same in
    let rounds : one.round ≡ other.round = ap (λ (end : Folding). end.round) same in
    λ i. Ok (record { length = lengths i; round = rounds i })
answer-is-unique (Ok done) (Err stopped) out others same =
    absurd (refusal_number-positive stopped.why (sym (ap (λ (end : Folding). end.number) same)))
answer-is-unique (Err stopped) (Ok done) out others same =
    absurd (refusal_number-positive stopped.why (ap (λ (end : Folding). end.number) same))
answer-is-unique (Err one) (Err other) out others same =
    let reasons : one.why ≡ other.why = refusal_number-is-unique one.why other.why (ap (λ (end : Folding). end.number) same) in
    let places : one.place ≡ other.place = ap (λ (end : Folding). end.place) same in
    λ i. Err (record { why = reasons i; place = places i })

pub one_answer : OneAnswer
one_answer n job out first second promise again =
    let same = promise ∙ sym again in
    let answers = answer-is-unique first.answer second.answer first.out second.out same in
    λ i. record {
      answer = answers i;
      out = (same i).out;
    }
