-- Two answers that meet the promise are equal: the six numbers differ.
use Rattle.std.specs.Prelude.{if◌then◌else◌}
use Rattle.word.proofs.Base.{◌≡◌, refl, sym, ap, ◌∙◌, ℕ, eqb}
use Rattle.std.specs.Prelude.{Ok, Err}
use Rattle.picture.specs.declared.types.Refusal.TheVariants.{MemorySize, RegisterFile, BadPlayfield, TooShort, Leaves}
use Rattle.picture.specs.Picture.{Answer, Picture, answer_number}
use Rattle.picture.specs.OneAnswer.{OneAnswer}

-- the answer with a number
answer_of : ℕ → Answer
answer_of number =
    if eqb number 0 then Ok tt else
    if eqb number 1 then Err MemorySize else
    if eqb number 2 then Err RegisterFile else
    if eqb number 24 then Err BadPlayfield else
    if eqb number 25 then Err TooShort else
    Err Leaves

answer_number-tells : (answer : Answer) → answer_of (answer_number answer) ≡ answer
unfolding answer_of
answer_number-tells (Ok done) = refl
answer_number-tells (Err MemorySize) = refl
answer_number-tells (Err RegisterFile) = refl
answer_number-tells (Err BadPlayfield) = refl
answer_number-tells (Err TooShort) = refl
answer_number-tells (Err Leaves) = refl

pub one_answer : OneAnswer
one_answer memory file field out first second promise again =
    let same = promise ∙ sym again in
    let answers : first.answer ≡ second.answer =
    sym (answer_number-tells first.answer) ∙ ap (λ (end : Picture). answer_of end.number) same ∙ answer_number-tells second.answer in
    λ i. record {
      answer = answers i;
      out = (same i).out;
    }
