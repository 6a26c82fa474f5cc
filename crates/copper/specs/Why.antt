-- Paper 02, W8: the numbers for each case of why a frame stopped.
use Rattle.std.specs.Prelude.{ℕ}
use Rattle.instruction.specs.Refusal.{refusal_number}
use Rattle.copper.specs.declared.types.Why.{Why}
use Rattle.copper.specs.Frame.{end_of_frame, used_up, refusal}

-- why a frame stopped, and the refusal's number, 0 unless refused
abbrev pub why_number : Why → ℕ
why_number Why.EndOfFrame = end_of_frame
why_number Why.UsedUp = used_up
why_number (Why.Refused reason) = refusal

abbrev pub answer_number : Why → ℕ
answer_number Why.EndOfFrame = 0
answer_number Why.UsedUp = 0
answer_number (Why.Refused reason) = refusal_number reason
