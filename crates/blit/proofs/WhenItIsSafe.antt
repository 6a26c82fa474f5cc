-- A blit that is done says what its moves say, and one that is refused says no.
use Rattle.word.proofs.Base.{◌≡◌, refl, ℕ, false, List, length}
use Rattle.refusal.specs.Refusal.{refusal}
use Rattle.round.specs.Round.{goes_round}
use Rattle.round.proofs.PlainLaws.{goes_round-when-plain, goes_round-when-far}
use Rattle.blit.specs.Blit.{Outcome, line_done, area_done, refused, blit}
use Rattle.blit.specs.WhenItIsSafe as statements
use Rattle.blit.proofs.BlitLaws.{answered-either}

blit-says-no : (memory file : List ℕ) (size : ℕ) → goes_round file size ≡ false → (blit memory file size).round ≡ false
unfolding blit line_done area_done refused
blit-says-no memory file size stays =
    answered-either (λ (outcome : Outcome). outcome.round ≡ false) (refusal (length memory) file size) memory file size stays stays refl

pub when-it-is-safe : statements.WhenItIsSafe
when-it-is-safe =
    record {
      area = λ memory file size area plain. blit-says-no memory file size (goes_round-when-plain file size area plain);
      line = λ memory file size lined low high. blit-says-no memory file size (goes_round-when-far file size lined low high);
    }
