-- A line changes only words where a dot stands, stores a word a row, or with SING at most that, and leaves all registers
-- but those that it names.
use Rattle.word.proofs.Base.{◌≡◌, refl, subst, ℕ, ◌≤◌, zero-add, true, List, length, get_or}
use Rattle.word.specs.Size.{height}
use Rattle.word.specs.Control.{line}
use Rattle.word.proofs.SizeLaws.{height-positive}
use Rattle.file.specs.File.{con1}
use Rattle.line.specs.Setup.{line_setup}
use Rattle.line.specs.Dot.{first_dot}
use Rattle.line.specs.Line as lines
use Rattle.line.specs.Line.{begun, line_blit}
use Rattle.line.proofs.DotsLaws.{line_blit-counts, line_blit-counts-all, line_blit-counts-some}
use Rattle.refusal.specs.Refusal.{refusal}
use Rattle.round.specs.Round.{goes_round}
use Rattle.blit.specs.Blit.{Outcome, drawn, line_done, done, refused, answered, blit}
use Rattle.blit.specs.ALine.{named_places, OnlyDotsChange, AWordARow, OthersAsBefore}
use Rattle.blit.proofs.BlitLaws.{not-both, answered-cases}
use Rattle.blit.proofs.OnlyDChanges.{only-d-changes}
use Rattle.blit.proofs.UnusedStay.{apart_from, leave-elsewhere}

pub only-dots-change : OnlyDotsChange
only-dots-change memory file size word lined apart = only-d-changes memory file size word (rw lined apart)

-- a line that is done
blit-of-line : (memory file : List ℕ) (size : ℕ) → line (con1 file) ≡ true → refusal (length memory) file size ≡ 0
    → blit memory file size ≡ line_done file (goes_round file size) (drawn memory file size)
unfolding blit answered done
blit-of-line memory file size lined lawful = rw (lawful, lined)

pub a-word-a-row : AWordARow
unfolding line_done drawn line_setup first_dot
a-word-a-row memory file size lined lawful =
    let first : lines.State = lines.state memory (begun (first_dot file)) in
    rw (blit-of-line memory file size lined lawful)
    (record {
      all = λ each. rw (line_blit-counts-all (line_setup file) each (height size) first) (zero-add (height size));
      some = line_blit-counts-some (line_setup file) (height size) first (height-positive size) refl;
      most = subst (λ (most : ℕ). (line_blit (line_setup file) (height size) first).drawn.stored ≤ most) (zero-add (height size)) (line_blit-counts (line_setup file) (height size) first);
    })

pub others-as-before : OthersAsBefore
unfolding blit line_done refused
others-as-before memory file size place lined apart =
    answered-cases (λ (end : Outcome). get_or end.file place 0 ≡ get_or file place 0) (refusal (length memory) file size) memory file size
    (λ lawful _. leave-elsewhere (drawn memory file size).drawn file place (λ named. apart_from place named named_places apart))
    (λ lawful area. absurd (not-both lined area))
    refl
