-- Laws of the card as a whole: the run that it prints, and the cases of its text.
use Rattle.std.specs.Prelude.{Option, Some, None}
use Rattle.word.proofs.Base.{◌≡◌, refl, sym, ap, ◌∙◌, ℕ, ◌+◌, ◌≤◌, arith, Bool, false, ne_eqb, List, length, take, length-take-le}
use Rattle.file.specs.Places.{file_length}
use Rattle.runner.specs.declared.types.Told.{Told}
use Rattle.runner.specs.Types.{Answer}
use Rattle.runner.specs.Run.{ended, machine, run}
use Rattle.runner.specs.Answer.{answer_place, answer_round, told as told_of, left}
use Rattle.card_reading.specs.declared.types.Ram.{Ram}
use Rattle.card_reading.specs.Reading.{bad_from, bad_line}
use Rattle.card_reading.specs.Inner.Ram.{ram_read, bad_read, told}
use Rattle.card_reading.specs.Job.{write_order, writes}
use Rattle.card_text.specs.Run.{counted, zeros, card_run}
use Rattle.card_text.specs.Printing.{printed_run, printed_bad}
use Rattle.card_text.specs.Card.{Written, writing, printed}
use Rattle.word.specs.Laid.{laid}
use Rattle.card_reading.proofs.JobLaws.{writes-fill}
use Rattle.card_reading.proofs.RamLaws.{RamIs, ram_read-of-words, ram_read-of-bad}
use Rattle.card_reading.proofs.ReadingLaws.{good-fits, told-is, told-some, told-none}

-- what is printed of a run tells neither its place nor its yes
printed_run-anywhere : (number place stored : ℕ) (round : Bool) (memory file : List ℕ)
    → printed_run (ended number 0 (machine memory file stored false)) ≡ printed_run (ended number place (machine memory file stored round))
unfolding printed_run
printed_run-anywhere number place stored round memory file = refl

pub printed_run-of-answer : (many : ℕ) (answer : Answer) (tells : Told) (start memory file job ram end : List ℕ) (before after : Written)
    → ram ≡ counted 0 many → start ≡ zeros file_length → left answer memory file ≡ run ram start job → tells ≡ told_of answer
    → after ≡ writing (printed_run (ended tells.number 0 (machine memory file tells.stored false))) before
    → after ≡ writing (printed_run (run (counted 0 many) (zeros file_length) job)) before
printed_run-of-answer many answer tells start memory file job ram end before after counts none gives is prints =
    let same : ended tells.number (answer_place answer) (machine memory file tells.stored (answer_round answer)) ≡ run ram start job = rw is gives in
    let asked : run ram start job ≡ run (counted 0 many) (zeros file_length) job = rw (counts, none) in
    prints
    ∙ ap (λ (text : List ℕ). writing text before)
    (printed_run-anywhere tells.number (answer_place answer) tells.stored (answer_round answer) memory file ∙ ap printed_run (same ∙ asked))

-- what a good first line leaves to the others
module _ (text : List ℕ) (read : Option Ram) (reads : read ≡ ram_read text) (ram : Ram) (is : read ≡ Some ram) where
  said : RamIs text ram.words ram.start
  said = ram_read-of-words text ram.words ram.start (sym is ∙ reads)

  pub start-le : ram.start ≤ length text
  start-le = said.inside

  pub words-le : ram.words ≤ 32768
  words-le = said.small

  pub good-fits-card : (line : Option ℕ) → line ≡ bad_read text ram.start → line ≡ None → ram.start + 200 ≤ length text
  good-fits-card line of-line none = good-fits text ram.start 0 (sym (told-none _ (sym none ∙ of-line))) refl

  line-of-lines : bad_from text ram.start 0 20 ≡ bad_line text
  unfolding bad_line
  line-of-lines = rw said.good (ap (λ (at : ℕ). bad_from text at 0 20) said.next)

  -- the card's text, bad after its first line or good
  pub printed-when-bad : (before after : Written) (line : Option ℕ) (number : ℕ) → line ≡ bad_read text ram.start → line ≡ Some number
      → after ≡ writing (printed_bad number) before → after ≡ writing (printed text) before
  unfolding printed
  printed-when-bad before after line number of-line some prints =
      let tells : Some number ≡ told (bad_from text ram.start 0 20) = sym some ∙ of-line in
      let same : number ≡ bad_line text = told-is _ number tells ∙ line-of-lines in
      rw (← same, ne_eqb number 0 (told-some _ number tells)) prints

  pub printed-when-good : (before after : Written) (line : Option ℕ) → line ≡ bad_read text ram.start → line ≡ None
      → after ≡ writing (printed_run (run (counted 0 ram.words) (zeros file_length) (writes text ram.start write_order))) before
      → after ≡ writing (printed text) before
  unfolding printed card_run
  printed-when-good before after line of-line none prints =
      let good : bad_line text ≡ 0 = sym line-of-lines ∙ told-none _ (sym none ∙ of-line) in
      rw (good, ← said.many, ← said.next) prints

pub printed-when-ram-bad : (text : List ℕ) (before after : Written) (read : Option Ram) → read ≡ ram_read text → read ≡ None
    → after ≡ writing (printed_bad 1) before → after ≡ writing (printed text) before
unfolding printed bad_line
printed-when-ram-bad text before after read reads bad prints = rw (ram_read-of-bad text (sym bad ∙ reads)) prints

-- the first words of a run that is long enough
pub prefix-length : (room : List ℕ) (many : ℕ) → many ≤ 32768 → length room ≡ 32768 → many ≡ length (take many room)
prefix-length room many small long = sym (length-take-le many room (omega (arith, small, long)))

pub prefix-le : (room : List ℕ) (many : ℕ) → many ≤ 32768 → length room ≡ 32768 → length (take many room) ≤ 32768
prefix-le room many small long = omega (arith, small, prefix-length room many small long)

-- the run of a good card, its job and memory made
pub printed_run-of-job : (text room before-job job out : List ℕ) (start words : ℕ) (before after : Written)
    → words ≤ 32768 → length room ≡ 32768 → length before-job ≡ 40 → job ≡ laid (writes text start write_order) 0 before-job
    → after ≡ writing (printed_run (run (counted 0 (length (take words room))) (zeros file_length) job)) before
    → after ≡ writing (printed_run (run (counted 0 words) (zeros file_length) (writes text start write_order))) before
printed_run-of-job text room before-job job out start words before after small long forty lays prints =
    let many : length (take words room) ≡ words = sym (prefix-length room words small long) in
    let same : job ≡ writes text start write_order = writes-fill text before-job job start forty lays in
    rw (← many, ← same) prints
