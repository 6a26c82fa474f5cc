-- What a blit leaves is accepted again: a pointer is written as the bits that its registers keep, a data register holds a
-- word of memory, a line's accumulator stays even, and the flag is 0 or 1.
use Rattle.word.proofs.Base.{◌≡◌, refl, ◌∙◌, ℕ, ◌+◌, ◌<◌, arith, Bool, true, false, List, length, get_or, set}
use lib.Dec.{lit<}
use Rattle.word.specs.declared.types.Pointer.{Pointer}
use Rattle.word.specs.Pointer.{high, low}
use Rattle.word.specs.Size.{height, width}
use Rattle.word.specs.Word.{SixteenBits}
use Rattle.file.specs.File.{registers, kept_bits, accepted}
use Rattle.file.specs.Places.{file_length, pointer_a, pointer_b, pointer_c, pointer_d, modulo_a, modulo_b, source_a, source_b, source_c, flag}
use Rattle.file.proofs.FileLaws.{kept-of-bits, kept-of-high, kept-of-low, kept-of-even, accepted-word-lt, accepted-even, accepted-of-set}
use Rattle.word.specs.Types.{Uses}
use Rattle.area.specs.Types.{Pointers}
use Rattle.area.specs.Setup.{setup}
use Rattle.area.specs.Flow.{State, state, sources, start}
use Rattle.area.proofs.SixteenBitsLaws.{Bounded, area_blit-bounded}
use Rattle.line.specs.Setup.{line_setup}
use Rattle.line.specs.Dot.{first_dot}
use Rattle.line.specs.Line as lines
use Rattle.line.specs.Line.{begun}
use Rattle.line.specs.Leave.{leave}
use Rattle.line.proofs.DotsLaws.{Even, line_blit-bounded, line_blit-even}
use Rattle.refusal.specs.Refusal.{step_refusal, refusal}
use Rattle.round.specs.Round.{goes_round}
use Rattle.file.specs.Pointers.{with_pointer, put_flag}
use Rattle.blit.specs.WriteBack.{put_pointer, put_pointers, put_source, put_sources}
use Rattle.blit.specs.Blit.{Outcome, finished, drawn, area_done, line_done, refused, answered, blit_step, blit}
use Rattle.blit.specs.AcceptedAgain.{Ready, AcceptedAgain}
use Rattle.blit.proofs.BlitLaws.{answered-either, answered-keeps-memory-length}

with_pointer-accepted : (place : ℕ) (to : Pointer) (file : List ℕ)
    → get_or kept_bits place 0 ≡ 0x0007 → get_or kept_bits (place + 1) 0 ≡ 0xFFFE
    → accepted file ≡ true → accepted (with_pointer place to file) ≡ true
with_pointer-accepted place to file three even fine =
    accepted-of-set (set file place (high to)) (accepted-of-set file fine place (high to) (kept-of-high place to three))
    (place + 1) (low to) (kept-of-low (place + 1) to even)

put_pointer-accepted : (used : Bool) (place : ℕ) (to : Pointer) (file : List ℕ)
    → get_or kept_bits place 0 ≡ 0x0007 → get_or kept_bits (place + 1) 0 ≡ 0xFFFE
    → accepted file ≡ true → accepted (put_pointer used place to file) ≡ true
unfolding put_pointer
put_pointer-accepted true place to file three even fine = with_pointer-accepted place to file three even fine
put_pointer-accepted false place to file three even fine = fine

put_source-accepted : (used : Bool) (place word : ℕ) (file : List ℕ) → get_or kept_bits place 0 ≡ 0xFFFF → word < 65536
    → accepted file ≡ true → accepted (put_source used place word file) ≡ true
unfolding put_source
put_source-accepted true place word file all small fine = accepted-of-set file fine place word (kept-of-bits place word 16 all small)
put_source-accepted false place word file all small fine = fine

put_flag-accepted : (allzero : Bool) (file : List ℕ) → accepted file ≡ true → accepted (put_flag allzero file) ≡ true
unfolding put_flag kept_bits registers
put_flag-accepted true file fine = accepted-of-set file fine flag 1 (kept-of-bits flag 1 1 refl (lit< tt))
put_flag-accepted false file fine = accepted-of-set file fine flag 0 (kept-of-bits flag 0 1 refl (lit< tt))

put_pointers-accepted : (uses : Uses) (at : Pointers) (file : List ℕ) → accepted file ≡ true → accepted (put_pointers uses at file) ≡ true
unfolding put_pointers kept_bits registers
put_pointers-accepted uses at file fine =
    put_pointer-accepted uses.d pointer_d at.d _ refl refl
    (put_pointer-accepted uses.c pointer_c at.c _ refl refl
    (put_pointer-accepted uses.b pointer_b at.b _ refl refl
    (put_pointer-accepted uses.a pointer_a at.a file refl refl fine)))

area_done-accepted : (file : List ℕ) (round : Bool) (end : State) → Bounded end → accepted file ≡ true
    → accepted (area_done file round end).file ≡ true
unfolding area_done put_sources kept_bits registers
area_done-accepted file round end bounded fine =
    put_flag-accepted end.flow.allzero _
    (put_source-accepted (setup file).uses.c source_c end.flow.sources.c _ refl bounded.c
    (put_source-accepted (setup file).uses.b source_b end.flow.sources.b _ refl bounded.b
    (put_source-accepted (setup file).uses.a source_a end.flow.sources.a _ refl bounded.a
    (put_pointers-accepted (setup file).uses end.flow.pointers file fine))))

line_done-accepted : (file : List ℕ) (round : Bool) (end : lines.State) → Even end.drawn.dot.accumulator → accepted file ≡ true
    → accepted (line_done file round end).file ≡ true
unfolding line_done leave kept_bits registers
line_done-accepted file round end (even, small) fine =
    put_flag-accepted end.drawn.allzero _
    (with_pointer-accepted pointer_d end.drawn.dot.spot.at _ refl refl
    (with_pointer-accepted pointer_c end.drawn.dot.spot.at _ refl refl
    (accepted-of-set file fine (pointer_a + 1) end.drawn.dot.accumulator
    (kept-of-even (pointer_a + 1) end.drawn.dot.accumulator refl even small))))

-- a place that keeps "15-1" holds an even word
even-at : (file : List ℕ) → accepted file ≡ true → (place : ℕ) → place < file_length → get_or kept_bits place 0 ≡ 0xFFFE → Even (get_or file place 0)
even-at file fine place inside bits = (accepted-even file fine place inside bits, accepted-word-lt file fine place inside)

drawn-even : (memory file : List ℕ) (size : ℕ) → accepted file ≡ true → Even (drawn memory file size).drawn.dot.accumulator
unfolding drawn line_setup first_dot kept_bits registers
drawn-even memory file size fine =
    line_blit-even (line_setup file) (even-at file fine modulo_a (lit< tt) refl) (even-at file fine modulo_b (lit< tt) refl)
    (height size) (lines.state memory (begun (first_dot file))) (even-at file fine (pointer_a + 1) (lit< tt) refl)

-- a blit starts with memory, data registers of the file, and nothing that waits
start-bounded : (memory file : List ℕ) → SixteenBits memory → accepted file ≡ true → Bounded (state memory (start file))
unfolding start sources kept_bits registers
start-bounded memory file all fine =
    record {
      memory = all;
      a = accepted-word-lt file fine source_a (lit< tt);
      b = accepted-word-lt file fine source_b (lit< tt);
      c = accepted-word-lt file fine source_c (lit< tt);
      pending = omega arith;
    }

-- done or refused
module _ (n number : ℕ) (memory file : List ℕ) (size : ℕ) (ready : Ready n memory file) where
  end-bounded : Bounded (finished memory file size)
  unfolding finished
  end-bounded =
      area_blit-bounded (setup file) (width size) (height size) (state memory (start file)) (start-bounded memory file ready.words ready.fine)

  answered-ready : Ready n (answered number memory file size).memory (answered number memory file size).file
  unfolding area_done line_done refused drawn
  answered-ready =
      record {
        long = answered-keeps-memory-length number memory file size ∙ ready.long;
        words =
            answered-either (λ (end : Outcome). SixteenBits end.memory) number memory file size
            (line_blit-bounded (line_setup file) (height size) (lines.state memory (begun (first_dot file))) ready.words)
            end-bounded.memory ready.words;
        fine =
            answered-either (λ (end : Outcome). accepted end.file ≡ true) number memory file size
            (line_done-accepted file (goes_round file size) (drawn memory file size) (drawn-even memory file size ready.fine) ready.fine)
            (area_done-accepted file (goes_round file size) (finished memory file size) end-bounded ready.fine) ready.fine;
      }

pub accepted-again : AcceptedAgain
unfolding blit blit_step
accepted-again =
    record {
      blit = λ n memory file size ready. answered-ready n (refusal (length memory) file size) memory file size ready;
      step = λ n memory file size ready. answered-ready n (step_refusal (length memory) file size) memory file size ready;
    }
