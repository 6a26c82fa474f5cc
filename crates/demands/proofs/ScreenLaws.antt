-- COPCON and the colours touch neither a blit nor the folder's knowledge: a blit reads and writes other places alone, and the
-- knowledge ends before theirs.
use Rattle.std.specs.Prelude.{if◌then◌else◌, Some}
use Rattle.word.proofs.Base.{◌≡◌, refl, ap, ◌∙◌, ℕ, ◌+◌, ◌<◌, ◌≤◌, arith, Bool, true, false, eqb, List, length, get_or}
use Rattle.word.proofs.Base.{set, get_or-set_other, set_out}
use lib.Dec.{lit<}
use lib.Seq.{set_comm}
use Rattle.word.specs.declared.types.Pointer.{Pointer}
use Rattle.word.specs.Pointer.{high, low}
use Rattle.word.specs.Control.{line}
use Rattle.file.specs.File.{con1, kept}
use Rattle.file.specs.Places.{blitter_length, control0, control1, first_mask, last_mask, pointer_a, pointer_b, pointer_c, pointer_d, modulo_a, modulo_b, modulo_c, modulo_d, source_a, source_b, source_c, copcon, flag}
use Rattle.area.specs.Setup.{masks, modulos, setup}
use Rattle.file.specs.Pointers.{pointer_at, with_pointer, put_flag}
use Rattle.area.specs.Flow.{State, pointers, sources, start}
use Rattle.blit.specs.WriteBack.{put_pointer, put_pointers, put_source, put_sources}
use Rattle.line.specs.Setup.{line_setup}
use Rattle.line.specs.Dot.{first_dot}
use Rattle.line.specs.Line as lines
use Rattle.line.specs.Leave.{leave}
use Rattle.refusal.specs.Refusal.{pointers_differ, step_refusal}
use Rattle.round.specs.Round.{goes_round}
use Rattle.blit.specs.Blit.{finished, drawn, area_done, line_done, done, refused, answered, blit_step}
use Rattle.learning.specs.Learn.{written}
use Rattle.folder.specs.Fold.{learned}
use Rattle.demands.specs.ScreenTouchesNeither.{with_word, ScreenTouchesNeither}

module _ (file : List ℕ) (place word : ℕ) (from : copcon ≤ place) where
  -- what is read of the Blitter's registers
  held : (at : ℕ) → at < blitter_length → get_or (set file place word) at 0 ≡ get_or file at 0
  held at inside = get_or-set_other file place at word 0 (λ same. omega (arith, from, inside, same))

  setup-stays : setup (set file place word) ≡ setup file
  unfolding setup masks modulos
  setup-stays =
      rw (
        held control0 (lit< tt),
        held control1 (lit< tt),
        held first_mask (lit< tt),
        held last_mask (lit< tt),
        held modulo_a (lit< tt),
        held modulo_b (lit< tt),
        held modulo_c (lit< tt),
        held modulo_d (lit< tt),
      )

  pointers-stay : pointers (set file place word) ≡ pointers file
  unfolding pointers pointer_at
  pointers-stay =
      rw (
        held pointer_a (lit< tt),
        held (pointer_a + 1) (lit< tt),
        held pointer_b (lit< tt),
        held (pointer_b + 1) (lit< tt),
        held pointer_c (lit< tt),
        held (pointer_c + 1) (lit< tt),
        held pointer_d (lit< tt),
        held (pointer_d + 1) (lit< tt),
      )

  start-stays : start (set file place word) ≡ start file
  unfolding start sources
  start-stays = rw (pointers-stay, held source_a (lit< tt), held source_b (lit< tt), held source_c (lit< tt))

  pointer_at-stays : (at : ℕ) → at + 1 < blitter_length → pointer_at (set file place word) at ≡ pointer_at file at
  unfolding pointer_at
  pointer_at-stays at inside = rw (held at (omega arith), held (at + 1) inside)

  line_setup-stays : line_setup (set file place word) ≡ line_setup file
  unfolding line_setup
  line_setup-stays =
      rw (
        held control0 (lit< tt),
        held control1 (lit< tt),
        held first_mask (lit< tt),
        held modulo_a (lit< tt),
        held modulo_b (lit< tt),
        held modulo_c (lit< tt),
        held source_a (lit< tt),
        held source_b (lit< tt),
      )

  first_dot-stays : first_dot (set file place word) ≡ first_dot file
  unfolding first_dot
  first_dot-stays =
      rw (held control0 (lit< tt), held control1 (lit< tt), held (pointer_a + 1) (lit< tt), pointer_at-stays pointer_c (lit< tt))

  step_refusal-stays : (n size : ℕ) → step_refusal n (set file place word) size ≡ step_refusal n file size
  unfolding step_refusal pointers_differ
  step_refusal-stays n size =
      rw (
        held control0 (lit< tt),
        held control1 (lit< tt),
        setup-stays,
        pointers-stay,
        line_setup-stays,
        first_dot-stays,
        pointer_at-stays pointer_c (lit< tt),
        pointer_at-stays pointer_d (lit< tt),
      )

  finished-stays : (memory : List ℕ) (size : ℕ) → finished memory (set file place word) size ≡ finished memory file size
  unfolding finished
  finished-stays memory size = rw (setup-stays, start-stays)

  drawn-stays : (memory : List ℕ) (size : ℕ) → drawn memory (set file place word) size ≡ drawn memory file size
  unfolding drawn
  drawn-stays memory size = rw (line_setup-stays, first_dot-stays)

  goes_round-stays : (size : ℕ) → goes_round (set file place word) size ≡ goes_round file size
  unfolding goes_round
  goes_round-stays size = rw (held control1 (lit< tt), setup-stays, pointers-stay, line_setup-stays, first_dot-stays)

-- what is written to them
with_pointer-apart : (at : ℕ) (pointer : Pointer) (file : List ℕ) (place word : ℕ) → copcon ≤ place → at + 1 < copcon
    → with_pointer at pointer (set file place word) ≡ set (with_pointer at pointer file) place word
with_pointer-apart at pointer file place word from inside =
    ap (λ (next : List ℕ). set next (at + 1) (low pointer)) (set_comm file place at word (high pointer) (λ same. omega (arith, from, inside, same)))
    ∙ set_comm (set file at (high pointer)) place (at + 1) word (low pointer) (λ same. omega (arith, from, inside, same))

put_pointer-apart : (used : Bool) (at : ℕ) (pointer : Pointer) (file : List ℕ) (place word : ℕ) → copcon ≤ place → at + 1 < copcon
    → put_pointer used at pointer (set file place word) ≡ set (put_pointer used at pointer file) place word
unfolding put_pointer
put_pointer-apart true at pointer file place word from inside = with_pointer-apart at pointer file place word from inside
put_pointer-apart false at pointer file place word from inside = refl

put_source-apart : (used : Bool) (at value : ℕ) (file : List ℕ) (place word : ℕ) → copcon ≤ place → at < copcon
    → put_source used at value (set file place word) ≡ set (put_source used at value file) place word
unfolding put_source
put_source-apart true at value file place word from inside = set_comm file place at word value (λ same. omega (arith, from, inside, same))
put_source-apart false at value file place word from inside = refl

area_done-apart : (file : List ℕ) (round : Bool) (end : State) (place word : ℕ) → copcon ≤ place → place < flag
    → area_done (set file place word) round end ≡ with_word place word (area_done file round end)
unfolding area_done put_pointers put_sources put_flag
area_done-apart file round end place word from to =
    rw (
      setup-stays file place word from,
      put_pointer-apart _ pointer_a _ _ place word from (lit< tt),
      put_pointer-apart _ pointer_b _ _ place word from (lit< tt),
      put_pointer-apart _ pointer_c _ _ place word from (lit< tt),
      put_pointer-apart _ pointer_d _ _ place word from (lit< tt),
      put_source-apart _ source_a _ _ place word from (lit< tt),
      put_source-apart _ source_b _ _ place word from (lit< tt),
      put_source-apart _ source_c _ _ place word from (lit< tt),
      set_comm _ place flag word _ (λ same. omega (arith, to, same)),
    )

line_done-apart : (file : List ℕ) (round : Bool) (end : lines.State) (place word : ℕ) → copcon ≤ place → place < flag
    → line_done (set file place word) round end ≡ with_word place word (line_done file round end)
unfolding line_done leave put_flag
line_done-apart file round end place word from to =
    rw (
      set_comm file place (pointer_a + 1) word end.drawn.dot.accumulator (λ same. omega (arith, from, same)),
      with_pointer-apart pointer_c end.drawn.dot.spot.at _ place word from (lit< tt),
      with_pointer-apart pointer_d end.drawn.dot.spot.at _ place word from (lit< tt),
      set_comm _ place flag word _ (λ same. omega (arith, to, same)),
    )

done-apart : (memory file : List ℕ) (size place word : ℕ) → copcon ≤ place → place < flag
    → done memory (set file place word) size ≡ with_word place word (done memory file size)
unfolding done
done-apart memory file size place word from to =
    rw (
      held file place word from control1 (lit< tt),
      drawn-stays file place word from memory size,
      finished-stays file place word from memory size,
      goes_round-stays file place word from size,
    )
    (by_bit (line (con1 file)))
  where
    by_bit : (bit : Bool)
        → (if bit then line_done (set file place word) (goes_round file size) (drawn memory file size) else area_done (set file place word) (goes_round file size) (finished memory file size))
        ≡ with_word place word (if bit then line_done file (goes_round file size) (drawn memory file size) else area_done file (goes_round file size) (finished memory file size))
    by_bit true = line_done-apart file (goes_round file size) (drawn memory file size) place word from to
    by_bit false = area_done-apart file (goes_round file size) (finished memory file size) place word from to

answered-apart : (number : ℕ) (memory file : List ℕ) (size place word : ℕ) → copcon ≤ place → place < flag
    → answered number memory (set file place word) size ≡ with_word place word (answered number memory file size)
unfolding answered refused
answered-apart number memory file size place word from to = by_number (eqb number 0)
  where
    by_number : (fine : Bool)
        → (if fine then done memory (set file place word) size else refused number memory (set file place word))
        ≡ with_word place word (if fine then done memory file size else refused number memory file)
    by_number true = done-apart memory file size place word from to
    by_number false = refl

pub screen-touches-neither : ScreenTouchesNeither
unfolding blit_step learned written
screen-touches-neither =
    record {
      blit =
          λ memory file size place word from to.
          ap (λ (number : ℕ). answered number memory (set file place word) size) (step_refusal-stays file place word from (length memory) size)
          ∙ answered-apart (step_refusal (length memory) file size) memory file size place word from to;
      knowledge = λ n known place word long from. set_out known place (Some (kept place word)) (omega (arith, long, from));
    }
