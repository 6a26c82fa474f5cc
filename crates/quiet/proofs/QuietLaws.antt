-- A quiet blit's words are those of the sequence: the definition's own steps lead from each to the next.
use Rattle.std.specs.Prelude.{if◌then◌else◌}
use Rattle.word.proofs.Base.{◌≡◌, refl, sym, ap, ◌∙◌, ℕ, zero, suc, ◌+◌, ◌-◌, ◌*◌, ◌/◌, ◌%◌, ◌<◌, ◌≤◌, suc-mul}
use Rattle.word.proofs.Base.{mul-le-mul_right, sub-one, arith, Bool, true, false, ◌&&◌, eqb, List}
use mathlib.Core.Bool.{and-true, and_assoc, and_comm}
use Rattle.word.specs.declared.types.Pointer.{Pointer}
use Rattle.word.specs.declared.types.Filled.{Filled}
use Rattle.word.specs.Choice.{every}
use Rattle.word.specs.Repeat.{repeated}
use Rattle.word.proofs.ChoiceLaws.{if-either}
use Rattle.std.specs.Prelude.{Option}
use Rattle.area.specs.declared.types.Pending.{Pending}
use Rattle.area.specs.Types.{Pointers}
use Rattle.area.specs.declared.types.Setup.{Setup}
use Rattle.area.specs.declared.types.Flow.{Flow}
use Rattle.area.specs.Flow.{State, state, nothing}
use Rattle.area.specs.Fetch.{fetched, fetch}
use Rattle.area.specs.Finish.{masked_a, result_word, final as finished_final, finish}
use Rattle.area.specs.Store.{waiting, wait, memory_with, count_with, store_pending}
use Rattle.area.specs.Move.{move_on, row_end}
use Rattle.area.specs.Rows.{finished_word, stored_before, one_word, words, row_start, one_row, rows, area_blit}
use Rattle.quiet.specs.Words.{word_before, masked_at, shifted_at, mixed_at, result_at, carry_to, filled_at, final_at}
use Rattle.quiet.specs.Stream.{at_a, at_b, at_c, at_d, word_a, word_b, word_c, final_word, laid_at}
use Rattle.quiet.specs.Quiet.{Unmet, Quiet, pointers_in, memory_of, sources_to, earlier_to, flow_of, Found, QuietBlit}
use Rattle.quiet.proofs.StreamLaws.{row_of, word_of, carry_to-first, carry_to-next, standing-steps, standing-turns, standing-starts, is-first, is_last, laid_at-elsewhere}

-- with one word more stored
memory-more : (used : Bool) (place word : ℕ → ℕ) (k : ℕ) (memory : List ℕ)
    → memory_with (waiting used (place k) (word k)) (if used then laid_at place word k memory else memory)
    ≡ (if used then laid_at place word (suc k) memory else memory)
unfolding memory_with laid_at
memory-more true place word k memory = refl
memory-more false place word k memory = refl

count-more : (used : Bool) (place word k stored : ℕ)
    → count_with (waiting used place word) (stored + (if used then k else 0)) ≡ stored + (if used then suc k else 0)
unfolding count_with
count-more true place word k stored = omega arith
count-more false place word k stored = refl

-- what a source fetches is as it was, where D hasn't stored there; a source at rest gives what it gave before
fetched-unmet : (stores used : Bool) (place fetches : ℕ → Pointer) (word : ℕ → ℕ) (memory : List ℕ) (source k n : ℕ) → k < n → Unmet stores used place fetches n
    → fetched used (if stores then laid_at (λ k. (place k).word) word (k - 1) memory else memory) (fetches k) (word_before source (λ k. fetched used memory (fetches k) source) k)
    ≡ fetched used memory (fetches k) source
unfolding fetched Unmet word_before
fetched-unmet true true place fetches word memory source k n below unmet =
    laid_at-elsewhere (λ k. (place k).word) word (k - 1) memory (fetches k).word (λ j early. unmet k j below (omega arith) refl refl)
fetched-unmet false true place fetches word memory source k n below unmet = refl
fetched-unmet stores false place fetches word memory source zero n below unmet = refl
fetched-unmet stores false place fetches word memory source (suc k) n below unmet = refl

-- how many of the words before word k are stored when it comes: the one before it waits
unfoldable held : (k : ℕ) → ℕ
held zero = 0
held (suc k) = k

held-is : (k : ℕ) → k - 1 ≡ held k
unfolding held
held-is zero = refl
held-is (suc k) = sub-one (suc k)

module _ (setup : Setup) (width : ℕ) (memory : List ℕ) (flow : Flow) (a b c : ℕ → ℕ) where
  -- the final words of three sources, word k on its way to D, and the carry after so many
  abbrev final : (k : ℕ) → Filled
  final = final_at setup width flow.earlier a b c

  abbrev waiting_at : (k : ℕ) → Option Pending
  waiting_at k = waiting setup.uses.d (at_d setup width flow k).word (final k).word

  abbrev last_carry : (k : ℕ) → ℕ
  last_carry = word_before flow.carry (λ k. (final k).carry)

  unfoldable pending_to : (k : ℕ) → Option Pending
  pending_to zero = nothing
  pending_to (suc k) = waiting_at k

  unfoldable zero_to : (k : ℕ) → Bool
  zero_to zero = flow.allzero
  zero_to (suc k) = zero_to k && eqb (final k).word 0

  -- memory and flow as word k finds them
  unfoldable memory_to : (k : ℕ) → List ℕ
  memory_to k = memory_of setup width flow a b c memory (held k)

  unfoldable count_to : (k : ℕ) → ℕ
  count_to k = flow.stored + (if setup.uses.d then held k else 0)

  unfoldable flow_to : Pointers → (carry k : ℕ) → Flow
  flow_to pointers carry k =
      record {
        pointers = pointers;
        sources = sources_to setup width flow a b c k;
        earlier = earlier_to setup width flow a b c k;
        carry = carry;
        allzero = zero_to k;
        stored = count_to k;
        pending = pending_to k;
      }

  abbrev state_in : (row word carry k : ℕ) → State
  state_in row word carry k = state (memory_to k) (flow_to (pointers_in setup width row word flow.pointers) carry k)

  memory_to-stored : (k : ℕ) → memory_with (pending_to k) (memory_to k) ≡ memory_of setup width flow a b c memory k
  unfolding pending_to memory_to held memory_with
  memory_to-stored zero = refl
  memory_to-stored (suc k) = memory-more setup.uses.d (λ k. (at_d setup width flow k).word) (λ k. (final k).word) k memory

  count_to-stored : (k : ℕ) → count_with (pending_to k) (count_to k) ≡ flow.stored + (if setup.uses.d then k else 0)
  unfolding pending_to count_to held count_with
  count_to-stored zero = refl
  count_to-stored (suc k) = count-more setup.uses.d (at_d setup width flow k).word (final k).word k flow.stored

  pending_to-last : (k : ℕ) → 1 ≤ k → pending_to k ≡ waiting_at (k - 1)
  unfolding pending_to
  pending_to-last zero none = absurd (omega arith)
  pending_to-last (suc k) more = ap waiting_at (sym (sub-one (suc k)))

  zero_to-every : (k : ℕ) → zero_to k ≡ (flow.allzero && every (λ k. eqb (final k).word 0) k)
  unfolding zero_to
  zero_to-every zero = sym (and-true flow.allzero)
  zero_to-every (suc k) =
      rw (zero_to-every k)
      (and_assoc flow.allzero (every (λ k. eqb (final k).word 0) k) (eqb (final k).word 0)
      ∙ ap (λ (rest : Bool). flow.allzero && rest) (and_comm (every (λ k. eqb (final k).word 0) k) (eqb (final k).word 0)))

  flow_to-starts : flow.pending ≡ nothing → state memory flow ≡ state_in 0 0 flow.carry 0
  unfolding flow_to memory_to count_to held word_before zero_to pending_to laid_at
  flow_to-starts none =
      rw (
        ← none,
        if-either (λ (all : List ℕ). all ≡ memory) setup.uses.d memory memory refl refl,
        if-either (λ (more : ℕ). flow.stored + more ≡ flow.stored) setup.uses.d 0 0 (omega arith) (omega arith),
      )
      (simp standing-starts)

  module _ (n : ℕ) (found : Found setup width flow a b c memory n) where
    one_word-goes : (row word remaining k carry : ℕ) → remaining + 1 + word ≡ width → k ≡ row * width + word → k < n
        → carry ≡ carry_to setup.fill setup.carry width (result_at setup width flow.earlier a b c) k
        → one_word setup width remaining (state_in row word carry k) ≡ state_in row (suc word) (final k).carry (suc k)
    unfolding one_word stored_before store_pending finished_word wait move_on finish finished_final result_word masked_a fetch flow_to memory_to count_to held pending_to zero_to word_before filled_at result_at mixed_at shifted_at masked_at
    one_word-goes row word remaining k carry all is below comes =
        let short : word < width = omega arith in
        let row_is : k / width ≡ row = row_of width row word k short is in
        let word-is : k % width ≡ word = word_of width row word k short is in
        rw (
          ← memory_to-stored k,
          ← count_to-stored k,
          row_is,
          word-is,
          rw (row_is, word-is, held-is k) at (found.of_a k below),
          rw (row_is, word-is, held-is k) at (found.of_b k below),
          rw (row_is, word-is, held-is k) at (found.of_c k below),
          comes,
          is-first remaining word width all,
          is_last remaining word width all,
        )
        (simp standing-steps)

    -- the carry that comes to a row's next word is the one before it; at the row's end it is the last word's
    words-go : (remaining row word k carry : ℕ) → remaining + suc word ≡ width → k ≡ row * width + word → k + remaining < n
        → carry ≡ carry_to setup.fill setup.carry width (result_at setup width flow.earlier a b c) k
        → words setup width (suc remaining) (state_in row word carry k) ≡ state_in row width (last_carry (row * width + width)) (row * width + width)
    unfolding repeated word_before
    words-go zero row word k carry all is below comes =
        let word-is : suc word ≡ width = omega arith in
        let k-is : suc k ≡ row * width + width = omega arith in
        one_word-goes row word 0 k carry (omega arith) is (omega arith) comes
        ∙ ap (λ (word : ℕ). state_in row word (last_carry (suc k)) (suc k)) word-is
        ∙ ap (λ (k : ℕ). state_in row width (last_carry k) k) k-is
    words-go (suc remaining) row word k carry all is below comes =
        ap (words setup width (suc remaining)) (one_word-goes row word (suc remaining) k carry (omega arith) is (omega arith) comes)
        ∙ words-go remaining row (suc word) (suc k) (final k).carry (omega arith) (omega arith) (omega arith)
        (sym (carry_to-next _ _ width k _ (λ none. absurd (omega (arith, word_of width row (suc word) (suc k) (omega arith) (omega arith))))))

    abbrev state_row : (row k : ℕ) → State
    state_row row k = state_in row 0 (last_carry k) k

    one_row-goes : (row : ℕ) → 1 ≤ width → row * width + width ≤ n
        → one_row setup width (state_row row (row * width)) ≡ state_row (suc row) (row * width + width)
    unfolding one_row row_start row_end flow_to
    one_row-goes row some below =
        let all : suc (width - 1) ≡ width = omega arith in
        let does : words setup width width (state_in row 0 setup.carry (row * width)) ≡ state_in row width (last_carry (row * width + width)) (row * width + width) =
        rw all at (words-go (width - 1) row 0 (row * width) setup.carry (omega arith) (omega arith) (omega arith) (sym (carry_to-first _ _ width (row * width) _ (word_of width row 0 (row * width) some (omega arith))))) in
        rw does (simp standing-turns)

    rows-go : (remaining row height k : ℕ) → 1 ≤ width → remaining + row ≡ height → k ≡ row * width → height * width ≤ n
        → rows setup width remaining (state_row row k) ≡ state_row height (height * width)
    unfolding repeated
    rows-go zero row height k some all is below =
        let row_is : row ≡ height = omega arith in
        ap (λ (k : ℕ). state_row row k) is ∙ ap (λ (row : ℕ). state_row row (row * width)) row_is
    rows-go (suc remaining) row height k some all is below =
        let on : suc row * width ≡ row * width + width = suc-mul row width in
        let fits : suc row * width ≤ height * width = mul-le-mul_right width (omega arith) in
        ap (λ (k : ℕ). rows setup width (suc remaining) (state_row row k)) is
        ∙ ap (rows setup width remaining) (one_row-goes row some (omega arith))
        ∙ rows-go remaining (suc row) height (row * width + width) some (omega arith) (sym on) below

-- all rows, the last word waiting
module _ (setup : Setup) (width height : ℕ) (memory : List ℕ) (flow : Flow) (a b c : ℕ → ℕ) (some : 1 ≤ width) (none : flow.pending ≡ nothing)
    (found : Found setup width flow a b c memory (height * width)) where
  rows_are : rows setup width height (state memory flow) ≡ state_row setup width memory flow a b c (height * width) found height (height * width)
  unfolding word_before
  rows_are =
      ap (rows setup width height) (flow_to-starts setup width memory flow a b c none)
      ∙ rows-go setup width memory flow a b c (height * width) found height 0 height 0 some (omega arith) (omega arith) (omega arith)

  -- its words laid in order, and what it hands on
  pub found-blit : area_blit setup width height (state memory flow) ≡ state (memory_of setup width flow a b c memory (height * width)) (flow_of setup width flow a b c height)
  unfolding area_blit store_pending flow_to
  found-blit =
      ap store_pending rows_are
      ∙ rw (
        memory_to-stored setup width memory flow a b c (height * width),
        count_to-stored setup width memory flow a b c (height * width),
        zero_to-every setup width memory flow a b c (height * width),
      )

-- a quiet blit's sources find what the blit found
module _ (setup : Setup) (width height : ℕ) (memory : List ℕ) (flow : Flow) (some : 1 ≤ width) (none : flow.pending ≡ nothing) (quiet : Quiet setup width (height * width) flow) where
  found : Found setup width flow (word_a setup width memory flow) (word_b setup width memory flow) (word_c setup width memory flow) memory (height * width)
  unfolding Quiet word_a word_b word_c
  found =
      record {
        of_a = λ k below. fetched-unmet _ _ (at_d setup width flow) (at_a setup width flow) _ memory _ k _ below quiet.0;
        of_b = λ k below. fetched-unmet _ _ (at_d setup width flow) (at_b setup width flow) _ memory _ k _ below quiet.1;
        of_c = λ k below. fetched-unmet _ _ (at_d setup width flow) (at_c setup width flow) _ memory _ k _ below quiet.2;
      }

  pub rows-pointers : (rows setup width height (state memory flow)).flow.pointers ≡ pointers_in setup width height 0 flow.pointers
  unfolding flow_to
  rows-pointers = ap (λ (end : State). end.flow.pointers) (rows_are setup width height memory flow _ _ _ some none found)

  pub rows-pending : 1 ≤ height * width → (rows setup width height (state memory flow)).flow.pending
      ≡ waiting setup.uses.d (at_d setup width flow (height * width - 1)).word (final_word setup width memory flow (height * width - 1))
  unfolding flow_to
  rows-pending more = ap (λ (end : State). end.flow.pending) (rows_are setup width height memory flow _ _ _ some none found) ∙ pending_to-last setup width memory flow _ _ _ (height * width) more

pub quiet-blit : QuietBlit
quiet-blit setup width height memory flow some none quiet =
    found-blit setup width height memory flow _ _ _ some none (found setup width height memory flow some none quiet)
