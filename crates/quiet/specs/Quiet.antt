-- A quiet blit: no used source fetches a word after D has stored one there. Paper 02, W2: a word is stored only after the
-- next one's sources have been fetched, so that the word before is never met.
use Rattle.std.specs.Prelude.{ℕ, ◌+◌, ◌-◌, ◌*◌, ◌<◌, ◌≤◌, ◌≡◌, Bool, true, ◌&&◌, List, eqb, if◌then◌else◌}
use Rattle.word.specs.declared.types.Pointer.{Pointer}
use Rattle.word.specs.Choice.{every}
use Rattle.area.specs.Types.{Pointers, Sources, Earlier}
use Rattle.area.specs.declared.types.Setup.{Setup}
use Rattle.area.specs.declared.types.Flow.{Flow}
use Rattle.area.specs.Fetch.{fetched}
use Rattle.area.specs.Flow.{state, nothing}
use Rattle.area.specs.Rows.{area_blit}
use Rattle.quiet.specs.Words.{word_before, masked_at, final_at}
use Rattle.quiet.specs.Stream.{standing, at_a, at_b, at_c, at_d, word_a, word_b, word_c, laid_at}

-- of the first so many words a used source fetches none where D stored an earlier one, but for the word before
unfoldable pub Unmet : (stores used : Bool) → (place fetches : ℕ → Pointer) → (words : ℕ) → Type 0
Unmet stores used place fetches words =
    (i j : ℕ) → i < words → j + 1 < i → stores ≡ true → used ≡ true → (place j).word ≡ (fetches i).word → ⊥

unfoldable pub Quiet : Setup → (width words : ℕ) → Flow → Type 0
Quiet setup width words flow =
    Unmet setup.uses.d setup.uses.a (at_d setup width flow) (at_a setup width flow) words
    × Unmet setup.uses.d setup.uses.b (at_d setup width flow) (at_b setup width flow) words
    × Unmet setup.uses.d setup.uses.c (at_d setup width flow) (at_c setup width flow) words

-- the pointers so many rows on, so many words into that row
abbrev pub pointers_in : Setup → (width row word : ℕ) → Pointers → Pointers
pointers_in setup width row word pointers =
    record {
      a = standing setup.direction setup.uses.a width setup.modulos.a row word pointers.a;
      b = standing setup.direction setup.uses.b width setup.modulos.b row word pointers.b;
      c = standing setup.direction setup.uses.c width setup.modulos.c row word pointers.c;
      d = standing setup.direction setup.uses.d width setup.modulos.d row word pointers.d;
    }

module _ (setup : Setup) (width : ℕ) (flow : Flow) (a b c : ℕ → ℕ) where
  -- memory with D's words laid in order, and the flow after so many rows, all their words stored, by the sources' words
  abbrev pub memory_of : (memory : List ℕ) → (words : ℕ) → List ℕ
  memory_of memory words =
      if setup.uses.d then laid_at (λ k. (at_d setup width flow k).word) (λ k. (final_at setup width flow.earlier a b c k).word) words memory else
      memory

  -- the data registers and the earlier words after k words
  abbrev pub sources_to : (k : ℕ) → Sources
  sources_to k =
      record { a = word_before flow.sources.a a k; b = word_before flow.sources.b b k; c = word_before flow.sources.c c k }

  abbrev pub earlier_to : (k : ℕ) → Earlier
  earlier_to k =
      record { a = word_before flow.earlier.a (masked_at setup.masks width a) k; b = word_before flow.earlier.b b k }

  abbrev pub flow_of : (rows : ℕ) → Flow
  flow_of rows =
      record {
        pointers = pointers_in setup width rows 0 flow.pointers;
        sources = sources_to (rows * width);
        earlier = earlier_to (rows * width);
        carry = word_before flow.carry (λ k. (final_at setup width flow.earlier a b c k).carry) (rows * width);
        allzero = flow.allzero && every (λ k. eqb (final_at setup width flow.earlier a b c k).word 0) (rows * width);
        stored = flow.stored + (if setup.uses.d then rows * width else 0);
        pending = nothing;
      }

-- three sources' words are what they find when they come to them: all D's words laid but the one before
module _ (setup : Setup) (width : ℕ) (flow : Flow) (a b c : ℕ → ℕ) (memory : List ℕ) where
  pub record Found (n : ℕ) : Type 0 where
    pub of_a : (k : ℕ) → k < n → fetched setup.uses.a (memory_of setup width flow a b c memory (k - 1)) (at_a setup width flow k) (word_before flow.sources.a a k) ≡ a k
    pub of_b : (k : ℕ) → k < n → fetched setup.uses.b (memory_of setup width flow a b c memory (k - 1)) (at_b setup width flow k) (word_before flow.sources.b b k) ≡ b k
    pub of_c : (k : ℕ) → k < n → fetched setup.uses.c (memory_of setup width flow a b c memory (k - 1)) (at_c setup width flow k) (word_before flow.sources.c c k) ≡ c k

-- by the words that the sources find in the memory that the blit began with
module _ (setup : Setup) (width : ℕ) (memory : List ℕ) (flow : Flow) where
  abbrev pub memory_after : (words : ℕ) → List ℕ
  memory_after = memory_of setup width flow (word_a setup width memory flow) (word_b setup width memory flow) (word_c setup width memory flow) memory

  abbrev pub flow_after : (rows : ℕ) → Flow
  flow_after = flow_of setup width flow (word_a setup width memory flow) (word_b setup width memory flow) (word_c setup width memory flow)

-- any words that are what the sources find when they come to them are the blit's
abbrev pub FoundBlit : Type 0
FoundBlit =
    (setup : Setup) (width height : ℕ) (memory : List ℕ) (flow : Flow) (a b c : ℕ → ℕ)
    → 1 ≤ width
    → flow.pending ≡ nothing
    → Found setup width flow a b c memory (height * width)
    → area_blit setup width height (state memory flow)
    ≡ state (memory_of setup width flow a b c memory (height * width)) (flow_of setup width flow a b c height)

-- a quiet blit's words come from the memory that it found, and that memory with D's words laid in order is what it leaves
abbrev pub QuietBlit : Type 0
QuietBlit =
    (setup : Setup) (width height : ℕ) (memory : List ℕ) (flow : Flow)
    → 1 ≤ width
    → flow.pending ≡ nothing
    → Quiet setup width (height * width) flow
    → area_blit setup width height (state memory flow)
    ≡ state (memory_after setup width memory flow (height * width)) (flow_after setup width memory flow height)
