-- A smear: A alone, word after word, each stored before the next is fetched.
use Rattle.std.specs.Prelude.{ℕ, zero, suc, ◌+◌, ◌*◌, ◌<◌, ◌≤◌, ◌≡◌, Bool, true, false, List, eqb, get_or, set}
use Rattle.std.specs.Int.Bits.{bit_and, bit_xor}
use Rattle.word.specs.declared.types.Direction.TheVariants.{Ascending}
use Rattle.word.specs.declared.types.Fill.TheVariants.{Off}
use Rattle.word.specs.Choice.{every}
use Rattle.word.specs.Logic.{logic}
use Rattle.word.specs.Shift.{shifted}
use Rattle.area.specs.declared.types.Setup.{Setup}
use Rattle.area.specs.declared.types.Flow.{Flow}
use Rattle.block.specs.declared.types.Size.{Size}
use Rattle.block.specs.declared.types.Terms.{Terms}
use Rattle.block.specs.Inner.Terms.{terms}
use Rattle.apart.specs.Inner.Types.{Strides}

-- a function of A alone, unmasked and unfilled, upward
pub record Alone (setup : Setup) : Type 0 where
  pub a : setup.uses.a ≡ true
  pub b : setup.uses.b ≡ false
  pub c : setup.uses.c ≡ false
  pub d : setup.uses.d ≡ true
  pub function : (a b c : ℕ) → logic setup.function a 0 0 ≡ logic setup.function a b c
  pub first : setup.masks.first ≡ 65535
  pub last : setup.masks.last ≡ 65535
  pub upward : setup.direction ≡ Ascending
  pub off : setup.fill ≡ Off

-- rows that follow on one another inside memory, D anywhere but a word ahead
pub record Smearing (n : ℕ) (setup : Setup) (size : Size) (flow : Flow) (far : Strides) : Type 0 where
  pub alone : Alone setup
  pub far_a : far.a ≡ size.width
  pub far_d : far.d ≡ size.width
  pub inside_a : flow.pointers.a.word + size.height * size.width ≤ n
  pub inside_d : flow.pointers.d.word + size.height * size.width ≤ n
  pub ahead : flow.pointers.d.word ≡ flow.pointers.a.word + 1 → ⊥

-- a word made of the word fetched and the one before it
unfoldable pub smeared_word : Terms → (by before word : ℕ) → ℕ
smeared_word terms by before word = bit_xor terms.none (bit_and (shifted Ascending by before word) terms.a)

-- memory and the word before, word after word
pub record Smear : Type 0 where
  pub memory : List ℕ
  pub before : ℕ

module _ (make : ℕ → ℕ → ℕ) (a d : ℕ) (memory : List ℕ) (earlier : ℕ) where
  unfoldable pub smeared_to : (k : ℕ) → Smear
  smeared_to zero = record { memory = memory; before = earlier }
  smeared_to (suc k) =
      let now : Smear = smeared_to k in
      let word : ℕ = get_or now.memory (a + k) 0 in
      record { memory = set now.memory (d + k) (make now.before word); before = word }

  -- the word fetched, and the word made
  abbrev pub fetched_word : (k : ℕ) → ℕ
  fetched_word k = get_or (smeared_to k).memory (a + k) 0

  abbrev pub made_word : (k : ℕ) → ℕ
  made_word k = make (smeared_to k).before (fetched_word k)

-- so many of them
pub record SmearedBy (make : ℕ → ℕ → ℕ) (a d n earlier : ℕ) (memory after : List ℕ) (last : ℕ) (nought : Bool) : Type 0 where
  pub memory_is : after ≡ (smeared_to make a d memory earlier n).memory
  pub last_is : last ≡ (smeared_to make a d memory earlier n).before
  pub nought_is : nought ≡ every (λ k. eqb (made_word make a d memory earlier k) 0) n
  pub words : (k : ℕ) → k < n → fetched_word make a d memory earlier k < 65536
