-- Laws of the fill of a block's rows: a carry turns a prefix over, and either way of filling goes by the carries.
use Rattle.std.specs.Prelude.{if◌then◌else◌}
use Rattle.word.proofs.Base.{◌≡◌, refl, sym, ap, ◌∙◌, ℕ, zero, suc, ◌+◌, ◌-◌, ◌*◌, ◌/◌, ◌%◌, ◌<◌, ◌≤◌, add-zero}
use Rattle.word.proofs.Base.{add-suc, add-one, arith, Bool, true, false, eqb, List, length, get_or, set, bit_or, bit_xor}
use native.Mathlib.Nat.{add_assoc}
use lib.Bits.{xor_zero_r}
use Rattle.word.specs.declared.types.Fill.{Fill}
use Rattle.word.specs.declared.types.Fill.TheVariants.{Off, Inclusive, Exclusive}
use Rattle.word.specs.Fill.{exclusive, filled}
use Rattle.word.proofs.FillLaws.{doubled, prefix, exclusive-is-prefix, carry-lt, carry-is-top-bit, inclusive-is-or}
use Rattle.quiet.specs.Words.{word_before, carry_to, filled_at}
use Rattle.quiet.proofs.StreamLaws.{word_of, carry_to-first, carry_to-next}
use Rattle.block.specs.Inner.Each.{at, Each, Kept, prefix_at, filled_word_at}
use Rattle.block.specs.Inner.Carry.{over_in, RowFilled, RowsFilled}
use Rattle.block.proofs.EachLaws.{each-no-row, each_turn, kept-all, kept-turn, row-fits, next-start}

-- no fill
carry_to-off : (start width k : ℕ) (word : ℕ → ℕ) → carry_to Off start width word k ≡ start
unfolding carry_to filled
carry_to-off start width zero word = refl
carry_to-off start width (suc k) word = either (eqb (suc k % width) 0) (carry_to-off start width k word)
  where
    either : (first : Bool) → carry_to Off start width word k ≡ start → (if first then start else carry_to Off start width word k) ≡ start
    either true same = refl
    either false same = same

pub fill-of-off : (fill : Fill) (start width n : ℕ) (words : List ℕ) → fill ≡ Off → Each n words (filled_word_at fill start width (at words))
unfolding Each filled_word_at filled_at filled at
fill-of-off fill start width n words off j below = rw off

pub carry-of-off : (fill : Fill) (start width k : ℕ) (word : ℕ → ℕ) → fill ≡ Off → start ≡ (filled_at fill start width word k).carry
unfolding filled_at filled
carry-of-off fill start width k word off = rw off (sym (carry_to-off start width k word))

-- the carry is the same whether a fill is inclusive or not
carry_to-inclusive : (start width k : ℕ) (word : ℕ → ℕ) → carry_to Exclusive start width word k ≡ carry_to Inclusive start width word k
unfolding carry_to filled
carry_to-inclusive start width zero word = refl
carry_to-inclusive start width (suc k) word = rw (carry_to-inclusive start width k word)

pub carry-of-inclusive : (start width k : ℕ) (word : ℕ → ℕ) → (filled_at Exclusive start width word k).carry ≡ (filled_at Inclusive start width word k).carry
unfolding filled_at filled
carry-of-inclusive start width k word = rw (carry_to-inclusive start width k word)

pub fill-of-inclusive : (start width n : ℕ) (words filled' out : List ℕ) → ((j : ℕ) → get_or words j 0 < 65536) → Each n filled' (filled_word_at Exclusive start width (at words))
    → ((j : ℕ) → j < n → get_or out j 0 ≡ bit_or (get_or filled' j 0) (get_or words j 0)) → Each n out (filled_word_at Inclusive start width (at words))
unfolding filled_word_at filled_at filled at Each
fill-of-inclusive start width n words filled' out small filling all j below =
    all j below
    ∙ rw (filling j below, carry_to-inclusive start width j (at words)) (inclusive-is-or (carry_to Inclusive start width (at words) j) (get_or words j 0) (small j))

-- a carry turns a prefix over
exclusive-carried : (start this : ℕ) → this < 65536 → bit_xor (exclusive 0 this) (start % 2 * 65535) ≡ exclusive start this
unfolding prefix
exclusive-carried start this small =
    ap (λ (x : ℕ). bit_xor x (start % 2 * 65535)) (sym (exclusive-is-prefix 0 this small) ∙ xor_zero_r (doubled 8 (doubled 4 (doubled 2 (doubled 1 this)))))
    ∙ exclusive-is-prefix start this small

-- what turns a word over is the carry that comes to it
over_in-is : (start width row s i : ℕ) (word : ℕ → ℕ) → s ≡ row * width → i < width → over_in start width s word i ≡ carry_to Exclusive start width word (s + i) % 2 * 65535
unfolding over_in word_before filled_at filled
over_in-is start width row s zero word at-s below = rw (add-zero s, carry_to-first Exclusive start width s word (word_of width row 0 s below (omega arith)))
over_in-is start width row s (suc i) word at-s below =
    rw (add-suc s i, carry_to-next Exclusive start width (s + i) word (λ none. absurd (omega (arith, word_of width row (suc i) (suc (s + i)) below (omega arith)))))
    (omega (arith, carry-lt (carry_to Exclusive start width word (s + i)) (word (s + i)) 16))

-- along a row
pub row-filled-none : {start width s : ℕ} {words : List ℕ} → RowFilled start width s 0 (start % 2 * 65535) words words
unfolding over_in word_before
row-filled-none {s = s} =
    record { kept = kept-all _ _; fills = λ word row at-s small prefixes all. (rw (add-zero s) all, refl) }

pub row-filled-turn : {start width s i over here next : ℕ} {words before : List ℕ} → i < width → s + i < length words
    → here ≡ bit_xor (get_or words (s + i) 0) over → next ≡ here / 32768 * 65535
    → RowFilled start width s i over words before → RowFilled start width s (i + 1) next (set words (s + i) here) before
unfolding Kept over_in word_before prefix_at filled_word_at filled_at filled
row-filled-turn {start} {width} {s} {i} {over} {here} {next} {words} {before} below inside turns spreads so_far =
    record {
      kept = rw (← add_assoc s i 1) (kept-turn (s + i) here words before so_far.kept);
      fills =
          λ word row at-s small prefixes all.
          let done = so_far.fills word row at-s small prefixes all in
          let comes : ℕ = carry_to Exclusive start width word (s + i) in
          let is : here ≡ exclusive comes (word (s + i)) =
          turns
          ∙ rw (so_far.kept (s + i) (omega arith), prefixes i below, done.1, over_in-is start width row s i word at-s below)
          (exclusive-carried comes (word (s + i)) (small (s + i))) in (
            rw (← add_assoc s i 1) (each_turn (s + i) here words _ (omega arith) is done.0),
            rw (add-one i) (spreads ∙ rw is (ap (λ (carry : ℕ). carry * 65535) (carry-is-top-bit comes (word (s + i))))),
          );
    }

-- and along all rows
pub rows-filled-none : {start width n : ℕ} {words : List ℕ} → RowsFilled start width n (0 * width) 0 words words
unfolding Kept
rows-filled-none {width = width} = record { kept = λ j past. refl; fills = λ word small prefixes. (each-no-row width _ _, λ none. absurd (omega arith)) }

pub rows-filled-turn : {start width rows row over next : ℕ} {words before after : List ℕ} → 1 ≤ width → row < rows
    → RowsFilled start width (rows * width) (row * width) over words before → RowFilled start width (row * width) width next after words
    → RowsFilled start width (rows * width) ((row + 1) * width) next after before
unfolding Kept Each over_in word_before
rows-filled-turn {start} {width} {rows} {row} some below so_far filling =
    let room = row-fits rows width row below in
    rw (next-start row width)
    (record {
      kept = λ j past. filling.kept j past ∙ so_far.kept j (omega arith);
      fills =
          λ word small prefixes.
          let done =
          filling.fills word row refl small (λ i below. so_far.kept (row * width + i) (omega arith) ∙ prefixes (row * width + i) (omega arith)) (so_far.fills word small prefixes).0 in
          (done.0, λ more. done.1 ∙ last (row * width) word width some);
    })
  where
    last : (s : ℕ) (word : ℕ → ℕ) (i : ℕ) → 1 ≤ i → over_in start width s word i ≡ (filled_at Exclusive start width word (s + i - 1)).carry * 65535
    last s word zero none = absurd (omega arith)
    last s word (suc i) more = let is : s + suc i - 1 ≡ s + i = omega arith in rw is

-- all rows: the words, and the last carry from what turns the next word over
module _ (start width n over : ℕ) (o q after : List ℕ) (some : 1 ≤ n) (small : (j : ℕ) → get_or o j 0 < 65536)
    (prefixes : Each n q (prefix_at (at o))) (rows : RowsFilled start width n n over after q) where
  pub exclusive-words : Each n after (filled_word_at Exclusive start width (at o))
  unfolding at
  exclusive-words = (rows.fills (at o) small prefixes).0

  pub exclusive-carry : over % 2 ≡ (filled_at Exclusive start width (at o) (n - 1)).carry
  unfolding at filled_at filled
  exclusive-carry =
      rw ((rows.fills (at o) small prefixes).1 some) (omega (arith, carry-lt (carry_to Exclusive start width (at o) (n - 1)) (at o (n - 1)) 16))
