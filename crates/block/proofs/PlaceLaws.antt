-- Laws of the places of rows evenly apart, and of the loops that fetch and store them.
use Rattle.word.proofs.Base.{◌≡◌, refl, sym, ap, ◌∙◌, ℕ, zero, suc, ◌+◌, ◌-◌, ◌*◌, ◌/◌, ◌%◌, ◌<◌, ◌≤◌, add-zero, add-suc}
use Rattle.word.proofs.Base.{suc-mul, add-mul, mul-le-mul, add-one, arith, List, length, get_or, set}
use native.Mathlib.Nat.{zero-mul, mul-add, div-add-mod', mul-add-mod_self_right}
use Rattle.word.specs.declared.types.Direction.{Direction}
use Rattle.word.specs.declared.types.Direction.TheVariants.{Ascending, Descending}
use Rattle.word.specs.Pointer.{pointer_end}
use Rattle.word.specs.Inner.Even.{RowInside}
use Rattle.word.proofs.PointerLaws.{sum-of-remainder}
use Rattle.quiet.specs.Stream.{laid_at}
use Rattle.quiet.proofs.StreamLaws.{row_of, word_of}
use Rattle.block.specs.declared.types.Size.{Size}
use Rattle.block.specs.Inner.Each.{at, from_at, Each, Laid}
use Rattle.block.specs.Inner.Place.{row_at, place_in, Reaches, place_at, EvenRows, Lies, Gapless, AsLying, fetched_in, fetched_at}
use Rattle.block.proofs.EachLaws.{laid-turn, next-start}

-- rows start evenly
pub row_at-first : (far from : ℕ) → from < pointer_end → from ≡ row_at far from 0
unfolding row_at
row_at-first far from small = omega arith

sums : (a b c : ℕ) → a + b + c ≡ a + (b + c)
sums a b c = omega arith

pub row_at-from : (far from row more : ℕ) → row_at far (row_at far from row) more ≡ row_at far from (row + more)
unfolding row_at
row_at-from far from row more =
    sum-of-remainder (from + row * far) (more * far)
    ∙ ap (λ (sum : ℕ). sum % pointer_end) (sums from (row * far) (more * far) ∙ ap (λ (all : ℕ). from + all) (sym (add-mul row more far)))

pub row_at-next : (far from row start : ℕ) → start ≡ row_at far from row → (start + far) % pointer_end ≡ row_at far from (row + 1)
unfolding row_at
row_at-next far from row start is =
    rw (add-one row, is)
    (sum-of-remainder (from + row * far) far
    ∙ ap (λ (sum : ℕ). sum % pointer_end) (sums from (row * far) far ∙ ap (λ (all : ℕ). from + all) (sym (suc-mul row far))))

pub row_at-lt : (far from row : ℕ) → row_at far from row < pointer_end
unfolding row_at
row_at-lt far from row = omega arith

pub rows-far : (rows far : ℕ) → rows ≤ 64 → far < pointer_end → rows * far ≤ 64 * pointer_end
rows-far rows far few short = mul-le-mul {m₂ = pointer_end} few (omega arith)

-- a loop has come to a row of them
pub record Walks (far from start number : ℕ) : Type 0 where
  pub small : start < pointer_end
  pub starts : start ≡ row_at far from number

module _ {n : ℕ} {direction : Direction} {far from : ℕ} {size : Size} (lies : Lies n direction far from size) where
  pub walks-none : Walks far from from 0
  walks-none = record { small = lies.starts; starts = row_at-first far from lies.starts }

  pub walks-inside : {length start number : ℕ} → length ≡ n → number < size.height → Walks far from start number
      → RowInside length direction size.width (record { word = start })
  unfolding EvenRows
  walks-inside kept below walks = rw (kept, walks.starts) (lies.inside _ below)

pub walks_turn : {far from start number : ℕ} → Walks far from start number → Walks far from ((start + far) % pointer_end) (number + 1)
walks_turn walks = record { small = omega arith; starts = row_at-next _ _ _ _ walks.starts }

-- a word of a row
pub place-reaches : (n width start word : ℕ) (direction : Direction) → RowInside n direction width (record { word = start }) → word < width → n < 18446744073709551616
    → Reaches direction start word
unfolding RowInside
place-reaches n width start word Ascending inside short most = omega arith
place-reaches n width start word Descending inside short most = omega (arith, inside)

pub place_inside : (n width start word place : ℕ) (direction : Direction) → RowInside n direction width (record { word = start }) → word < width → place ≡ place_in direction start word
    → place < n
unfolding RowInside place_in
place_inside n width start word place Ascending inside short is = omega arith
place_inside n width start word place Descending inside short is = omega (arith, inside)

-- words laid one after the other: some and then some more, the same words at the same places
laid_at-more : (place word : ℕ → ℕ) (m n : ℕ) (memory : List ℕ)
    → laid_at place word (m + n) memory ≡ laid_at (λ k. place (m + k)) (λ k. word (m + k)) n (laid_at place word m memory)
unfolding laid_at
laid_at-more place word m zero memory = rw (add-zero m)
laid_at-more place word m (suc n) memory = rw (add-suc m n, laid_at-more place word m n memory)

pub laid_at-same : (place other word same : ℕ → ℕ) (n : ℕ) (memory : List ℕ)
    → ((i : ℕ) → i < n → place i ≡ other i) → ((i : ℕ) → i < n → word i ≡ same i)
    → laid_at place word n memory ≡ laid_at other same n memory
unfolding laid_at
laid_at-same place other word same zero memory there is = refl
laid_at-same place other word same (suc n) memory there is =
    rw (laid_at-same place other word same n memory (λ i below. there i (omega arith)) (λ i below. is i (omega arith)), there n (omega arith), is n (omega arith))

pub laid_at-none : (place word : ℕ → ℕ) (memory : List ℕ) → memory ≡ laid_at place word 0 memory
unfolding laid_at
laid_at-none place word memory = refl

pub laid_at-no-row : (place word : ℕ → ℕ) (width : ℕ) (memory : List ℕ) → memory ≡ laid_at place word (0 * width) memory
unfolding laid_at
laid_at-no-row place word width memory = rw (zero-mul width)

-- turns of the loops along a row
pub fetch-turn : (memory words before : List ℕ) (direction : Direction) (start s i place : ℕ) → s + i < length words → place ≡ place_in direction start i
    → Laid s i words before (fetched_in direction memory start)
    → Laid s (i + 1) (set words (s + i) (get_or memory place 0)) before (fetched_in direction memory start)
unfolding fetched_in
fetch-turn memory words before direction start s i place inside is all =
    laid-turn s i _ words before _ inside (ap (λ (place : ℕ). get_or memory place 0) is) all

pub store-turn : (memory before words : List ℕ) (direction : Direction) (start s i place : ℕ) → place ≡ place_in direction start i
    → memory ≡ laid_at (place_in direction start) (from_at s words) i before
    → set memory place (get_or words (s + i) 0) ≡ laid_at (place_in direction start) (from_at s words) (i + 1) before
unfolding laid_at from_at
store-turn memory before words direction start s i place at is = rw (add-one, is, at)

-- and row by row
module _ (width : ℕ) {far from start number : ℕ} (direction : Direction) (words before : List ℕ) (walks : Walks far from start number) where
  place_at-here : (i : ℕ) → i < width → place_at direction width far from (number * width + i) ≡ place_in direction start i
  unfolding place_at
  place_at-here i short = rw (row_of width number i (number * width + i) short refl, word_of width number i (number * width + i) short refl, walks.starts)

  pub fetch-rows-turn : (memory : List ℕ) → Each (number * width) before (fetched_at direction width far from memory)
      → Laid (number * width) width words before (fetched_in direction memory start)
      → Each ((number + 1) * width) words (fetched_at direction width far from memory)
  unfolding fetched_in fetched_at Laid
  fetch-rows-turn memory all laid =
      rw (next-start number width) (laid _ all (λ i short. ap (λ (place : ℕ). get_or memory place 0) (sym (place_at-here i short))))

  pub store-rows-turn : (memory after : List ℕ) → memory ≡ laid_at (place_at direction width far from) (at words) (number * width) before
      → after ≡ laid_at (place_in direction start) (from_at (number * width) words) width memory
      → after ≡ laid_at (place_at direction width far from) (at words) ((number + 1) * width) before
  unfolding at from_at
  store-rows-turn memory after so_far puts =
      puts
      ∙ ap (laid_at (place_in direction start) (from_at (number * width) words) width) so_far
      ∙ laid_at-same (place_in direction start) (λ i. place_at direction width far from (number * width + i)) (from_at (number * width) words) (λ i. at words (number * width + i)) width _
      (λ i short. sym (place_at-here i short)) (λ i short. refl)
      ∙ sym (laid_at-more (place_at direction width far from) (at words) (number * width) width before)
      ∙ ap (λ (k : ℕ). laid_at (place_at direction width far from) (at words) k before) (sym (next-start number width))

-- a width that is known
pub lies-when : {n : ℕ} {direction : Direction} {far from known : ℕ} {size : Size} → size.width ≡ known → Lies n direction far from size
    → Lies n direction far from (record { width = known; height = size.height })
lies-when is lies =
    record { inside = rw is at lies.inside; room = rw is at lies.room; some = rw is at lies.some; starts = lies.starts; strides = lies.strides }

-- a block has a row, and its rows are no wider than it is
pub some-rows : (rows width : ℕ) → 1 ≤ rows * width → 1 ≤ rows
some-rows zero width some = absurd (omega (arith, zero-mul width))
some-rows (suc rows) width some = omega arith

pub no-wider : (rows width : ℕ) → 1 ≤ rows * width → rows * width ≤ 64 → width ≤ 64
no-wider zero width some room = absurd (omega (arith, zero-mul width))
no-wider (suc rows) width some room = omega (arith, suc-mul rows width)

-- the last word is the last of the last row
pub last-of-rows : (rows width : ℕ) → 1 ≤ rows → 1 ≤ width → rows * width - 1 ≡ (rows - 1) * width + (width - 1)
last-of-rows rows width some wide =
    let rest : suc (rows - 1) ≡ rows = omega arith in
    let all : rows * width ≡ (rows - 1) * width + width = ap (λ (rows : ℕ). rows * width) (sym rest) ∙ suc-mul (rows - 1) width in
    omega arith

module _ {n : ℕ} {direction : Direction} {far from : ℕ} {size : Size} (lies : Lies n direction far from size) (some : 1 ≤ size.height) where
  pub last-far : (size.height - 1) * far ≤ 64 * pointer_end
  last-far =
      let least : size.height * 1 ≤ size.height * size.width = mul-le-mul (omega arith) lies.some in
      rows-far _ _ (omega (arith, lies.room)) lies.strides

  pub last-row-inside : RowInside n direction size.width (record { word = (from + (size.height - 1) * far) % pointer_end })
  unfolding EvenRows row_at
  last-row-inside = lies.inside (size.height - 1) (omega arith)

  pub last-fetched : (memory : List ℕ) (place : ℕ) → place ≡ place_in direction ((from + (size.height - 1) * far) % pointer_end) (size.width - 1)
      → get_or memory place 0 ≡ fetched_at direction size.width far from memory (size.height * size.width - 1)
  unfolding fetched_at place_at row_at
  last-fetched memory place is =
      let all = last-of-rows size.height size.width some lies.some in
      rw (
        is,
        row_of size.width (size.height - 1) (size.width - 1) _ (omega (arith, lies.some)) all,
        word_of size.width (size.height - 1) (size.width - 1) _ (omega (arith, lies.some)) all,
      )

-- rows lie as they do, and without a gap as one row
pub as-they-are : {n : ℕ} {direction : Direction} {far from : ℕ} {size : Size} → Lies n direction far from size → AsLying n direction far from size size
as-they-are lies = record { lies = lies; count = refl; same = λ k below. refl }

pub row_at-gapless : (n : ℕ) (direction : Direction) (width far from words row : ℕ) → n ≤ pointer_end → from < pointer_end → Gapless n direction width far from words
    → row * width < words → row_at far from row ≡ place_in direction from (row * width)
unfolding row_at place_in Gapless
row_at-gapless n Ascending width far from words row most small (gapless, inside) within = rw gapless (omega arith)
row_at-gapless n Descending width far from words row most small (gapless, inside) within =
    let all : row * far + row * width ≡ row * pointer_end = sym (mul-add row far width) ∙ ap (λ (both : ℕ). row * both) gapless in
    let sum : from + row * far ≡ row * pointer_end + (from - row * width) = omega arith in
    ap (λ (sum : ℕ). sum % pointer_end) sum ∙ mul-add-mod_self_right row pointer_end (from - row * width) ∙ omega arith

place_in-more : (direction : Direction) (from first more : ℕ) → place_in direction (place_in direction from first) more ≡ place_in direction from (first + more)
unfolding place_in
place_in-more Ascending from first more = omega arith
place_in-more Descending from first more = omega arith

pub place_at-gapless : (n : ℕ) (direction : Direction) (width far from words k : ℕ) → n ≤ pointer_end → from < pointer_end → Gapless n direction width far from words
    → k < words → place_at direction width far from k ≡ place_in direction from k
unfolding place_at
place_at-gapless n direction width far from words k most small gapless below =
    let whole : k / width * width + k % width ≡ k = div-add-mod' k width in
    ap (λ (start : ℕ). place_in direction start (k % width)) (row_at-gapless n direction width far from words (k / width) most small gapless (omega arith))
    ∙ place_in-more direction from (k / width * width) (k % width)
    ∙ ap (place_in direction from) whole

all-inside : (n : ℕ) (direction : Direction) (width far from words : ℕ) → Gapless n direction width far from words
    → RowInside n direction width (record { word = from }) → RowInside n direction words (record { word = from })
unfolding Gapless RowInside
all-inside n Ascending width far from words (gapless, inside) first = inside
all-inside n Descending width far from words (gapless, inside) first = (first.0, inside)

pub as-one-row : {n : ℕ} {direction : Direction} {far from : ℕ} {size : Size} → n ≤ pointer_end → 1 ≤ size.height * size.width
    → Gapless n direction size.width far from (size.height * size.width) → Lies n direction far from size
    → AsLying n direction far from size (record { width = size.height * size.width; height = 1 })
unfolding EvenRows place_at
as-one-row {n} {direction} {far} {from} {size} most more gapless lies =
    let first : row_at far from 0 ≡ from = sym (row_at-first far from lies.starts) in
    let words : ℕ = size.height * size.width in
    record {
      lies =
          record {
            inside = λ row below. let only : row ≡ 0 = omega arith in rw (only, first) (all-inside n direction size.width far from words gapless (rw first at (lies.inside 0 (some-rows _ _ more))));
            room = omega (arith, lies.room);
            some = more;
            starts = lies.starts;
            strides = lies.strides;
          };
      count = omega arith;
      same = λ k below.
          rw (row_of words 0 k k below (omega arith), word_of words 0 k k below (omega arith), first)
          (sym (place_at-gapless n direction size.width far from words k most lies.starts gapless below));
    }

-- so the same words are fetched and stored
module _ {n : ℕ} {direction : Direction} {far from : ℕ} {size other : Size} (lying : AsLying n direction far from size other) where
  pub as-lying-fetched : (words memory : List ℕ) → Each (other.height * other.width) words (fetched_at direction other.width far from memory)
      → Each (size.height * size.width) words (fetched_at direction size.width far from memory)
  unfolding Each fetched_at
  as-lying-fetched words memory all j below = all j (omega (arith, lying.count)) ∙ ap (λ (place : ℕ). get_or memory place 0) (lying.same j below)

  pub as-lying-laid : (words memory : List ℕ) → laid_at (place_at direction other.width far from) (at words) (other.height * other.width) memory
      ≡ laid_at (place_at direction size.width far from) (at words) (size.height * size.width) memory
  as-lying-laid words memory = rw lying.count (laid_at-same _ _ _ _ (size.height * size.width) memory lying.same (λ i below. refl))
