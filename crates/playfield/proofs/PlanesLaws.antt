-- Laws of planes laid into the colour numbers: word by word, and plane by plane.
use Rattle.word.proofs.Base.{◌≡◌, refl, sym, ap, ap₂, ◌∙◌, ℕ, ◌+◌, ◌-◌, ◌*◌, ◌/◌, ◌%◌, ◌^◌, ◌<◌, ◌≤◌, zero-add, add-mul, add-one, dec_lt}
use Rattle.word.proofs.Base.{arith, eqb, lt-ltb, le-ltb, List, length, get_or}
use lib.Pow.{pow_mono}
use Rattle.word.specs.Word.{bit, of_bits}
use Rattle.word.proofs.ChoiceLaws.{if-either}
use Rattle.word.proofs.WordLaws.{bit-lt, of_bits-lt}
use Rattle.playfield.specs.Plane.{own_bit, plane_pixel}
use Rattle.playfield.specs.Playfield.{most_delay, Playfield, plane_delay}
use Rattle.playfield.specs.Inner.Numbers.{room, Drawable, word_pixel, words_pixel, Grown, UpTo, place_pixel, Numbered}
use Rattle.playfield.proofs.NumbersLaws.{word_pixel-before, word_pixel-within, word_pixel-behind, bit-times-le}

-- a plane's pixel, before it begins and from there on
pub plane_pixel-before : (memory : List ℕ) (start delay i : ℕ) → i < delay → plane_pixel memory start delay i ≡ 0
unfolding plane_pixel
plane_pixel-before memory start delay i before = rw (lt-ltb i delay before)

pub plane_pixel-from : (memory : List ℕ) (start delay i : ℕ) → delay ≤ i → plane_pixel memory start delay i ≡ own_bit memory start (i - delay)
unfolding plane_pixel
plane_pixel-from memory start delay i from = rw (le-ltb i delay from)

pub plane_pixel-lt : (memory : List ℕ) (start delay i : ℕ) → plane_pixel memory start delay i < 2
unfolding own_bit
plane_pixel-lt memory start delay i = by (dec_lt i delay)
  where
    by : Dec (i < delay) → plane_pixel memory start delay i < 2
    by (yes before) = rw (plane_pixel-before memory start delay i before) (omega arith)
    by (no from) = rw (plane_pixel-from memory start delay i (omega arith)) (bit-lt (get_or memory (start + (i - delay) / 16) 0) (15 - (i - delay) % 16))

module _ (memory : List ℕ) (start delay words i : ℕ) where
  pub words_pixel-within : i < delay + 16 * words → words_pixel memory start delay words i ≡ plane_pixel memory start delay i
  unfolding words_pixel
  words_pixel-within within = rw (lt-ltb i (delay + 16 * words) within)

  words_pixel-behind : delay + 16 * words ≤ i → words_pixel memory start delay words i ≡ 0
  unfolding words_pixel
  words_pixel-behind behind = rw (le-ltb i (delay + 16 * words) behind)

  pub words_pixel-lt : words_pixel memory start delay words i < 2
  words_pixel-lt = by (dec_lt i (delay + 16 * words))
    where
      by : Dec (i < delay + 16 * words) → words_pixel memory start delay words i < 2
      by (yes within) = rw (words_pixel-within within) (plane_pixel-lt memory start delay i)
      by (no behind) = rw (words_pixel-behind (omega arith)) (omega arith)

pub words_pixel-none : (memory : List ℕ) (start delay i : ℕ) → words_pixel memory start delay 0 i ≡ 0
words_pixel-none memory start delay i = by (dec_lt i delay)
  where
    by : Dec (i < delay) → words_pixel memory start delay 0 i ≡ 0
    by (yes before) = words_pixel-within memory start delay 0 i (omega arith) ∙ plane_pixel-before memory start delay i before
    by (no from) = words_pixel-behind memory start delay 0 i (omega arith)

-- the pixels of a plane's word are those of the word, laid behind the words before it
words_pixel-next : (memory : List ℕ) (start delay k i : ℕ)
    → words_pixel memory start delay k i + word_pixel (get_or memory (start + k) 0) (delay + 16 * k) 16 i ≡ words_pixel memory start delay (k + 1) i
unfolding own_bit
words_pixel-next memory start delay k i = by (dec_lt i (delay + 16 * k)) (dec_lt i (delay + 16 * (k + 1)))
  where
    word : ℕ
    word = get_or memory (start + k) 0

    own : delay + 16 * k ≤ i → i < delay + 16 * (k + 1) → bit word (15 - (i - (delay + 16 * k))) ≡ own_bit memory start (i - delay)
    own from to =
        let there : k ≡ (i - delay) / 16 = omega arith in
        let pixel : i - (delay + 16 * k) ≡ (i - delay) % 16 = omega arith in
        ap₂ (λ (k pixel : ℕ). bit (get_or memory (start + k) 0) (15 - pixel)) there pixel

    by : Dec (i < delay + 16 * k) → Dec (i < delay + 16 * (k + 1))
        → words_pixel memory start delay k i + word_pixel word (delay + 16 * k) 16 i ≡ words_pixel memory start delay (k + 1) i
    by (yes before) end =
        ap₂ ◌+◌ (words_pixel-within memory start delay k i before) (word_pixel-before word (delay + 16 * k) 16 i before)
        ∙ omega (arith, words_pixel-within memory start delay (k + 1) i (omega arith))
    by (no from) (yes to) =
        ap₂ ◌+◌ (words_pixel-behind memory start delay k i (omega arith))
        (word_pixel-within word (delay + 16 * k) 16 i (omega arith) (omega arith) ∙ own (omega arith) to)
        ∙ zero-add (own_bit memory start (i - delay))
        ∙ sym (words_pixel-within memory start delay (k + 1) i to ∙ plane_pixel-from memory start delay i (omega arith))
    by (no from) (no behind) =
        ap₂ ◌+◌ (words_pixel-behind memory start delay k i (omega arith)) (word_pixel-behind word (delay + 16 * k) 16 i (omega arith))
        ∙ sym (words_pixel-behind memory start delay (k + 1) i (omega arith))

-- numbers that have grown by one pixel's weight at most
pub grown-small : (weight most more : ℕ) (pixel : ℕ → ℕ) (before numbers : List ℕ) → ((i : ℕ) → pixel i < 2) → most + weight ≤ more
    → UpTo most before → Grown weight pixel before numbers → UpTo more numbers
grown-small weight most more pixel before numbers bits room small grown i =
    omega (arith, grown.each i, small i, bit-times-le weight (pixel i) (bits i))

-- a turn of the loop that lays a plane's words
pub plane-turn : (weight start delay k : ℕ) (memory before numbers next : List ℕ) → Grown weight (words_pixel memory start delay k) before numbers
    → Grown weight (word_pixel (get_or memory (start + k) 0) (delay + 16 * k) 16) numbers next → Grown weight (words_pixel memory start delay (k + 1)) before next
plane-turn weight start delay k memory before numbers next so_far laid = record { long = laid.long; each = each }
  where
    each : (i : ℕ) → get_or next i 0 ≡ get_or before i 0 + words_pixel memory start delay (k + 1) i * weight
    each i =
        let one : ℕ = words_pixel memory start delay k i in
        let other : ℕ = word_pixel (get_or memory (start + k) 0) (delay + 16 * k) 16 i in
        let sum : (one + other) * weight ≡ one * weight + other * weight = add-mul one other weight in
        let next : (one + other) * weight ≡ words_pixel memory start delay (k + 1) i * weight =
        ap (λ (pixel : ℕ). pixel * weight) (words_pixel-next memory start delay k i) in
        omega (arith, laid.each i, so_far.each i, sum, next)

-- numbers made of so many bits are small
pub numbered-small : (memory : List ℕ) (field : Playfield) (place most : ℕ) (numbers : List ℕ) → place ≤ most → Numbered memory field place numbers
    → UpTo (2 ^ most - 1) numbers
unfolding place_pixel
numbered-small memory field place most numbers fits so_far i =
    omega (
      arith,
      so_far.each i,
      pow_mono fits,
      of_bits-lt (place_pixel memory field i) place
          (λ place. words_pixel-lt memory (get_or field.planes place 0) (plane_delay field.odd field.even (place + 1)) field.words i),
    )

-- the planes: none, and a turn of the loop that lays them
pub numbered-none : (memory : List ℕ) (field : Playfield) (numbers : List ℕ) → length numbers ≡ room → UpTo 0 numbers → Numbered memory field 0 numbers
unfolding of_bits
numbered-none memory field numbers long none = record { long = long; each = λ i. omega (arith, none i) }

pub numbered-turn : (memory : List ℕ) (field : Playfield) (place start delay weight : ℕ) (numbers next : List ℕ) → start ≡ get_or field.planes place 0
    → delay ≡ plane_delay field.odd field.even (place + 1) → weight ≡ 2 ^ place → Numbered memory field place numbers
    → Grown weight (words_pixel memory start delay field.words) numbers next → Numbered memory field (place + 1) next
unfolding of_bits place_pixel
numbered-turn memory field place start delay weight numbers next from by power so_far grown = record { long = grown.long; each = each }
  where
    each : (i : ℕ) → get_or next i 0 ≡ of_bits (place_pixel memory field i) (place + 1)
    each i =
        let here : words_pixel memory start delay field.words i * weight ≡ place_pixel memory field i place * 2 ^ place =
        rw (from, by, power) refl in
        rw (add-one place) (omega (arith, grown.each i, so_far.each i, here))

-- what laying the plane at a place asks for
module _ (n : ℕ) (field : Playfield) (drawable : Drawable n field) (place : ℕ) (below : place < length field.planes) where
  pub drawable-inside : (start : ℕ) → start ≡ get_or field.planes place 0 → start + field.words ≤ n
  drawable-inside start is = omega (arith, is, drawable.inside place below)

  pub drawable-delay : (delay : ℕ) → delay ≡ plane_delay field.odd field.even (place + 1) → delay ≤ most_delay
  unfolding plane_delay
  drawable-delay delay is =
      rw is (if-either (λ delay. delay ≤ most_delay) (eqb ((place + 1) % 2) 1) field.odd field.even drawable.odd drawable.even)

  pub drawable-weight : (weight : ℕ) → weight ≡ 2 ^ place → weight ≤ 16
  drawable-weight weight is =
      let most : place ≤ 4 = omega (arith, drawable.planes) in
      omega (arith, is, pow_mono most)

  pub drawable-small : (memory numbers : List ℕ) → Numbered memory field place numbers → UpTo 15 numbers
  drawable-small memory numbers so_far = numbered-small memory field place 4 numbers (omega (arith, drawable.planes)) so_far
