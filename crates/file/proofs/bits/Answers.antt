-- `file::bits` meets its contract: the colours and the flag first, then the tests go up through the runs of places that keep the same bits.
use Rattle.word.proofs.Base.{◌≡◌, sym, ℕ, ◌+◌, ◌-◌, ◌*◌, ◌/◌, ◌%◌, ◌<◌, ◌≤◌, arith, get_or, List·get_or-eq-default}
use Rattle.file.specs.File.{registers, kept_bits}
use Rattle.file.specs.Places.{pointer_c, modulo_c, source_c, copcon, colour0, flag, file_length}
use Rattle.file.proofs.FileLaws.{kept_bits-by, kept_bits-in-run, kept_bits-of-colour}
use Rattle.file.proofs.bits.Goals as goal

bits-of-control : (place : ℕ) → place < pointer_c → 0xFFFF ≡ get_or kept_bits place 0
unfolding kept_bits registers
bits-of-control place before = kept_bits-in-run 0 pointer_c 0xFFFF tt place (omega arith) before

-- the high halves and the low halves of the pointers, in turn
bits-of-high : (place : ℕ) → pointer_c ≤ place → place < modulo_c → place % 2 ≡ 0 → 0x0007 ≡ get_or kept_bits place 0
unfolding kept_bits registers
bits-of-high place from to even =
    kept_bits-by (λ (k : ℕ). pointer_c + 2 * k) 4 0x0007 (place / 2 - 2) place tt (omega (arith, from, to, even)) (omega (arith, from, even))

bits-of-low : (place : ℕ) → pointer_c ≤ place → place < modulo_c → (place % 2 ≡ 0 → ⊥) → 0xFFFE ≡ get_or kept_bits place 0
unfolding kept_bits registers
bits-of-low place from to odd =
    kept_bits-by (λ (k : ℕ). pointer_c + 1 + 2 * k) 4 0xFFFE (place / 2 - 2) place tt (omega (arith, from, to, odd)) (omega (arith, from, odd))

bits-of-modulo : (place : ℕ) → modulo_c ≤ place → place < source_c → 0xFFFE ≡ get_or kept_bits place 0
unfolding kept_bits registers
bits-of-modulo place from to = kept_bits-in-run modulo_c source_c 0xFFFE tt place from to

bits-of-source : (place : ℕ) → source_c ≤ place → place < copcon → 0xFFFF ≡ get_or kept_bits place 0
unfolding kept_bits registers
bits-of-source place from to = kept_bits-in-run source_c copcon 0xFFFF tt place from to

bits-of-copcon : (place : ℕ) → copcon ≤ place → place < colour0 → 0x0002 ≡ get_or kept_bits place 0
unfolding kept_bits registers
bits-of-copcon place from to = kept_bits-in-run copcon colour0 0x0002 tt place from to

bits-of-flag : (place : ℕ) → place ≡ flag → 0x0001 ≡ get_or kept_bits place 0
unfolding kept_bits registers
bits-of-flag place same = rw same

bits-at-end : (place : ℕ) → flag ≤ place → (place ≡ flag → ⊥) → 0 ≡ get_or kept_bits place 0
unfolding kept_bits registers
bits-at-end place from other =
    let past : file_length ≤ place = omega (arith, from, other) in sym (List·get_or-eq-default kept_bits 0 past)

pub returns-then-place-lt-FLAG : goal.returns-then-place-lt-FLAG
returns-then-place-lt-FLAG c = search kept_bits-of-colour

pub returns-then-place-eq-FLAG : goal.returns-then-place-eq-FLAG
returns-then-place-eq-FLAG c = search bits-of-flag

pub returns-then-place-ge-COLOUR_0 : goal.returns-then-place-ge-COLOUR_0
returns-then-place-ge-COLOUR_0 c = search bits-at-end

pub returns-then-place-lt-POINTER_C : goal.returns-then-place-lt-POINTER_C
returns-then-place-lt-POINTER_C c = search bits-of-control

pub returns-then-place-eq0 : goal.returns-then-place-eq0
returns-then-place-eq0 c = search bits-of-high

pub returns-then-place-lt-MODULO_C : goal.returns-then-place-lt-MODULO_C
returns-then-place-lt-MODULO_C c = search bits-of-low

pub returns-then-place-lt-SOURCE_C : goal.returns-then-place-lt-SOURCE_C
returns-then-place-lt-SOURCE_C c = search bits-of-modulo

pub returns-then-place-lt-COPCON : goal.returns-then-place-lt-COPCON
returns-then-place-lt-COPCON c = search bits-of-source

pub returns : goal.returns
returns c = search bits-of-copcon
