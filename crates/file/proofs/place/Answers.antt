-- `file::place` meets its contract: the colours' run first, then the tests go up through the others and the gaps between them.
use Rattle.word.proofs.Base.{◌≡◌, ℕ, ◌+◌, ◌-◌, ◌/◌, ◌%◌, ◌<◌, ◌≤◌, arith, ◌&&◌, not, eqb, ltb, eq-eqb, ne_eqb, lt-ltb}
use Rattle.file.specs.File.{registers, place_in, place}
use Rattle.file.specs.Places.{control0, modulo_c, source_c, copcon, colour_count, colour0, flag}
use Rattle.file.proofs.PlaceLaws.{place-of-none, place-between, place-in-run}
use Rattle.file.proofs.place.Goals as goal

place-when-odd : (offset : ℕ) → offset % 2 ≡ 1 → flag ≡ place offset
unfolding registers
place-when-odd offset odd = place-of-none (λ (at : ℕ). eqb (at % 2) 1) offset tt (eq-eqb (offset % 2) 1 odd)

place-of-copcon : (offset : ℕ) → offset ≡ 0x02E → copcon ≡ place offset
unfolding place place_in registers
place-of-copcon offset same = rw same

place-when-low : (offset : ℕ) → (offset ≡ 0x02E → ⊥) → offset < 0x040 → flag ≡ place offset
unfolding registers
place-when-low offset other low =
    place-of-none (λ (at : ℕ). not (eqb at 0x02E) && ltb at 0x040) offset tt (rw (ne_eqb offset 0x02E other, lt-ltb offset 0x040 low))

-- the runs: controls and pointers, modulos, data, colours
place-of-control : (offset half : ℕ) → (offset % 2 ≡ 1 → ⊥) → half ≡ offset / 2 → 0x040 ≤ offset → offset ≤ 0x056 → half - 0x020 ≡ place offset
unfolding place place_in registers
place-of-control offset half even is from to = omega (arith, place-in-run 0x020 12 control0 offset half tt even is from (omega (arith, to)))

place-of-modulo : (offset half : ℕ) → (offset % 2 ≡ 1 → ⊥) → half ≡ offset / 2 → 0x060 ≤ offset → offset ≤ 0x066 → half - 0x030 + modulo_c ≡ place offset
unfolding place place_in registers
place-of-modulo offset half even is from to = place-in-run 0x030 4 modulo_c offset half tt even is from (omega (arith, to))

place-of-source : (offset half : ℕ) → (offset % 2 ≡ 1 → ⊥) → half ≡ offset / 2 → 0x070 ≤ offset → offset ≤ 0x074 → half - 0x038 + source_c ≡ place offset
unfolding place place_in registers
place-of-source offset half even is from to = place-in-run 0x038 3 source_c offset half tt even is from (omega (arith, to))

place-of-colour : (offset half : ℕ) → (offset % 2 ≡ 1 → ⊥) → half ≡ offset / 2 → 0x180 ≤ offset → offset ≤ 0x1BE → half - 0x0C0 + colour0 ≡ place offset
unfolding place place_in registers
place-of-colour offset half even is from to = place-in-run 0x0C0 colour_count colour0 offset half tt even is from (omega (arith, to))

-- the gaps between them
place-past-pointers : (offset : ℕ) → 0x056 < offset → offset < 0x060 → flag ≡ place offset
unfolding registers
place-past-pointers offset from to = place-between 0x056 0x060 offset tt from to

place-past-modulos : (offset : ℕ) → 0x066 < offset → offset < 0x070 → flag ≡ place offset
unfolding registers
place-past-modulos offset from to = place-between 0x066 0x070 offset tt from to

place-past-data : (offset : ℕ) → 0x074 < offset → offset < 0x180 → flag ≡ place offset
unfolding registers
place-past-data offset from to = place-between 0x074 0x180 offset tt from to

place-past-colours : (offset : ℕ) → 0x1BE < offset → flag ≡ place offset
unfolding registers
place-past-colours offset from = place-of-none (λ (at : ℕ). ltb 0x1BE at) offset tt (lt-ltb 0x1BE offset from)

pub returns-then-offset-eq1 : goal.returns-then-offset-eq1
returns-then-offset-eq1 c = search place-when-odd

pub returns-then-offset-le446 : goal.returns-then-offset-le446
returns-then-offset-le446 c = search place-of-colour

pub returns-then-offset-ge384 : goal.returns-then-offset-ge384
returns-then-offset-ge384 c = search place-past-colours

pub returns-then-offset-eq46 : goal.returns-then-offset-eq46
returns-then-offset-eq46 c = search place-of-copcon

pub returns-then-offset-lt64 : goal.returns-then-offset-lt64
returns-then-offset-lt64 c = search place-when-low

pub returns-then-offset-le86 : goal.returns-then-offset-le86
returns-then-offset-le86 c = search place-of-control

pub returns-then-offset-lt96 : goal.returns-then-offset-lt96
returns-then-offset-lt96 c = search place-past-pointers

pub returns-then-offset-le102 : goal.returns-then-offset-le102
returns-then-offset-le102 c = search place-of-modulo

pub returns-then-offset-lt112 : goal.returns-then-offset-lt112
returns-then-offset-lt112 c = search place-past-modulos

pub returns-then-offset-le116 : goal.returns-then-offset-le116
returns-then-offset-le116 c = search place-of-source

pub returns : goal.returns
returns c = search place-past-data
