-- The logic function as a sum without carries: what stands where no source has a 1, and what each product of sources
-- turns over.
use Rattle.std.specs.Prelude.{ℕ, ◌*◌, ◌/◌, ◌%◌}
use Rattle.std.specs.Int.Bits.{bit_and, bit_xor}
use Rattle.block.specs.declared.types.Terms.{Terms}

-- a bit of the function, by what it is divided by, spread over a word
abbrev pub spread : (function by : ℕ) → ℕ
spread function by = function / by % 2 * 65535

unfoldable pub terms : (function : ℕ) → Terms
terms function =
    let m0 : ℕ = function % 2 * 65535 in
    let m1 : ℕ = spread function 2 in
    let m2 : ℕ = spread function 4 in
    let m3 : ℕ = spread function 8 in
    let m4 : ℕ = spread function 16 in
    let m5 : ℕ = spread function 32 in
    let m6 : ℕ = spread function 64 in
    let m7 : ℕ = spread function 128 in
    record {
      none = m0;
      c = bit_xor m0 m1;
      b = bit_xor m0 m2;
      bc = bit_xor (bit_xor m0 m1) (bit_xor m2 m3);
      a = bit_xor m0 m4;
      ac = bit_xor (bit_xor m0 m1) (bit_xor m4 m5);
      ab = bit_xor (bit_xor m0 m2) (bit_xor m4 m6);
      abc = bit_xor (bit_xor (bit_xor m0 m1) (bit_xor m2 m3)) (bit_xor (bit_xor m4 m5) (bit_xor m6 m7));
    }

unfoldable pub joined : Terms → (a b c : ℕ) → ℕ
joined by a b c =
    bit_xor
    (bit_xor (bit_xor by.none (bit_and c by.c)) (bit_and b (bit_xor by.b (bit_and c by.bc))))
    (bit_and a (bit_xor (bit_xor by.a (bit_and c by.ac)) (bit_and b (bit_xor by.ab (bit_and c by.abc)))))
