-- Paper 01, "Examples", and paper 02's example of W2: one list, computed on the left, as the papers print it on the
-- right.
use Rattle.std.specs.Prelude.{ℕ, ◌≡◌, true, List, [], ◌∷◌, ◌++◌, map, replicate}
use Rattle.word.specs.Example.{Example, ◌is◌}
use Rattle.word.specs.declared.types.Direction.{Direction}
use Rattle.word.specs.declared.types.Direction.TheVariants.{Ascending, Descending}
use Rattle.word.specs.Pointer.{up}
use Rattle.word.specs.Size.{height, width}
use Rattle.word.specs.Mask.{masked}
use Rattle.word.specs.Shift.{shifted}
use Rattle.word.specs.Logic.{logic}
use Rattle.word.specs.Fill.{exclusive, inclusive}
use Rattle.blit.specs.Blit.{blit}
use Rattle.folder.specs.Fold.{fold}

-- words as they are fetched, each shifted with the one before it; "the earlier word is zero at the blit's start"
abbrev pub shifted_words : Direction → (n earlier : ℕ) → (fetched : List ℕ) → List ℕ
shifted_words direction n earlier [] = []
shifted_words direction n earlier (this ∷ rest) = shifted direction n earlier this ∷ shifted_words direction n this rest

-- P11's job
abbrev pub clearing : List ℕ
clearing =
    0x0040 ∷ 0x0100 ∷ 0x0042 ∷ 0x0000 ∷ 0x0054 ∷ 0x0000 ∷ 0x0056 ∷ 0x0010 ∷ 0x0066 ∷ 0x0000 ∷ 0x0058 ∷ 0x0042 ∷ []

-- a register file that copies from word 0 on to an address: use A and D, function F0, both masks all ones; all 41 words
-- after the pointers are zero
abbrev pub copying : (to : ℕ) → List ℕ
copying to =
    (0x09F0 ∷ 0x0000 ∷ 0xFFFF ∷ 0xFFFF ∷ 0 ∷ 0 ∷ 0 ∷ 0 ∷ 0 ∷ 0 ∷ 0 ∷ to ∷ []) ++ replicate 41 0

unfoldable pub examples : List Example
examples =
    -- P1: shift 0, words 1234, 5678: unchanged
    shifted_words Ascending 0 0 (0x1234 ∷ 0x5678 ∷ []) is (0x1234 ∷ 0x5678 ∷ [])
    -- P2: ascending shift 4
    ∷ shifted_words Ascending 4 0 (0x1234 ∷ 0x5678 ∷ []) is (0x0123 ∷ 0x4567 ∷ [])
    -- P3: descending shift 4, fetched 5678 then 1234
    ∷ shifted_words Descending 4 0 (0x5678 ∷ 0x1234 ∷ []) is (0x6780 ∷ 0x2345 ∷ [])
    -- P4: function CA, A FF00, B 1234, C 5678
    ∷ (logic 0xCA 0xFF00 0x1234 0x5678 ∷ []) is (0x1278 ∷ [])
    -- P5: 2418 inclusive, carry 0
    ∷ (inclusive 0 0x2418 ∷ []) is (0x3C18 ∷ [])
    -- P6: exclusive
    ∷ (exclusive 0 0x2418 ∷ []) is (0x1C08 ∷ [])
    -- P7: 0000 exclusive, carry 1
    ∷ (exclusive 1 0x0000 ∷ []) is (0xFFFF ∷ [])
    -- P8: width one, AFWM 0FF0, ALWM 00FF, A FFFF
    ∷ (masked true true 0x0FF0 0x00FF 0xFFFF ∷ []) is (0x00F0 ∷ [])
    -- P9: size 0000: 1,024 by 64
    ∷ (height 0x0000 ∷ width 0x0000 ∷ []) is (1024 ∷ 64 ∷ [])
    -- P10: pointer 262,143, up one: 0
    ∷ ((up (record { word = 262143 })).word ∷ []) is (0 ∷ [])
    -- P11: N = 16, the job folds to its first ten words, then two stores, the D pointer and the flag
    ∷ fold 16 clearing
    is (0x0040 ∷ 0x0100 ∷ 0x0042 ∷ 0x0000 ∷ 0x0054 ∷ 0x0000 ∷ 0x0056 ∷ 0x0010 ∷ 0x0066 ∷ 0x0000
    ∷ 0x8000 ∷ 0x0010 ∷ 0x0000 ∷ 0x8000 ∷ 0x0012 ∷ 0x0000 ∷ 0x0054 ∷ 0x0000 ∷ 0x0056 ∷ 0x0014 ∷ 0xC001 ∷ [])
    -- P12: the same with N = 9: copied whole
    ∷ fold 9 clearing is clearing
    -- W2: memory 1, 2, 3, 4, three words from word 0 to word 1; in one row, and in three
    ∷ (blit (1 ∷ 2 ∷ 3 ∷ 4 ∷ []) (copying 2) 0x0043).memory is (1 ∷ 1 ∷ 2 ∷ 3 ∷ [])
    ∷ (blit (1 ∷ 2 ∷ 3 ∷ 4 ∷ []) (copying 2) 0x00C1).memory is (1 ∷ 1 ∷ 2 ∷ 3 ∷ [])
    -- and six words from word 0 to word 2: a store is seen by the fetch after the next
    ∷ (blit (1 ∷ 2 ∷ 3 ∷ 4 ∷ 5 ∷ 6 ∷ 7 ∷ 8 ∷ []) (copying 4) 0x0046).memory
    is (1 ∷ 2 ∷ 1 ∷ 2 ∷ 1 ∷ 2 ∷ 1 ∷ 2 ∷ [])
    ∷ []

-- every example gives what the papers say
abbrev pub ExamplesHold : Type 0
ExamplesHold =
    map (λ (example : Example). example.gives) examples
    ≡ map (λ (example : Example). example.says) examples
