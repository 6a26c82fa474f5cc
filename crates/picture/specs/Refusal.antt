-- Paper 02, W9: "Refusals: 1 and 2 as the runner; 24 ..; 25 ..; 10 ..; in this order, nothing written."
use Rattle.std.specs.Prelude.{ℕ, ◌+◌, Bool, not, ◌||◌, List, [], ◌∷◌, eqb, leb, ltb, length, get_or}
use Rattle.word.specs.Choice.{Rule, ◌when◌, given, every}
use Rattle.word.specs.Memory.{memory_size}
use Rattle.file.specs.File.{accepted}
use Rattle.playfield.specs.Playfield.{most_planes, most_words, most_delay, Playfield}
use Rattle.picture.specs.Line.{line_pixels}

-- a number is "bad" that isn't from 1 to a most
unfoldable pub bad : (number most : ℕ) → Bool
bad number most = eqb number 0 || not (leb number most)

-- "a bad number of planes, of words, or a delay above 15"; both delays are judged, with one plane too
unfoldable pub bad_playfield : Playfield → Bool
bad_playfield field =
    bad (length field.planes) most_planes
    || bad field.words most_words
    || not (leb field.odd most_delay)
    || not (leb field.even most_delay)

-- "output shorter than 16 times the words"
unfoldable pub too_short : (out : List ℕ) → Playfield → Bool
too_short out field = ltb (length out) (line_pixels field)

-- the words of the plane at a place of the list all lie below N, "without going round"
unfoldable pub inside : (n words : ℕ) → (planes : List ℕ) → (place : ℕ) → Bool
inside n words planes place = leb (get_or planes place 0 + words) n

-- "a plane's word at N or above"
unfoldable pub leaves : (n : ℕ) → Playfield → Bool
leaves n field = not (every (inside n field.words field.planes) (length field.planes))

abbrev pub rules : (memory file : List ℕ) → Playfield → (out : List ℕ) → List Rule
rules memory file field out =
    1 when memory_size (length memory)
    ∷ 2 when not (accepted file)
    ∷ 24 when bad_playfield field
    ∷ 25 when too_short out field
    ∷ 10 when leaves (length memory) field
    ∷ []

unfoldable pub refusal : (memory file : List ℕ) → Playfield → (out : List ℕ) → ℕ
refusal memory file field out = given (rules memory file field out)
