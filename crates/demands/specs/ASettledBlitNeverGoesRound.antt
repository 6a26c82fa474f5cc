-- Paper 02, W12: "a blit that would give this yes is no longer settled", whatever memory it finds and whatever register
-- file the folder's knowledge agrees with.
use Rattle.std.specs.Prelude.{ℕ, ◌≡◌, true, false, List, length, get_or, Option, Some}
use Rattle.file.specs.Places.{blitter_length}
use Rattle.blit.specs.Blit.{blit_step}
use Rattle.knowledge.specs.Knowledge.{known_at}
use Rattle.settled.specs.Settled.{settled}

-- every register that is known holds its number
abbrev pub ASettledBlitNeverGoesRound : Type 0
ASettledBlitNeverGoesRound =
    (n : ℕ) (known : List (Option ℕ)) (memory file : List ℕ) (size : ℕ)
    → length known ≡ blitter_length
    → ((place value : ℕ) → known_at known place ≡ Some value → get_or file place 0 ≡ value)
    → settled n known size ≡ true
    → (blit_step memory file size).round ≡ false
