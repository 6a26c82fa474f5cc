-- `Knowledge::numbers`: the words written so far hold the registers' numbers.
use Rattle.std.proofs.Common.{◌≡◌, ℕ, ◌<◌, length}
use lib.ListN.{get_or}
use Rattle.file.specs.Places.{blitter_length}
use Rattle.knowledge.specs.Knowledge.{known_at, number}
use Rattle.knowledge.proofs.types.Knowledge.numbers.Given as goal

abbrev pub invariant-loop-place : goal.invariant-loop-place
invariant-loop-place l =
    (length l.words ≡ blitter_length) × ((k : ℕ) → k < l.place → get_or l.words k 0 ≡ number (known_at l.self.registers k))
