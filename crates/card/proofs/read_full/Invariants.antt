-- `card::read_full` is safe and ends: no more is read than the text has room for.
use Rattle.std.proofs.Common.{◌-◌, ◌≤◌, length}
use Rattle.card.proofs.read_full.Given as goal

abbrev pub invariant-loop-read : goal.invariant-loop-read
invariant-loop-read g l = l.read ≤ length l.text

abbrev pub decreases-loop-read : goal.decreases-loop-read
decreases-loop-read g l = length l.text - l.read
