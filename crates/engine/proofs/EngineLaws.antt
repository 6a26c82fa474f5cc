-- Laws of the choice between blocks and words.
use Rattle.word.proofs.Base.{◌≡◌, ℕ, ◌*◌, ◌<◌, ◌≤◌, mul-le-mul}
use Rattle.word.specs.Pointer.{pointer_end}
use Rattle.area.specs.declared.types.Setup.{Setup}
use Rattle.area.specs.declared.types.Flow.{Flow}
use Rattle.area.specs.Flow.{nothing}
use Rattle.block.specs.declared.types.Size.{Size}
use Rattle.apart.specs.Inner.Types.{Strides}
use Rattle.apart.specs.Inner.Spans.{Evenly, Known}

-- a few words: 1,024 rows of 64 at most
pub words-le : (width height : ℕ) → width ≤ 64 → height ≤ 1024 → width * height ≤ 65536
words-le width height narrow few = mul-le-mul narrow few

-- what is known of a blit before its tests
pub known_of : (n : ℕ) (setup : Setup) (size : Size) (flow : Flow) (far : Strides) → n ≤ pointer_end → Evenly setup size.width far → setup.shifts.a < 16 → setup.shifts.b < 16
    → 1 ≤ size.width → size.width ≤ 64 → 1 ≤ size.height → size.height ≤ 1024
    → flow.pointers.a.word < pointer_end → flow.pointers.b.word < pointer_end → flow.pointers.c.word < pointer_end → flow.pointers.d.word < pointer_end
    → flow.pending ≡ nothing → Known n setup size flow far
known_of n setup size flow far most even shift_a shift_b some narrow rows few a b c d none =
    record { sized = record { most = most; some = some; narrow = narrow; rows = rows; few = few }; shift_a = shift_a; shift_b = shift_b; none = none; even = even; a = a; b = b; c = c; d = d }
