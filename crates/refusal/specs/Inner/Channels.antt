-- The channels of an area blit, and the test of one.
use Rattle.std.specs.Prelude.{ℕ, Bool, ◌≡◌, ⊤, Result, Ok, Err, if◌then◌else◌}
use Rattle.word.specs.declared.types.Pointer.{Pointer}
use Rattle.refusal.specs.declared.types.Refusal.{Refusal}
use Rattle.refusal.specs.declared.types.AreaPlan.{AreaPlan}
use Rattle.refusal.specs.declared.types.Channel.{Channel}

-- a channel is that of a plan with this use, modulo and pointer
abbrev pub IsChannel : (by : AreaPlan) (used : Bool) (modulo : ℕ) (pointer : Pointer) (channel : Channel) → Type 0
IsChannel by used modulo pointer channel =
    (channel.used ≡ used)
    × (channel.direction ≡ by.setup.direction)
    × (channel.width ≡ by.width)
    × (channel.modulo ≡ modulo)
    × (channel.rows ≡ by.height)
    × (channel.pointer ≡ pointer)

-- what leaves memory is refused
abbrev pub checked : (outside : Bool) → (why : Refusal) → Result ⊤ Refusal
checked outside why =
    if outside then Err why else
    Ok tt
