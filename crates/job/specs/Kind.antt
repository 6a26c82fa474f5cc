-- Paper 01, "Jobs": what a step's first word begins. No bit of it is dropped: 0140 and 1040 aren't 040.
use Rattle.std.specs.Prelude.{ℕ, ◌-◌, ◌&&◌, eqb, leb, if◌then◌else◌, Option, Some, None}
use Rattle.file.specs.File.{is_register, place}
use Rattle.job.specs.declared.types.Kind.{Kind}

-- "register write: an offset of the table or 058, then the value"
-- "store: 8000 to 8007 (last digit the high half), low half, value"
-- "flag: C000 or C001, sets the zero flag to 0 or 1"
unfoldable pub kind : (first : ℕ) → Option Kind
kind first =
    if is_register first then Some (Kind.Register (place first)) else
    if eqb first 0x058 then Some Kind.Size else
    if leb 0x8000 first && leb first 0x8007 then Some (Kind.Store (first - 0x8000)) else
    if eqb first 0xC000 then Some (Kind.Flag 0) else
    if eqb first 0xC001 then Some (Kind.Flag 1) else
    None
