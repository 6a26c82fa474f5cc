-- A file that the old rule accepts is a file that the runner accepts, once it is widened.
use Rattle.std.specs.Prelude.{ℕ, ◌≡◌, true, List}
use Rattle.file.specs.File.{accepted}
use Rattle.widen.specs.Old.{old_accepted}
use Rattle.widen.specs.Widen.{widened}

abbrev pub WidenedIsAccepted : Type 0
WidenedIsAccepted =
    (old : List ℕ)
    → old_accepted old ≡ true
    → accepted (widened old) ≡ true
