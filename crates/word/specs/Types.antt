-- A type by its name of what it holds for each channel, or some of them.
use Rattle.std.specs.Prelude.{Bool}
use Rattle.word.specs.declared.types.Channels.{Channels}

-- the channels in use
abbrev pub Uses : Type 0
Uses = Channels Bool
