-- The registers that the card's keys write are the Blitter's, in the file's order; size stands after the twelfth.
use Rattle.std.specs.Prelude.{◌≡◌, ◌++◌, map, take, drop}
use Rattle.file.specs.File.{Register, blitter_registers}
use Rattle.card_reading.specs.Job.{offsets}

abbrev pub KeysAreRegisters : Type 0
KeysAreRegisters = (take 12 offsets ++ drop 13 offsets) ≡ map (λ (register : Register). register.offset) blitter_registers
