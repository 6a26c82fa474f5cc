-- `beam::waited` meets its contract: the places from six positions on are tried.
use Rattle.beam.proofs.WaitLaws.{waited-of-first}
use Rattle.beam.proofs.waited.Goals as goal

pub returns : goal.returns
returns c = search waited-of-first
