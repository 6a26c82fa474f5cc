-- `job::length::job_length` meets its contract: the far end is tested the other way round.
use Rattle.job.proofs.LengthLaws.{job_length-is-beyond}
use Rattle.job.proofs.length.job_length.Goals as goal

pub returns : goal.returns
returns c = search job_length-is-beyond
