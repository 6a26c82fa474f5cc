-- `job::step::begun` meets its contract, arm by arm.
use Rattle.job.specs.Step.{found, operands, begun}
use Rattle.job.proofs.StepLaws.{begun-of-register, begun-of-size, begun-of-odd, begun-of-store}
use Rattle.job.proofs.StepLaws.{begun-of-register-cut, begun-of-size-cut, begun-of-store-cut}
use Rattle.job.proofs.step.begun.Goals as goal

pub returns-in-Register-len1-up : goal.returns-in-Register-len1-up
returns-in-Register-len1-up c = search begun-of-register

pub returns-in-Size-len1-up : goal.returns-in-Size-len1-up
returns-in-Size-len1-up c = search begun-of-size

pub returns-in-Store-len2-up : goal.returns-in-Store-len2-up
returns-in-Store-len2-up c = search begun-of-odd

pub returns-in-Store-len2-up-2 : goal.returns-in-Store-len2-up-2
returns-in-Store-len2-up-2 c = search begun-of-store

pub returns-in-Flag-default : goal.returns-in-Flag-default
unfolding begun found operands
returns-in-Flag-default c = rw c.in-Flag-default.is-0

pub returns-in_default : goal.returns-in_default
returns-in_default c = search (begun-of-register-cut, begun-of-size-cut, begun-of-store-cut)

pub returns-in_default-2 : goal.returns-in_default-2
returns-in_default-2 c = search (begun-of-register-cut, begun-of-size-cut, begun-of-store-cut)

pub returns-in_default-3 : goal.returns-in_default-3
returns-in_default-3 c = search (begun-of-register-cut, begun-of-size-cut, begun-of-store-cut)
