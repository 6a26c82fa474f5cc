-- `job::step::kind` meets its contract: each arm is a line of the definition.
use Rattle.job.proofs.KindLaws.{kind-when-register, kind-when-size, kind-when-store, kind-when-clear, kind-when-set, kind-when-low, kind-when-high}
use Rattle.job.proofs.step.kind.Goals as goal

pub returns-then-place-lt-FLAG : goal.returns-then-place-lt-FLAG
returns-then-place-lt-FLAG c = search kind-when-register

pub returns-in-88 : goal.returns-in-88
returns-in-88 c = search kind-when-size

pub returns-in-49152 : goal.returns-in-49152
returns-in-49152 c = search kind-when-clear

pub returns-in-49153 : goal.returns-in-49153
returns-in-49153 c = search kind-when-set

pub returns-in-32768-to-32775 : goal.returns-in-32768-to-32775
returns-in-32768-to-32775 c = search kind-when-store

pub returns-in_default : goal.returns-in_default
returns-in_default c = search kind-when-low

pub returns-in_default-2 : goal.returns-in_default-2
returns-in_default-2 c = search kind-when-high
