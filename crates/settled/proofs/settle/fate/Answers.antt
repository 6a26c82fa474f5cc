-- `settled::settle::fate` meets its contract: a condition that fails keeps it; where the cheap ones hold, the verdict tells.
use Rattle.settled.proofs.SettledLaws.{fate-when-large, fate-when-unknown, fate-when-fetching, fate-when-sourceless, fate-when-known}
use Rattle.settled.proofs.settle.fate.Goals as goal

pub returns-then-not-small : goal.returns-then-not-small
returns-then-not-small c = search fate-when-large

pub returns-then-not-controls_known : goal.returns-then-not-controls_known
returns-then-not-controls_known c = search fate-when-unknown

pub returns-then-not-only_d_used : goal.returns-then-not-only_d_used
returns-then-not-only_d_used c = search fate-when-fetching

pub returns-then-not-sources_known : goal.returns-then-not-sources_known
returns-then-not-sources_known c = search fate-when-sourceless

pub returns : goal.returns
returns c = search fate-when-known
