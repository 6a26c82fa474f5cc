-- `area::fetch::fetch` meets its contract, source by source.
use Rattle.word.proofs.Base.{refl}
use Rattle.area.specs.Fetch.{fetch}
use Rattle.area.proofs.fetch.fetch.Goals as goal

pub returns : goal.returns
unfolding fetch
returns c = rw (
  c.fetched-c.ensures.0,
  c.fetched-c.ensures.1,
  c.fetched-b.ensures.0,
  c.fetched-b.ensures.1,
  c.fetched-a.ensures.0,
  c.fetched-a.ensures.1,
) refl
