-- `card_facts::text_fits` holds its theorem: what a card gives fits.
use Rattle.card_facts.proofs.TextFitsLaws.{text-fits}
use Rattle.card_facts.proofs.text_fits.Goals as goal

pub returns : goal.returns
returns c = text-fits
