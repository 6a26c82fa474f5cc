-- `output::words::put_settled` meets its contract: the stores, then what follows them.
use Rattle.output.proofs.StoresLaws.{settled-of-parts, settled-end, many-of-size}
use Rattle.output.proofs.words.put_settled.Goals as goal

pub returns-clause-words : goal.returns-clause-words
returns-clause-words c = let stored = c.put_blit-allzero.ensures in
    settled-of-parts _ _ _ (many-of-size _ _ _ c.height.ensures c.width.ensures) _ _ _ _ _ _ _
    stored.words stored.place stored.flag c.final_d-end.ensures c.put_end.ensures.words

pub returns-clause-place : goal.returns-clause-place
returns-clause-place c = let stored = c.put_blit-allzero.ensures in
    settled-end _ _ _ (many-of-size _ _ _ c.height.ensures c.width.ensures) _ _ _ stored.place c.put_end.ensures.place
