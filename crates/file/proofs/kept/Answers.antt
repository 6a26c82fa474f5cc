-- `file::kept` meets its contract: the value, of which the kept bits are left.
use Rattle.word.proofs.Base.{◌≡◌, ℕ, get_or, bit_and}
use Rattle.file.specs.File.{kept_bits, kept}
use Rattle.file.proofs.kept.Goals as goal

kept-of-bits : (place value bits : ℕ) → bits ≡ get_or kept_bits place 0 → bit_and value bits ≡ kept place value
unfolding kept
kept-of-bits place value bits same = rw same

pub returns : goal.returns
returns c = search kept-of-bits
