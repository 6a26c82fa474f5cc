-- Laws of the masks of A.
use Rattle.word.proofs.Base.{◌≡◌, refl, ap, ◌∙◌, ℕ, ◌<◌, mod-eq_of_lt, Bool, true, false, bit_and}
use lib.Bits.{and_mask}
use Rattle.word.specs.Mask.{masked_when, masked}

pub masked_when-when-applies : (applies : Bool) (mask word : ℕ) → applies ≡ true → bit_and word mask ≡ masked_when applies mask word
unfolding masked_when
masked_when-when-applies applies mask word holds = rw holds

pub masked_when-when-passed : (applies : Bool) (mask word : ℕ) → applies ≡ false → word ≡ masked_when applies mask word
unfolding masked_when
masked_when-when-passed applies mask word fails = rw fails

pub masked-of-both : (first last : Bool) (afwm alwm word one both : ℕ)
    → one ≡ masked_when first afwm word → both ≡ masked_when last alwm one → both ≡ masked first last afwm alwm word
unfolding masked
masked-of-both first last afwm alwm word one both early late = rw (← early) late

-- masks of all ones keep the word
masked_when-by-ones : (applies : Bool) (word : ℕ) → word < 65536 → masked_when applies 0xFFFF word ≡ word
unfolding masked_when
masked_when-by-ones true word small = and_mask word 16 ∙ mod-eq_of_lt small
masked_when-by-ones false word small = refl

pub masked-by-ones : (first last : Bool) (word : ℕ) → word < 65536 → masked first last 0xFFFF 0xFFFF word ≡ word
unfolding masked
masked-by-ones first last word small =
    ap (masked_when last 0xFFFF) (masked_when-by-ones first word small) ∙ masked_when-by-ones last word small
