-- Laws of memory's size.
use Rattle.word.proofs.Base.{◌≡◌, sym, ap, ◌∙◌, ℕ, ◌≤◌, Bool, false, ◌||◌, not, eqb, leb, ltb}
use Rattle.word.specs.Pointer.{pointer_end}
use Rattle.word.specs.Memory.{memory_size}
use Rattle.word.proofs.ChoiceLaws.{or_right, beyond-is-not-within, within-when-passed}

pub memory_size-is-beyond : (n : ℕ) → (eqb n 0 || ltb pointer_end n) ≡ memory_size n
unfolding memory_size
memory_size-is-beyond n = ap (λ (far : Bool). eqb n 0 || far) (beyond-is-not-within pointer_end n)

pub memory_size-when-taken : (n : ℕ) (bad : Bool) → bad ≡ memory_size n → bad ≡ false → n ≤ pointer_end
unfolding memory_size
memory_size-when-taken n bad is good = within-when-passed n pointer_end (or_right (eqb n 0) (not (leb n pointer_end)) (sym is ∙ good))
