-- Laws of a settled blit's last words laid into the output.
use Rattle.word.proofs.Base.{◌≡◌, ap, ◌∙◌, ℕ, Bool, List, [], ◌∷◌, ◌++◌}
use Rattle.word.specs.declared.types.Pointer.{Pointer}
use Rattle.word.specs.Laid.{laid}
use Rattle.word.specs.Pointer.{high, low}
use Rattle.settled.specs.Words.{pointer_words, flag_words}

pub put-end-of-parts : (pointer : Pointer) (allzero : Bool) (up down flag at : ℕ) (out next : List ℕ)
    → (flag ∷ []) ≡ flag_words allzero → up ≡ high pointer → down ≡ low pointer
    → next ≡ laid (0x0054 ∷ up ∷ 0x0056 ∷ down ∷ flag ∷ []) at out
    → next ≡ laid (pointer_words pointer ++ flag_words allzero) at out
put-end-of-parts pointer allzero up down flag at out next flags is_up is_down lays =
    lays ∙ rw (is_up, is_down) (ap (λ (last : List ℕ). laid (pointer_words pointer ++ last) at out) flags)
