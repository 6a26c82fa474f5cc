-- Laws of text written on from a place: piece after piece, and how far it goes.
use Rattle.word.proofs.Base.{◌≡◌, sym, ap, ap₂, ◌∙◌, ℕ, ◌+◌, add-zero, arith, List, [], ◌∷◌, ◌++◌}
use Rattle.word.proofs.Base.{length, set, length-append}
use Rattle.word.specs.Laid.{laid}
use Rattle.word.proofs.LaidLaws.{laid-of-append}
use Rattle.card_text.specs.Card.{Written, written, writing}

pub writing-of-none : (before : Written) → writing [] before ≡ before
unfolding writing laid
writing-of-none before = ap (λ (at : ℕ). written at before.out) (add-zero before.at)

pub writing-of-append : (text more : List ℕ) (before : Written) → writing more (writing text before) ≡ writing (text ++ more) before
unfolding writing
writing-of-append text more before =
    let far : before.at + length text + length more ≡ before.at + length (text ++ more) = omega (arith, length-append text more) in
    ap₂ written far (sym (laid-of-append text more before.at before.out))

-- a piece after a piece
pub writing-then : (text more : List ℕ) (before one two : Written)
    → one ≡ writing text before → two ≡ writing more one → two ≡ writing (text ++ more) before
writing-then text more before one two first second = second ∙ ap (writing more) first ∙ writing-of-append text more before

-- a byte, and a text
pub writing-of-put : (byte at to : ℕ) (out next : List ℕ) → next ≡ set out at byte → to ≡ at + 1
    → written to next ≡ writing (byte ∷ []) (written at out)
unfolding writing laid
writing-of-put byte at to out next sets moves = ap₂ written moves sets

pub writing-of-all : (text : List ℕ) (at to : ℕ) (out next : List ℕ) → next ≡ laid text at out → to ≡ at + length text
    → written to next ≡ writing text (written at out)
unfolding writing
writing-of-all text at to out next lays moves = ap₂ written moves lays
