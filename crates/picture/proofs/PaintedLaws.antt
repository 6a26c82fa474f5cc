-- Laws of pixels written into a run one after the other.
use Rattle.word.proofs.Base.{◌≡◌, refl, sym, ap, ap₂, ◌∙◌, ℕ, zero, suc, ◌+◌, ◌<◌, ◌≤◌, add-one, arith}
use Rattle.word.proofs.Base.{List, [], ◌∷◌, ◌++◌, length, get_or, set, drop, length-append, drop-cons}
use mathlib.Core.List.{append_assoc}
use lib.Seq.{set_at}
use Rattle.picture.specs.Line.{pixels}
use Rattle.picture.specs.Inner.Painted.{painted}

-- a loop that writes pixels: none, a turn, and its end
pub painted-none : (pixel : ℕ → ℕ) (run : List ℕ) → run ≡ painted pixel 0 run
unfolding painted
painted-none pixel run = refl

pub painted-turn : (pixel : ℕ → ℕ) (n here : ℕ) (run now : List ℕ) → now ≡ painted pixel n run → here ≡ pixel n
    → set now n here ≡ painted pixel (n + 1) run
unfolding painted
painted-turn pixel n here run now so_far is = rw (add-one n) (ap₂ (λ (now : List ℕ) (here : ℕ). set now n here) so_far is)

pub painted-done : (pixel : ℕ → ℕ) (n all : ℕ) (run now : List ℕ) → n ≤ all → all ≤ n
    → now ≡ painted pixel n run → now ≡ painted pixel all run
painted-done pixel n all run now most least so_far = let same : n ≡ all = omega arith in so_far ∙ ap (λ (n : ℕ). painted pixel n run) same

pub pixels-length : (pixel : ℕ → ℕ) (n : ℕ) → length (pixels pixel n) ≡ n
unfolding pixels
pixels-length pixel zero = refl
pixels-length pixel (suc n) = length-append (pixels pixel n) (pixel n ∷ []) ∙ omega (arith, pixels-length pixel n)

-- pixels that are written from the front on stand there, and the rest stays
pub painted-in-front : (pixel : ℕ → ℕ) (n : ℕ) (run : List ℕ) → n ≤ length run → painted pixel n run ≡ pixels pixel n ++ drop n run
unfolding painted pixels
painted-in-front pixel zero run fits = refl
painted-in-front pixel (suc n) run fits =
    let here : drop n run ≡ get_or run n 0 ∷ drop (suc n) run = drop-cons run n 0 fits in
    let front : painted pixel n run ≡ pixels pixel n ++ (get_or run n 0 ∷ drop (suc n) run) =
    painted-in-front pixel n run (omega arith) ∙ ap (λ (rest : List ℕ). pixels pixel n ++ rest) here in
    ap (λ (now : List ℕ). set now n (pixel n)) front
    ∙ set_at (pixels pixel n) (get_or run n 0) (drop (suc n) run) (pixel n) n (pixels-length pixel n)
    ∙ sym (append_assoc (pixels pixel n) (pixel n ∷ []) (drop (suc n) run))

pub pixels-are-pointwise : (one other : ℕ → ℕ) (n : ℕ) → ((i : ℕ) → i < n → one i ≡ other i) → pixels one n ≡ pixels other n
unfolding pixels
pixels-are-pointwise one other zero same = refl
pixels-are-pointwise one other (suc n) same =
    ap₂ (λ (front : List ℕ) (last : ℕ). front ++ (last ∷ [])) (pixels-are-pointwise one other n (λ i below. same i (omega arith))) (same n (omega arith))
