-- Laws of the places that lead, and of a loop that counts them.
use Rattle.word.proofs.Base.{◌≡◌, refl, sym, ap, ◌∙◌, ℕ, suc, ◌+◌, ◌-◌, ◌<◌, arith, Bool, not}
use Rattle.word.proofs.Base.{not-true, not-false, eqb, List, [], ◌∷◌, length, get_or, drop, drop-cons, drop_of_length-le, true, false}
use Rattle.stores.specs.Stores.{Store, store}
use Rattle.groups.specs.Inner.Leading.{following, leading}
use Rattle.groups.specs.Inner.Values.{places}

-- from an index on
places-from : (list : List Store) (none : Store) (from : ℕ) → from < length list
    → drop from list ≡ get_or list from none ∷ drop (from + 1) list
places-from list none from inside =
    let next : suc from ≡ from + 1 = omega arith in
    drop-cons list from none inside ∙ rw next refl

-- from an index on the places lead by one more than from the next index on, by one alone, or to the end
module _
    (list : List Store) (none : Store) (last : ℕ) (told : Bool)
    (is : told ≡ eqb ((get_or list last none).to.word + 1) (get_or list (last + 1) none).to.word)
    (more : last + 1 < length list)
  where
    two : drop last list ≡ get_or list last none ∷ get_or list (last + 1) none ∷ drop (last + 1 + 1) list
    two =
        places-from list none last (omega arith)
        ∙ ap (λ (rest : List Store). get_or list last none ∷ rest) (places-from list none (last + 1) (omega arith))

    pub leading-turn : (whole : ℕ) → not told ≡ false
        → last + leading (places (drop last list)) ≡ whole
        → last + 1 + leading (places (drop (last + 1) list)) ≡ whole
    unfolding leading following
    leading-turn whole passes so_far =
        let one_more : leading (places (drop last list)) ≡ suc (leading (places (drop (last + 1) list))) =
        rw (two, places-from list none (last + 1) more, sym is ∙ not-false told passes) in
        omega (arith, one_more)

    pub leading-stop : (whole : ℕ) → not told ≡ true
        → last + leading (places (drop last list)) ≡ whole → last + 1 ≡ whole
    unfolding leading following
    leading-stop whole fails so_far =
        let alone : leading (places (drop last list)) ≡ 1 = rw (two, sym is ∙ not-true told fails) in
        omega (arith, alone)

pub leading-end : (list : List Store) (last whole : ℕ) → last + 1 ≡ length list
    → last + leading (places (drop last list)) ≡ whole → length list - 1 + 1 ≡ whole
unfolding leading following
leading-end list last whole end so_far =
    let nothing : drop (last + 1) list ≡ [] = drop_of_length-le list (omega arith) in
    let alone : leading (places (drop last list)) ≡ 1 =
    rw (places-from list (store (record { word = 0 }) 0) last (omega arith), nothing) in
    omega (arith, alone)
