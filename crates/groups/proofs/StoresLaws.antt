-- Laws of a run of stores laid group by group: the step of the group that leads, and what stands behind it.
use Rattle.word.proofs.Base.{◌≡◌, refl, sym, ap, ◌∙◌, ℕ, zero, suc, ◌+◌, ◌-◌, ◌*◌, ◌<◌, ◌≤◌, arith, List, [], ◌∷◌}
use Rattle.word.proofs.Base.{◌++◌, length, length-append, length-take-le, get_or, set, take, drop, drop-cons, drop_of_length-le}
use lib.ListN.{length-drop}
use Rattle.std.proofs.Math.Seq.{take-length}
use Rattle.word.specs.Laid.{laid}
use Rattle.word.specs.Pointer.{high, low}
use Rattle.word.proofs.LaidLaws.{laid-of-append}
use Rattle.stores.specs.Stores.{Store}
use Rattle.groups.specs.Gather.{gathered}
use Rattle.groups.specs.Words.{store_words, step_words, groups_words, stores_words}
use Rattle.groups.specs.Inner.Leading.{leading}
use Rattle.groups.specs.Inner.Values.{places, values, group_step}
use Rattle.groups.proofs.WordsLaws.{step_words-length-le, stores_words-of-leading}

pub values-length : (list : List Store) → length (values list) ≡ length list
values-length [] = refl
values-length (one ∷ rest) = ap suc (values-length rest)

values-take : (many : ℕ) (list : List Store) → values (take many list) ≡ take many (values list)
values-take zero list = refl
values-take (suc many) [] = refl
values-take (suc many) (one ∷ rest) = ap (λ (more : List ℕ). one.value ∷ more) (values-take many rest)

-- values laid one by one: a turn of the loop, and its end
module _ (list : List Store) (out whole : List ℕ) (place at : ℕ) (so_far : laid (values (drop place list)) at out ≡ whole) where
  pub values-turn : (none : Store) (next : List ℕ) (to : ℕ) → place < length list
      → next ≡ set out at (get_or list place none).value → to ≡ at + 1
      → laid (values (drop (place + 1) list)) to next ≡ whole
  unfolding laid
  values-turn none next to inside sets moves =
      let same : suc place ≡ place + 1 = omega arith in
      let split : drop place list ≡ get_or list place none ∷ drop (place + 1) list = drop-cons list place none inside ∙ rw same refl in
      rw (sets, moves) (sym (ap (λ (rest : List Store). laid (values rest) at out) split) ∙ so_far)

  pub values-end : length list ≤ place → out ≡ whole
  unfolding laid
  values-end past = sym (ap (λ (rest : List Store). laid (values rest) at out) (drop_of_length-le list past)) ∙ so_far

-- the step of one store, and of several
module _ (list : List Store) (none : Store) (some : 1 ≤ length list) where
  step-lone : (list : List Store) → length list ≡ 1 → group_step list ≡ store_words (get_or list 0 none).to (get_or list 0 none).value
  unfolding group_step step_words
  step-lone [] lone = absurd (omega arith)
  step-lone (one ∷ []) lone = refl
  step-lone (one ∷ next ∷ rest) lone = absurd (omega (arith, lone))

  step-several : (list : List Store) → 1 < length list
      → group_step list ≡ ((0x9000 + high (get_or list 0 none).to) ∷ low (get_or list 0 none).to ∷ length list ∷ []) ++ values list
  unfolding group_step step_words
  step-several [] many = absurd (omega arith)
  step-several (one ∷ []) many = absurd (omega arith)
  step-several (one ∷ next ∷ rest) many = rw (values-length rest)

  module _ (at : ℕ) (out next : List ℕ) where
    pub put-group-lone : (up down : ℕ) → length list ≤ 1
        → up ≡ high (get_or list 0 none).to → down ≡ low (get_or list 0 none).to
        → next ≡ laid ((0x8000 + up) ∷ down ∷ (get_or list 0 none).value ∷ []) at out
        → next ≡ laid (group_step list) at out
    put-group-lone up down few is_up is_down lays =
        let one : length list ≡ 1 = omega arith in
        lays ∙ rw (step-lone list one, is_up, is_down)

    pub put-group-several : (up down : ℕ) (head : List ℕ) (to : ℕ) → 1 < length list
        → up ≡ high (get_or list 0 none).to → down ≡ low (get_or list 0 none).to
        → head ≡ laid ((0x9000 + up) ∷ down ∷ length list ∷ []) at out → to ≡ at + 3
        → next ≡ laid (values list) to head
        → next ≡ laid (group_step list) at out
    put-group-several up down head to several is_up is_down begins moves lays =
        lays
        ∙ rw (begins, moves, is_up, is_down)
        (sym (laid-of-append
        ((0x9000 + high (get_or list 0 none).to) ∷ low (get_or list 0 none).to ∷ length list ∷ []) (values list) at out)
        ∙ ap (λ (words : List ℕ). laid words at out) (sym (step-several list several)))

  pub put-group-end-lone : (at to : ℕ) → length list ≤ 1 → to ≡ at + 3 → to ≡ at + length (group_step list)
  put-group-end-lone at to few moves =
      let one : length list ≡ 1 = omega arith in
      omega (arith, ap length (step-lone list one))

  pub put-group-end-several : (at to last : ℕ) → 1 < length list → to ≡ at + 3 → last ≡ to + length list
      → last ≡ at + length (group_step list)
  put-group-end-several at to last several moves ends =
      omega (arith, ap length (step-several list several), values-length list)

-- a run of stores: its words begin with the step of the stores that lead
module _ (list : List Store) (count : ℕ) (leads : count ≡ leading (places list)) (some : 1 ≤ count) (inside : count ≤ length list) where
  words-of-leading : stores_words list ≡ group_step (take count list) ++ stores_words (drop count list)
  unfolding group_step
  words-of-leading = by-list list count leads some inside
    where
      by-list : (list : List Store) (count : ℕ) → count ≡ leading (places list) → 1 ≤ count → count ≤ length list
          → stores_words list ≡ group_step (take count list) ++ stores_words (drop count list)
      by-list [] count leads some inside = absurd (omega (arith, inside, some))
      by-list (one ∷ rest) zero leads some inside = absurd (omega arith)
      by-list (one ∷ rest) (suc many) leads some inside =
          stores_words-of-leading (one ∷ rest) one rest refl
          ∙ rw (← leads, values-take many rest)

  step-few : length (group_step (take count list)) ≤ 3 * count
  unfolding group_step
  step-few = omega (arith, by-list (take count list), length-take-le count list inside)
    where
      by-list : (list : List Store) → length (group_step list) ≤ 3 * length list
      by-list [] = omega arith
      by-list (one ∷ rest) = omega (arith, step_words-length-le one.to (values (one ∷ rest)), values-length (one ∷ rest))

  behind : take (length list - count) (drop count list) ≡ drop count list
  behind = ap (λ (many : ℕ). take many (drop count list)) (sym (length-drop count list)) ∙ take-length (drop count list)

  -- a turn of the loop that lays them: what is laid, where it ends, and how far it may go
  pub put-stores-turn : (at to : ℕ) (out next whole : List ℕ)
      → laid (stores_words list) at out ≡ whole
      → next ≡ laid (group_step (take count list)) at out → to ≡ at + length (group_step (take count list))
      → laid (stores_words (take (length list - count) (drop count list))) to next ≡ whole
  put-stores-turn at to out next whole so_far lays moves =
      rw (behind, lays, moves)
      (sym (laid-of-append (group_step (take count list)) (stores_words (drop count list)) at out)
      ∙ ap (λ (words : List ℕ). laid words at out) (sym words-of-leading)
      ∙ so_far)

  pub put-stores-end-turn : (at to whole : ℕ) → at + length (stores_words list) ≡ whole
      → to ≡ at + length (group_step (take count list))
      → to + length (stores_words (take (length list - count) (drop count list))) ≡ whole
  put-stores-end-turn at to whole so_far moves =
      rw behind
      (omega (arith, ap length words-of-leading, length-append (group_step (take count list)) (stores_words (drop count list))))

  pub put-stores-room-turn : (at to : ℕ) → at + 3 * length list < 1000200
      → to ≡ at + length (group_step (take count list))
      → to + 3 * length (take (length list - count) (drop count list)) < 1000200
  put-stores-room-turn at to room moves = rw behind (omega (arith, step-few, length-drop count list))

pub put-stores-done : (list : List Store) (at : ℕ) (out whole : List ℕ) → length list ≡ 0
    → laid (stores_words list) at out ≡ whole → out ≡ whole
unfolding laid stores_words groups_words gathered
put-stores-done [] at out whole none so_far = so_far
put-stores-done (one ∷ rest) at out whole none so_far = absurd (omega (arith, none))

pub put-stores-end-done : (list : List Store) (at whole : ℕ) → length list ≡ 0
    → at + length (stores_words list) ≡ whole → at ≡ whole
unfolding stores_words groups_words gathered
put-stores-end-done [] at whole none so_far = omega arith
put-stores-end-done (one ∷ rest) at whole none so_far = absurd (omega (arith, none))
