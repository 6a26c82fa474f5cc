-- Laws of stores gathered: a store before groups, the first group of a list, how many stores the groups hold, that each
-- of them lies inside memory where the stores do, and that laid into memory they leave what the stores leave.
use Rattle.std.specs.Prelude.{if◌then◌else◌}
use Rattle.word.proofs.Base.{◌≡◌, refl, sym, ap, ◌∙◌, ℕ, suc, ◌+◌, ◌<◌, ◌≤◌, arith, Bool, true, false, eqb, eqb-true}
use Rattle.word.proofs.Base.{List, [], ◌∷◌, length, set, take, drop}
use Rattle.word.specs.Laid.{laid}
use Rattle.word.specs.Pointer.{pointer_end}
use Rattle.stores.specs.Stores.{Store}
use Rattle.stores.proofs.OnMemoryLaws.{stored_into, Inside}
use Rattle.groups.specs.Gather.{Group, group, gather, gathered}
use Rattle.groups.specs.Inner.Values.{places, values}
use Rattle.groups.specs.Inner.Leading.{following, leading}

-- what holds of a store joined to the first group where they are neighbours, and of a store alone before it where they
-- aren't, holds of the store gathered
pub gather-either : (Holds : List Group → Type 0) (one : Store) (next : Group) (rest : List Group)
    → (one.to.word + 1 ≡ next.to.word → Holds (group one.to (one.value ∷ next.values) ∷ rest))
    → (eqb (one.to.word + 1) next.to.word ≡ false → Holds (group one.to (one.value ∷ []) ∷ next ∷ rest))
    → Holds (gather one (next ∷ rest))
unfolding gather
gather-either Holds one next rest joined alone = by-test (eqb (one.to.word + 1) next.to.word) refl
  where
    by-test : (test : Bool) → eqb (one.to.word + 1) next.to.word ≡ test
        → Holds
        (if test then group one.to (one.value ∷ next.values) ∷ rest else
        group one.to (one.value ∷ []) ∷ next ∷ rest)
    by-test true same = joined (eqb-true _ _ same)
    by-test false other = alone other

-- the first group is of the stores that lead, and the others are those of what stands behind them
pub gathered-of-leading : (one : Store) (rest : List Store)
    → gathered (one ∷ rest)
    ≡ group one.to (take (leading (places (one ∷ rest))) (values (one ∷ rest)))
    ∷ gathered (drop (leading (places (one ∷ rest))) (one ∷ rest))
unfolding gathered gather leading following
gathered-of-leading one [] = refl
gathered-of-leading one (next ∷ rest) =
    let later = gathered-of-leading next rest in
    ap (gather one) later ∙ by-test later (eqb (one.to.word + 1) next.to.word) refl
  where
    many : ℕ
    many = leading (places (next ∷ rest))

    behind : List Group
    behind = group next.to (take many (values (next ∷ rest))) ∷ gathered (drop many (next ∷ rest))

    by-test : gathered (next ∷ rest) ≡ behind → (test : Bool) → eqb (one.to.word + 1) next.to.word ≡ test
        → gather one behind
        ≡ group one.to (take (leading (places (one ∷ next ∷ rest))) (values (one ∷ next ∷ rest)))
        ∷ gathered (drop (leading (places (one ∷ next ∷ rest))) (one ∷ next ∷ rest))
    by-test later true same = rw same
    by-test later false other =
        rw other (ap (λ (groups : List Group). group one.to (one.value ∷ []) ∷ groups) (sym later))

-- how many stores groups hold
unfoldable pub groups_count : List Group → ℕ
groups_count [] = 0
groups_count (one ∷ rest) = length one.values + groups_count rest

gather-counts : (one : Store) (groups : List Group) → groups_count (gather one groups) ≡ suc (groups_count groups)
unfolding groups_count gather
gather-counts one [] = refl
gather-counts one (next ∷ rest) =
    gather-either (λ (groups : List Group). groups_count groups ≡ suc (groups_count (next ∷ rest))) one next rest
    (λ same. omega arith)
    (λ other. omega arith)

pub gathered-count : (list : List Store) → groups_count (gathered list) ≡ length list
unfolding gathered groups_count
gathered-count [] = refl
gathered-count (one ∷ rest) = gather-counts one (gathered rest) ∙ ap suc (gathered-count rest)

-- each group has from 1 to 64 values and lies inside memory of n words
unfoldable pub GroupsInside : (n : ℕ) → List Group → Type 0
GroupsInside n [] = Unit
GroupsInside n (one ∷ rest) =
    (1 ≤ length one.values)
    × (length one.values ≤ 64)
    × (one.to.word < pointer_end)
    × (one.to.word + length one.values ≤ n)
    × GroupsInside n rest

gather-inside : (n : ℕ) (one : Store) (groups : List Group) → one.to.word < pointer_end → one.to.word < n
    → groups_count (gather one groups) ≤ 64 → GroupsInside n groups → GroupsInside n (gather one groups)
unfolding GroupsInside groups_count gather
gather-inside n one [] small inside few all = (omega arith, omega arith, small, omega arith, tt)
gather-inside n one (next ∷ rest) small inside few all =
    gather-either (GroupsInside n) one next rest
    (λ same. (omega arith, omega (arith, gather-counts one (next ∷ rest)), small, omega (arith, all.3), all.4))
    (λ other. (omega arith, omega arith, small, omega arith, all))

pub gathered-inside : (n : ℕ) (list : List Store) → Inside n list → length list ≤ 64 → GroupsInside n (gathered list)
unfolding gathered Inside GroupsInside
gathered-inside n [] inside few = tt
gathered-inside n (one ∷ rest) inside few =
    gather-inside n one (gathered rest) inside.0 inside.1 (omega (arith, gathered-count (one ∷ rest)))
    (gathered-inside n rest inside.2 (omega arith))

-- memory with the values of groups, one group after the other
unfoldable pub groups_into : List Group → (memory : List ℕ) → List ℕ
groups_into [] memory = memory
groups_into (one ∷ rest) memory = groups_into rest (laid one.values one.to.word memory)

gather-into : (one : Store) (groups : List Group) (memory : List ℕ)
    → groups_into (gather one groups) memory ≡ groups_into groups (set memory one.to.word one.value)
unfolding groups_into gather laid
gather-into one [] memory = refl
gather-into one (next ∷ rest) memory =
    let after : List ℕ = set memory one.to.word one.value in
    gather-either (λ (groups : List Group). groups_into groups memory ≡ groups_into (next ∷ rest) after) one next rest
    (λ same. ap (λ (to : ℕ). groups_into rest (laid next.values to after)) same)
    (λ other. refl)

pub gathered-into : (list : List Store) (memory : List ℕ) → groups_into (gathered list) memory ≡ stored_into list memory
unfolding gathered groups_into stored_into
gathered-into [] memory = refl
gathered-into (one ∷ rest) memory =
    gather-into one (gathered rest) memory ∙ gathered-into rest (set memory one.to.word one.value)
