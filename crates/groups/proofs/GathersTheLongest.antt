-- Stores gathered are the longest groups, and the only ones.
use Rattle.word.proofs.Base.{◌≡◌, refl, sym, ap, ◌∙◌, ℕ, suc, ◌+◌, ◌≤◌, arith, true, not, eqb, leb, eq-eqb, le-leb}
use Rattle.word.proofs.Base.{leb-true, not-true, List, [], ◌∷◌, ◌++◌, length}
use Rattle.word.proofs.ChoiceLaws.{and_left, and_right}
use Rattle.stores.specs.Stores.{Store, store}
use Rattle.groups.specs.Gather.{Group, group, gather, gathered}
use Rattle.groups.specs.GathersTheLongest.{rising, laid_out, none_empty, apart_from, apart, GathersTheLongest}
use Rattle.groups.proofs.GatherLaws.{gather-either}

-- a store gathered stands before the stores of the groups
gather-keeps : (one : Store) (groups : List Group) → laid_out (gather one groups) ≡ one ∷ laid_out groups
unfolding laid_out rising gather
gather-keeps one [] = refl
gather-keeps one (next ∷ rest) =
    gather-either (λ (groups : List Group). laid_out groups ≡ one ∷ laid_out (next ∷ rest)) one next rest
    (λ same. ap (λ (to : ℕ). one ∷ (rising to next.values ++ laid_out rest)) same)
    (λ other. refl)

gathered-keeps : (list : List Store) → laid_out (gathered list) ≡ list
unfolding laid_out gathered
gathered-keeps [] = refl
gathered-keeps (one ∷ rest) =
    gather-keeps one (gathered rest) ∙ ap (λ (more : List Store). one ∷ more) (gathered-keeps rest)

-- none is empty
gather-some : (one : Store) (groups : List Group) → none_empty groups ≡ true → none_empty (gather one groups) ≡ true
unfolding none_empty gather
gather-some one [] some = refl
gather-some one (next ∷ rest) some =
    gather-either (λ (groups : List Group). none_empty groups ≡ true) one next rest
    (λ same.
    rw (le-leb 1 (suc (length next.values)) (omega arith))
    (and_right (leb 1 (length next.values)) (none_empty rest) some))
    (λ other. some)

gathered-some : (list : List Store) → none_empty (gathered list) ≡ true
unfolding none_empty gathered
gathered-some [] = refl
gathered-some (one ∷ rest) = gather-some one (gathered rest) (gathered-some rest)

-- no two neighbours could be joined
gather-apart : (one : Store) (groups : List Group) → apart groups ≡ true → apart (gather one groups) ≡ true
unfolding apart apart_from gather
gather-apart one [] far = refl
gather-apart one (next ∷ rest) far =
    gather-either (λ (groups : List Group). apart groups ≡ true) one next rest
    (λ same.
    let end : one.to.word + suc (length next.values) ≡ next.to.word + length next.values = omega arith in
    ap (λ (place : ℕ). apart_from place rest) end ∙ far)
    (λ other. rw other far)

gathered-apart : (list : List Store) → apart (gathered list) ≡ true
unfolding apart gathered
gathered-apart [] = refl
gathered-apart (one ∷ rest) = gather-apart one (gathered rest) (gathered-apart rest)

-- rising stores before stores that are gathered into groups apart from them are a group before those
gathered-of-rising : (to first : ℕ) (more : List ℕ) (list : List Store) (groups : List Group)
    → gathered list ≡ groups → apart_from (to + length (first ∷ more)) groups ≡ true
    → gathered (rising to (first ∷ more) ++ list) ≡ group (record { word = to }) (first ∷ more) ∷ groups
unfolding gathered rising gather apart_from
gathered-of-rising to first [] list [] same far = rw same
gathered-of-rising to first [] list (next ∷ rest) same far =
    let behind = apart_from (next.to.word + length next.values) rest in
    let test = eqb (to + 1) next.to.word in
    rw (same, not-true test (and_left (not test) behind far))
gathered-of-rising to first (second ∷ more) list groups same far =
    let end : to + suc (suc (length more)) ≡ to + 1 + suc (length more) = omega arith in
    let later : apart_from (to + 1 + suc (length more)) groups ≡ true =
    sym (ap (λ (place : ℕ). apart_from place groups) end) ∙ far in
    ap (gather (store (record { word = to }) first)) (gathered-of-rising (to + 1) second more list groups same later)
    ∙ rw (eq-eqb (to + 1) (to + 1) refl)

-- groups that are apart from an end are apart
apart-of-apart_from : (end : ℕ) (groups : List Group) → apart_from end groups ≡ true → apart groups ≡ true
unfolding apart apart_from
apart-of-apart_from end [] far = refl
apart-of-apart_from end (one ∷ rest) far =
    and_right (not (eqb end one.to.word)) (apart_from (one.to.word + length one.values) rest) far

gathered-of-laid_out : (groups : List Group) → none_empty groups ≡ true → apart groups ≡ true
    → gathered (laid_out groups) ≡ groups
unfolding gathered laid_out none_empty apart
gathered-of-laid_out [] some far = refl
gathered-of-laid_out (one ∷ rest) some far =
    by_values one.values
    (gathered-of-laid_out rest (and_right (leb 1 (length one.values)) (none_empty rest) some)
    (apart-of-apart_from (one.to.word + length one.values) rest far))
    (leb-true 1 (length one.values) (and_left (leb 1 (length one.values)) (none_empty rest) some)) far
  where
    by_values : (values : List ℕ) → gathered (laid_out rest) ≡ rest → 1 ≤ length values
        → apart_from (one.to.word + length values) rest ≡ true
        → gathered (rising one.to.word values ++ laid_out rest) ≡ group one.to values ∷ rest
    by_values [] same none far = absurd (omega arith)
    by_values (first ∷ more) same some far = gathered-of-rising one.to.word first more (laid_out rest) rest same far

pub gathers-the-longest : GathersTheLongest
gathers-the-longest =
    record {
      gathers = λ list. record { keeps = gathered-keeps list; some = gathered-some list; apart = gathered-apart list };
      only = λ list groups longest.
          sym (gathered-of-laid_out groups longest.some longest.apart) ∙ ap gathered longest.keeps;
    }
