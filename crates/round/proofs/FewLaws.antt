-- Laws of a few words' move: it goes round where one of its steps does, and the directions mirror each other.
use Rattle.std.specs.Prelude.{if◌then◌else◌}
use Rattle.word.proofs.Base.{◌≡◌, refl, sym, ap, ap₂, ◌∙◌, ℕ, suc, ◌+◌, ◌-◌, ◌%◌, ◌<◌, mod-lt, mod-eq_of_lt, dec_lt, arith, Bool, false, ◌||◌}
use Rattle.word.proofs.Base.{leb, ltb, le-leb, lt-leb, lt-ltb, le-ltb}
use Rattle.word.specs.declared.types.Direction.{Direction}
use Rattle.word.specs.declared.types.Direction.TheVariants.{Ascending, Descending}
use Rattle.word.specs.declared.types.Pointer.{Pointer}
use Rattle.word.specs.Repeat.{repeated}
use Rattle.word.specs.Pointer.{pointer_end, downward, moved, passed}
use Rattle.word.specs.Round.{plus_round, minus_round, moved_round, passed_round}
use Rattle.word.proofs.PointerLaws.{moves-are-one, moved-lt}
use Rattle.round.specs.Inner.Onward.{onward}

-- a few words on pass the end where there aren't so many
abbrev pub far : Direction → (words : ℕ) → Pointer → Bool
far Ascending words pointer = leb pointer_end (pointer.word + words)
far Descending words pointer = ltb pointer.word words

pub passed_round-is-far : (direction : Direction) (words : ℕ) (pointer : Pointer) → words < downward → passed_round direction words pointer ≡ far direction words pointer
unfolding passed_round plus_round minus_round
passed_round-is-far Ascending words pointer few =
    let small : words % pointer_end ≡ words = mod-eq_of_lt (omega arith) in rw (small, lt-leb downward words few)
passed_round-is-far Descending words pointer few =
    let small : words % pointer_end ≡ words = mod-eq_of_lt (omega arith) in rw (small, lt-leb downward words few)

far-by-one : (direction : Direction) (pointer : Pointer) → moved_round direction pointer ≡ far direction 1 pointer
unfolding moved_round
far-by-one Ascending pointer = refl
far-by-one Descending pointer = refl

-- a step, and a few more
far-turn : (direction : Direction) (words : ℕ) (pointer : Pointer) → pointer.word < pointer_end
    → (moved_round direction pointer || far direction words (moved direction pointer)) ≡ far direction (suc words) pointer
unfolding moved_round moved
far-turn Ascending words pointer small = by_place (dec_lt (pointer.word + 1) pointer_end)
  where
    by_place : Dec (pointer.word + 1 < pointer_end)
        → (leb pointer_end (pointer.word + 1) || leb pointer_end ((pointer.word + 1) % pointer_end + words)) ≡ leb pointer_end (pointer.word + suc words)
    by_place (yes inside) =
        let on : (pointer.word + 1) % pointer_end + words ≡ pointer.word + suc words = omega arith in
        rw (lt-leb pointer_end (pointer.word + 1) inside, on)
    by_place (no outside) =
        rw (le-leb pointer_end (pointer.word + 1) (omega arith), le-leb pointer_end (pointer.word + suc words) (omega arith))
far-turn Descending words pointer small = by_place (dec_lt pointer.word 1)
  where
    by_place : Dec (pointer.word < 1)
        → (ltb pointer.word 1 || ltb ((pointer.word + (pointer_end - 1)) % pointer_end) words) ≡ ltb pointer.word (suc words)
    by_place (yes first) = rw (lt-ltb pointer.word 1 first, lt-ltb pointer.word (suc words) (omega arith))
    by_place (no later) =
        let back : (pointer.word + (pointer_end - 1)) % pointer_end + 1 ≡ pointer.word = omega arith in
        rw (le-ltb pointer.word 1 (omega arith))
        (by_order (dec_lt pointer.word (suc words)) back)
      where
        by_order : Dec (pointer.word < suc words) → (pointer.word + (pointer_end - 1)) % pointer_end + 1 ≡ pointer.word
            → ltb ((pointer.word + (pointer_end - 1)) % pointer_end) words ≡ ltb pointer.word (suc words)
        by_order (yes less) back =
            lt-ltb ((pointer.word + (pointer_end - 1)) % pointer_end) words (omega (arith, back)) ∙ sym (lt-ltb pointer.word (suc words) less)
        by_order (no more) back =
            le-ltb ((pointer.word + (pointer_end - 1)) % pointer_end) words (omega (arith, back)) ∙ sym (le-ltb pointer.word (suc words) (omega arith))

module _ (direction : Direction) (pointer : Pointer) (small : pointer.word < pointer_end) where
  pub passed_round-of-none : passed_round direction 0 pointer ≡ false
  passed_round-of-none = passed_round-is-far direction 0 pointer (omega arith) ∙ by_way direction
    where
      by_way : (way : Direction) → far way 0 pointer ≡ false
      by_way Ascending = lt-leb pointer_end (pointer.word + 0) (omega arith)
      by_way Descending = le-ltb pointer.word 0 (omega arith)

  pub passed_round-of-one : moved_round direction pointer ≡ passed_round direction 1 pointer
  passed_round-of-one = far-by-one direction pointer ∙ sym (passed_round-is-far direction 1 pointer (omega arith))

  pub passed_round-of-more : (words : ℕ) → suc words < downward
      → (moved_round direction pointer || passed_round direction words (moved direction pointer)) ≡ passed_round direction (suc words) pointer
  passed_round-of-more words few =
      ap (λ (later : Bool). moved_round direction pointer || later) (passed_round-is-far direction words (moved direction pointer) (omega arith))
      ∙ far-turn direction words pointer small
      ∙ sym (passed_round-is-far direction (suc words) pointer few)

  pub passed-of-one : moved direction pointer ≡ passed direction 1 pointer
  unfolding repeated
  passed-of-one = sym (moves-are-one direction 1 pointer small (omega arith))

  pub passed-of-more : (words : ℕ) → suc words < downward → passed direction words (moved direction pointer) ≡ passed direction (suc words) pointer
  unfolding repeated
  passed-of-more words few =
      moves-are-one direction words (moved direction pointer) (moved-lt direction pointer) (omega arith)
      ∙ sym (moves-are-one direction (suc words) pointer small (omega arith))

-- the directions mirror each other
mirror-below : (at gap : ℕ) → at < pointer_end → gap < pointer_end
    → leb pointer_end (at + (pointer_end - gap)) ≡ ltb (pointer_end - 1 - at) (pointer_end - gap)
mirror-below at gap small short = by_order (dec_lt at gap)
  where
    by_order : Dec (at < gap) → leb pointer_end (at + (pointer_end - gap)) ≡ ltb (pointer_end - 1 - at) (pointer_end - gap)
    by_order (yes less) =
        lt-leb pointer_end (at + (pointer_end - gap)) (omega arith) ∙ sym (le-ltb (pointer_end - 1 - at) (pointer_end - gap) (omega arith))
    by_order (no more) =
        le-leb pointer_end (at + (pointer_end - gap)) (omega arith) ∙ sym (lt-ltb (pointer_end - 1 - at) (pointer_end - gap) (omega arith))

mirror-above : (at gap : ℕ) → at < pointer_end → ltb at gap ≡ leb pointer_end (pointer_end - 1 - at + gap)
mirror-above at gap small = by_order (dec_lt at gap)
  where
    by_order : Dec (at < gap) → ltb at gap ≡ leb pointer_end (pointer_end - 1 - at + gap)
    by_order (yes less) = lt-ltb at gap less ∙ sym (le-leb pointer_end (pointer_end - 1 - at + gap) (omega arith))
    by_order (no more) = le-ltb at gap (omega arith) ∙ sym (lt-leb pointer_end (pointer_end - 1 - at + gap) (omega arith))

pub passed_round-onward : (direction : Direction) (words : ℕ) (pointer : Pointer) → pointer.word < pointer_end
    → passed_round direction words pointer ≡ plus_round words (record { word = onward direction pointer })
unfolding passed_round onward plus_round minus_round
passed_round-onward Ascending words pointer small = refl
passed_round-onward Descending words pointer small =
    ap₂ (λ (below above : Bool). if leb downward (words % pointer_end) then below else above)
    (mirror-below pointer.word (words % pointer_end) small (mod-lt words (omega arith))) (mirror-above pointer.word (words % pointer_end) small)

pub onward-of-passed : (direction : Direction) (words : ℕ) (pointer : Pointer) → pointer.word < pointer_end
    → onward direction (passed direction words pointer) ≡ (onward direction pointer + words % pointer_end) % pointer_end
unfolding passed onward
onward-of-passed Ascending words pointer small = refl
onward-of-passed Descending words pointer small = omega arith
