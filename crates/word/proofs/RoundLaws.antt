-- Laws of going round: each move's test, as the code has it, and the moves by their direction.
use Rattle.word.proofs.Base.{◌≡◌, refl, sym, ap, ◌∙◌, ℕ, ◌+◌, ◌-◌, ◌%◌, ◌<◌, ◌≤◌, dec_lt, arith, Bool, true, false, not, leb, ltb, le-leb, lt-leb, le-ltb, lt-ltb}
use Rattle.std.specs.Prelude.{if◌then◌else◌}
use Rattle.word.proofs.ChoiceLaws.{beyond-is-not-within}
use mathlib.Core.Bool.{beq}
use Rattle.word.specs.declared.types.Direction.{Direction}
use Rattle.word.specs.declared.types.Direction.TheVariants.{Ascending, Descending}
use Rattle.word.specs.declared.types.Pointer.{Pointer}
use Rattle.word.specs.declared.types.Move.{Move}
use Rattle.word.specs.Pointer.{pointer_end, downward, moved, passed}
use Rattle.word.specs.Round.{plus_round, minus_round, moved_round, passed_round, plus_move, minus_move, word_move, modulo_move}
use Rattle.word.specs.Inner.On.{moved_on}
use Rattle.word.proofs.PointerLaws.{sum-of-remainder}

-- two tests of order that hold together
pub same-order : (a b c d : ℕ) → (a ≤ b → c ≤ d) → (b < a → d < c) → leb a b ≡ leb c d
same-order a b c d yields fails = by_order (dec_lt b a)
  where
    by_order : Dec (b < a) → leb a b ≡ leb c d
    by_order (yes less) = lt-leb a b less ∙ sym (lt-leb c d (fails less))
    by_order (no more) = let within : a ≤ b = omega arith in le-leb a b within ∙ sym (le-leb c d (yields within))

-- where a move leads
pub to-of-move : (made : Move) (to : Pointer) (round : Bool) → made ≡ record { to = to; round = round } → made.to ≡ to
to-of-move made to round same = ap (λ (move : Move). move.to) same

-- a bounded word number moves as any other, and its test is the one that its way asks
told : (up found : Bool) → beq found up ≡ (if up then found else not found)
told true true = refl
told true false = refl
told false true = refl
told false false = refl

pub moved-on : (words : ℕ) (up : Bool) (pointer : Pointer)
    → ◌≡◌ {A = Move} (record { to = record { word = (pointer.word % pointer_end + words) % pointer_end }; round = beq (leb (pointer_end - words) pointer.word) up })
    (moved_on words up pointer)
unfolding moved_on
moved-on words up pointer =
    rw (sum-of-remainder pointer.word words, told up (leb (pointer_end - words) pointer.word), beyond-is-not-within pointer.word (pointer_end - words)) refl

module _ (words by : ℕ) (pointer : Pointer) (made : Move) (same : by ≡ words % pointer_end) where
  -- added: upward below 131,072 words, downward from there on
  pub plus-on : made ≡ moved_on by (ltb by downward) pointer → made ≡ plus_move words pointer
  unfolding moved_on plus_round
  plus-on on = by_way (dec_lt by downward)
    where
      by_way : Dec (by < downward) → made ≡ plus_move words pointer
      by_way (yes above) =
          on ∙ rw (lt-ltb by downward above, ← same, lt-leb downward by above)
          (rw (same-order (pointer_end - by) pointer.word pointer_end (pointer.word + by) (λ past. omega (arith, same)) (λ inside. omega (arith, same))) refl)
      by_way (no not_above) =
          let below : downward ≤ by = omega (arith, not_above) in
          on ∙ rw (le-ltb by downward below, ← same, le-leb downward by below) refl

  -- taken away: the reverse
  pub minus-on : made ≡ moved_on (pointer_end - by) (leb downward by) pointer → made ≡ minus_move words pointer
  unfolding moved_on minus_round
  minus-on on = by_way (dec_lt by downward)
    where
      small : by < pointer_end
      small = omega (arith, same)

      back : pointer_end - (pointer_end - by) ≡ by
      back = omega (arith, small)

      by_way : Dec (by < downward) → made ≡ minus_move words pointer
      by_way (yes above) = on ∙ rw (← same, lt-leb downward by above, back) refl
      by_way (no not_above) =
          let below : downward ≤ by = omega (arith, not_above) in
          on ∙ rw (← same, le-leb downward by below, back)
          (rw (same-order by pointer.word pointer_end (pointer.word + (pointer_end - by)) (λ past. omega (arith, small)) (λ inside. omega (arith, small))) refl)

-- a move by one word is one up, or down
pub passed-one : (direction : Direction) (pointer : Pointer) → passed direction 1 pointer ≡ moved direction pointer
unfolding moved passed
passed-one Ascending pointer = refl
passed-one Descending pointer = refl

pub word_move-of-one : (direction : Direction) (pointer : Pointer) (made : Move)
    → made ≡ modulo_move direction 1 pointer → made ≡ word_move direction pointer
unfolding moved passed moved_round passed_round plus_round minus_round
word_move-of-one Ascending pointer made same = same
word_move-of-one Descending pointer made same = same

-- by the direction
module _ (direction : Direction) (from : Pointer) (made : Move) where
  pub modulo_move-when-ascending : (words : ℕ) → direction ≡ Ascending → made ≡ plus_move words from → made ≡ modulo_move direction words from
  unfolding passed passed_round
  modulo_move-when-ascending words way same = rw way same

  pub modulo_move-when-descending : (words : ℕ) → direction ≡ Descending → made ≡ minus_move words from → made ≡ modulo_move direction words from
  unfolding passed passed_round
  modulo_move-when-descending words way same = rw way same
