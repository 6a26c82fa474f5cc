-- Laws of a list's course: instructions that are done one after the other, and where a frame can stop.
use Rattle.word.proofs.Base.{◌≡◌, refl, sym, ap, subst, ◌∙◌, ℕ, zero, suc, ◌+◌, ◌-◌, ◌<◌, ◌≤◌, zero-add, arith, Bool}
use Rattle.word.proofs.Base.{true, false, ◌&&◌, not, eqb, eq-eqb, eqb-true, eqb-false, not-true}
use Rattle.word.proofs.ChoiceLaws.{and_left, and_right}
use Rattle.instruction.specs.Effect.{Moment, effect}
use Rattle.copper.specs.Frame.{end_of_frame, used_up, refusal, Frame, stopped, over, onward}
use Rattle.copper.proofs.FrameLaws.{onward-when-over, onward-when-used-up, onward-when-refused, onward-when-done}
use Rattle.copper_facts.specs.Course.{after, goes}

-- the first of the instructions that are done, and the others
module _ (many : ℕ) (here : Moment) where
  pub goes-of-first : over here ≡ false → (effect here).number ≡ 0 → goes many (effect here).moment ≡ true → goes (suc many) here ≡ true
  unfolding goes
  goes-of-first inside done rest = rw (inside, eq-eqb (effect here).number 0 done, rest)

  module _ (all : goes (suc many) here ≡ true) where
    first_two : (not (over here) && eqb (effect here).number 0) ≡ true
    unfolding goes
    first_two = and_left (not (over here) && eqb (effect here).number 0) (goes many (effect here).moment) all

    goes-inside : over here ≡ false
    goes-inside = not-true (over here) (and_left (not (over here)) (eqb (effect here).number 0) first_two)

    pub goes-done : (effect here).number ≡ 0
    goes-done = eqb-true (effect here).number 0 (and_right (not (over here)) (eqb (effect here).number 0) first_two)

    pub goes-rest : goes many (effect here).moment ≡ true
    unfolding goes
    goes-rest = and_right (not (over here) && eqb (effect here).number 0) (goes many (effect here).moment) all

-- a frame goes on past the instructions that are done
pub onward-goes : (many rest done : ℕ) (here : Moment) → goes many here ≡ true
    → onward (many + rest) done here ≡ onward rest (many + done) (after many here)
unfolding after
onward-goes zero rest done here all = rw (zero-add rest, zero-add done)
onward-goes (suc many) rest done here all =
    let lent : suc many + rest ≡ suc (many + rest) = omega arith in
    let count : many + suc done ≡ suc many + done = omega arith in
    ap (λ (still : ℕ). onward still done here) lent
    ∙ sym (onward-when-done (many + rest) done here (goes-inside many here all) (goes-done many here all))
    ∙ onward-goes many rest (suc done) (effect here).moment (goes-rest many here all)
    ∙ ap (λ (this : ℕ). onward rest this (after many (effect here).moment)) count

-- what holds wherever a frame can stop holds of the frame
abbrev AtEnd : (Frame → Type 0) → (lent done : ℕ) → Moment → Type 0
AtEnd Holds lent done here =
    (many : ℕ) → many ≤ lent → goes many here ≡ true → over (after many here) ≡ true
    → Holds (stopped end_of_frame 0 (many + done) (after many here))

abbrev AtLast : (Frame → Type 0) → (lent done : ℕ) → Moment → Type 0
AtLast Holds lent done here =
    goes lent here ≡ true → over (after lent here) ≡ false → Holds (stopped used_up 0 (lent + done) (after lent here))

abbrev AtRefused : (Frame → Type 0) → (lent done : ℕ) → Moment → Type 0
AtRefused Holds lent done here =
    (many : ℕ) → many < lent → goes many here ≡ true → over (after many here) ≡ false → ((effect (after many here)).number ≡ 0 → ⊥)
    → Holds (stopped refusal (effect (after many here)).number (many + done) (after many here))

one_more : (many done : ℕ) → suc many + done ≡ many + suc done
one_more many done = omega arith

pub onward-wherever : (Holds : Frame → Type 0) (lent done : ℕ) (here : Moment)
    → AtEnd Holds lent done here → AtLast Holds lent done here → AtRefused Holds lent done here → Holds (onward lent done here)
unfolding after goes
onward-wherever Holds zero done here at-end at_last at-refused = by_over (over here) refl
  where
    by_over : (past : Bool) → over here ≡ past → Holds (onward zero done here)
    by_over true is =
        subst Holds (ap (λ (count : ℕ). stopped end_of_frame 0 count here) (zero-add done) ∙ onward-when-over 0 done here is)
        (at-end 0 (omega arith) refl is)
    by_over false is =
        subst Holds (ap (λ (count : ℕ). stopped used_up 0 count here) (zero-add done) ∙ onward-when-used-up done here is)
        (at_last refl is)
onward-wherever Holds (suc lent) done here at-end at_last at-refused =
    by_over
    (λ inside none.
    onward-wherever Holds lent (suc done) (effect here).moment
    (λ many few all past.
    subst Holds (ap (λ (this : ℕ). stopped end_of_frame 0 this (after many (effect here).moment)) (one_more many done))
    (at-end (suc many) (omega (arith, few)) (goes-of-first many here inside none all) past))
    (λ all within.
    subst Holds (ap (λ (this : ℕ). stopped used_up 0 this (after lent (effect here).moment)) (one_more lent done))
    (at_last (goes-of-first lent here inside none all) within))
    (λ many few all within some.
    subst Holds
    (ap (λ (this : ℕ). stopped refusal (effect (after many (effect here).moment)).number this (after many (effect here).moment))
    (one_more many done))
    (at-refused (suc many) (omega (arith, few)) (goes-of-first many here inside none all) within some)))
    (over here) refl
  where
    by_number : (over here ≡ false → (effect here).number ≡ 0 → Holds (onward lent (suc done) (effect here).moment))
        → over here ≡ false → (none : Bool) → eqb (effect here).number 0 ≡ none → Holds (onward (suc lent) done here)
    by_number later inside true is =
        let none = eqb-true (effect here).number 0 is in
        subst Holds (onward-when-done lent done here inside none) (later inside none)
    by_number later inside false is =
        let some = eqb-false (effect here).number 0 is in
        subst Holds
        (ap (λ (this : ℕ). stopped refusal (effect here).number this here) (zero-add done) ∙ onward-when-refused lent done here inside some)
        (at-refused 0 (omega arith) refl inside some)

    by_over : (over here ≡ false → (effect here).number ≡ 0 → Holds (onward lent (suc done) (effect here).moment))
        → (past : Bool) → over here ≡ past → Holds (onward (suc lent) done here)
    by_over later true is =
        subst Holds (ap (λ (this : ℕ). stopped end_of_frame 0 this here) (zero-add done) ∙ onward-when-over (suc lent) done here is)
        (at-end 0 (omega arith) refl is)
    by_over later false is = by_number later is (eqb (effect here).number 0) refl

-- the last of the instructions that are done, and those before it
pub goes_last : (many : ℕ) (here : Moment) → goes (suc many) here ≡ true → (goes many here ≡ true) × (over (after many here) ≡ false)
unfolding goes after
goes_last zero here all = (refl, goes-inside 0 here all)
goes_last (suc many) here all =
    let later = goes_last many (effect here).moment (goes-rest (suc many) here all) in
    (goes-of-first many here (goes-inside (suc many) here all) (goes-done (suc many) here all) later.0, later.1)

-- where a frame stops: past its end, with all that was lent used up, at a refused instruction
module _ (many done : ℕ) (here : Moment) (all : goes many here ≡ true) where
  rest_of : (lent : ℕ) → many ≤ lent → onward lent done here ≡ onward (lent - many) (many + done) (after many here)
  rest_of lent few =
      let split : lent ≡ many + (lent - many) = omega (arith, few) in
      ap (λ (still : ℕ). onward still done here) split ∙ onward-goes many (lent - many) done here all

  pub onward-stops-over : (lent : ℕ) → many ≤ lent → over (after many here) ≡ true
      → onward lent done here ≡ stopped end_of_frame 0 (many + done) (after many here)
  onward-stops-over lent few past = rest_of lent few ∙ sym (onward-when-over (lent - many) (many + done) (after many here) past)

  module _ (inside : over (after many here) ≡ false) where
    pub onward-stops-used-up : onward many done here ≡ stopped used_up 0 (many + done) (after many here)
    onward-stops-used-up =
        let none : many - many ≡ 0 = omega arith in
        rest_of many (omega arith)
        ∙ ap (λ (still : ℕ). onward still (many + done) (after many here)) none
        ∙ sym (onward-when-used-up (many + done) (after many here) inside)

    pub onward-stops-refused : (lent : ℕ) → many < lent → ((effect (after many here)).number ≡ 0 → ⊥)
        → onward lent done here ≡ stopped refusal (effect (after many here)).number (many + done) (after many here)
    onward-stops-refused lent few some =
        let one : lent - many ≡ suc (lent - many - 1) = omega (arith, few) in
        rest_of lent (omega (arith, few))
        ∙ ap (λ (still : ℕ). onward still (many + done) (after many here)) one
        ∙ sym (onward-when-refused (lent - many - 1) (many + done) (after many here) inside some)
