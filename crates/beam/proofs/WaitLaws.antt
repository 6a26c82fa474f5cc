-- Laws of a WAIT: places that aren't satisfied are passed, and the first that is satisfied is where it ends.
use Rattle.word.proofs.Base.{◌≡◌, sym, ap, ◌∙◌, ℕ, zero, suc, ◌+◌, ◌-◌, ◌*◌, ◌/◌, ◌%◌, ◌<◌, ◌≤◌, zero-add, add-zero}
use Rattle.word.proofs.Base.{arith, Bool, true, false, bit_and}
use Rattle.beam.specs.Beam.{frame_end, line, position}
use Rattle.beam.specs.Inner.LineBelow.{line_below}
use Rattle.beam.specs.Satisfied.{mask, satisfied}
use Rattle.beam.specs.Wait.{first_satisfied, waited}
use Rattle.beam.proofs.SatisfiedLaws.{satisfied-on-line-below, satisfied-on-line-of}

-- so many places, none of which is satisfied, are passed
pub first_satisfied-passes : (first second many more place : ℕ)
    → ((k : ℕ) → k < many → satisfied first second (place + k) ≡ false)
    → first_satisfied first second (many + more) place ≡ first_satisfied first second more (place + many)
unfolding first_satisfied
first_satisfied-passes first second zero more place none = rw (add-zero, zero-add)
first_satisfied-passes first second (suc many) more place none =
    let here : satisfied first second place ≡ false = ap (satisfied first second) (sym (add-zero place)) ∙ none 0 (omega arith) in
    let first_one : suc many + more ≡ suc (many + more) = omega arith in
    let past : suc place + many ≡ place + suc many = omega arith in
    rw (first_one, here)
    (first_satisfied-passes first second many more (suc place)
    (λ k inside. let later : suc place + k ≡ place + suc k = omega arith in
    ap (satisfied first second) later ∙ none (suc k) (omega (arith, inside)))
    ∙ ap (first_satisfied first second more) past)

-- the same in places of the frame
first_satisfied-on : (first second place next : ℕ) → place ≤ next → next ≤ frame_end
    → ((k : ℕ) → k < next - place → satisfied first second (place + k) ≡ false)
    → first_satisfied first second (frame_end - next) next ≡ first_satisfied first second (frame_end - place) place
first_satisfied-on first second place next on inside none =
    let all : (next - place) + (frame_end - next) ≡ frame_end - place = omega (arith, on, inside) in
    let end : place + (next - place) ≡ next = omega (arith, on) in
    sym
    (ap (λ (many : ℕ). first_satisfied first second many place) (sym all)
    ∙ first_satisfied-passes first second (next - place) (frame_end - next) place none
    ∙ ap (first_satisfied first second (frame_end - next)) end)

-- one place passed
first_satisfied-past-one : (first second place : ℕ) → place < frame_end → satisfied first second place ≡ false
    → first_satisfied first second (frame_end - (place + 1)) (place + 1) ≡ first_satisfied first second (frame_end - place) place
first_satisfied-past-one first second place inside fails =
    first_satisfied-on first second place (place + 1) (omega arith) (omega (arith, inside))
    (λ k near. let here : place + k ≡ place = omega (arith, near) in ap (satisfied first second) here ∙ fails)

-- the same by the line's start
pub first_satisfied-past-place : (first second place : ℕ) → place < frame_end → satisfied first second place ≡ false
    → first_satisfied first second (frame_end - (place / 227 * 227 + (place % 227 + 1))) (place / 227 * 227 + (place % 227 + 1))
    ≡ first_satisfied first second (frame_end - place) place
first_satisfied-past-place first second place inside fails =
    let same : place + 1 ≡ place / 227 * 227 + (place % 227 + 1) = omega arith in
    rw (← same) (first_satisfied-past-one first second place inside fails)

-- the rest of a line passed that lies below
pub first_satisfied-past-line : (first second place : ℕ) (below : Bool) → place < frame_end
    → below ≡ line_below first second (line place) → below ≡ true
    → first_satisfied first second (frame_end - (place / 227 * 227 + 227)) (place / 227 * 227 + 227)
    ≡ first_satisfied first second (frame_end - place) place
first_satisfied-past-line first second place below inside is holds =
    first_satisfied-on first second place (place / 227 * 227 + 227) (omega arith) (omega (arith, inside))
    (λ k near. let same : line (place + k) ≡ line place = omega (arith, near) in
    satisfied-on-line-below first second (place + k)
    (ap (line_below first second) same ∙ sym is ∙ holds))

-- the loop's ends: at a place that is satisfied, and past the frame
pub first_satisfied-at : (first second place whole : ℕ) (holds : Bool) → holds ≡ satisfied first second place → holds ≡ true → place < frame_end
    → first_satisfied first second (frame_end - place) place ≡ whole → place ≡ whole
unfolding first_satisfied
first_satisfied-at first second place whole holds is met inside so_far =
    let some : frame_end - place ≡ suc (frame_end - place - 1) = omega (arith, inside) in
    let here : first_satisfied first second (suc (frame_end - place - 1)) place ≡ place = rw (← is, met) in
    sym here ∙ sym (ap (λ (many : ℕ). first_satisfied first second many place) some) ∙ so_far

pub first_satisfied-past : (first second place whole : ℕ) → frame_end ≤ place
    → first_satisfied first second (frame_end - place) place ≡ whole → place ≡ whole
unfolding first_satisfied
first_satisfied-past first second place whole past so_far =
    let none : frame_end - place ≡ 0 = omega (arith, past) in
    sym (ap (λ (many : ℕ). first_satisfied first second many place) none) ∙ so_far

pub waited-of-first : (first second beam place : ℕ)
    → place ≡ first_satisfied first second (frame_end - (beam + 6)) (beam + 6) → place ≡ waited first second beam
unfolding waited
waited-of-first first second beam place same = same

-- a turn of the loop that tries places
pub first_satisfied-turn : (first second place next whole : ℕ)
    → first_satisfied first second (frame_end - next) next ≡ first_satisfied first second (frame_end - place) place
    → first_satisfied first second (frame_end - place) place ≡ whole
    → first_satisfied first second (frame_end - next) next ≡ whole
first_satisfied-turn first second place next whole passes so_far = passes ∙ so_far

-- a turn of the loop along a line: a position below the first word's, masked
pub first_satisfied-on-line : (first second place start at bits least whole : ℕ)
    → bits ≡ mask second % 256 → least ≡ bit_and (first % 256) bits → satisfied first second place ≡ false → place < frame_end
    → start ≡ place / 227 * 227 → at < 227 → bit_and at bits < least
    → first_satisfied first second (frame_end - (start + at)) (start + at) ≡ whole
    → first_satisfied first second (frame_end - (start + (at + 1))) (start + (at + 1)) ≡ whole
first_satisfied-on-line first second place start at bits least whole is-bits is-least fails inside here short low so_far =
    let same : line (start + at) ≡ line place = omega (arith, here, short) in
    let there : position (start + at) ≡ at = omega (arith, here, short) in
    let below : bit_and (position (start + at)) (mask second % 256) < bit_and (first % 256) (mask second % 256) =
    rw (there, ← is-bits, ← is-least) low in
    let next : start + at + 1 ≡ start + (at + 1) = omega arith in
    rw (← next) (first_satisfied-past-one first second (start + at) (omega (arith, here, short, inside))
    (satisfied-on-line-of first second place (start + at) fails same below))
    ∙ so_far

-- the loop's end behind the line
pub first_satisfied-past-positions : (first second start at whole : ℕ) → at ≤ 227 → 227 ≤ at
    → first_satisfied first second (frame_end - (start + at)) (start + at) ≡ whole
    → first_satisfied first second (frame_end - (start + 227)) (start + 227) ≡ whole
first_satisfied-past-positions first second start at whole most least so_far =
    let all : at ≡ 227 = omega (arith, most, least) in rw all at so_far
