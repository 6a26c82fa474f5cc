-- Laws of a card's job: its writes one by one.
use Rattle.word.proofs.Base.{◌≡◌, refl, sym, ap, ◌∙◌, ℕ, suc, ◌+◌, ◌-◌, ◌*◌, ◌<◌, ◌≤◌, arith, eqb, eqb→eq, List, []}
use Rattle.word.proofs.Base.{◌∷◌, length, get_or, drop, drop_of_length-le, drop-cons}
use Rattle.word.specs.Laid.{laid}
use Rattle.word.proofs.ChoiceLaws.{every-at}
use Rattle.word.proofs.LaidLaws.{laid-over}
use Rattle.card_reading.specs.Job.{offsets, write_order, value, writes}

-- the order of the writes, by one computed test for each part of it
pub write_order-before-size : (step : ℕ) → step < 12 → step ≡ get_or write_order step 0
unfolding write_order
write_order-before-size step inside = eqb→eq _ _ (every-at (λ (k : ℕ). eqb k (get_or write_order k 0)) 12 tt step inside)

pub write_order-after-size : (step : ℕ) → 12 ≤ step → step < 19 → step + 1 ≡ get_or write_order step 0
unfolding write_order
write_order-after-size step past inside =
    let same : step - 12 + 12 ≡ step = omega (arith, past) in
    let next : step - 12 + 13 ≡ step + 1 = omega (arith, past) in
    sym next
    ∙ eqb→eq _ _ (every-at (λ (k : ℕ). eqb (k + 13) (get_or write_order (k + 12) 0)) 7 tt (step - 12) (omega (arith, past, inside)))
    ∙ ap (λ (at : ℕ). get_or write_order at 0) same

pub write_order-of-size : (step : ℕ) → 19 ≤ step → step < 20 → 12 ≡ get_or write_order step 0
unfolding write_order
write_order-of-size step past inside =
    let same : 19 ≡ step = omega (arith, past, inside) in
    ap (λ (at : ℕ). get_or write_order at 0) same

write_order-length : length write_order ≡ 20
unfolding write_order
write_order-length = refl

-- the writes one by one
pub writes-of-step : (text job two : List ℕ) (start step key offset word at : ℕ)
    → key ≡ get_or write_order step 0 → offset ≡ get_or offsets key 0 → word ≡ value text start key
    → two ≡ laid (offset ∷ word ∷ []) at job
    → two ≡ laid (writes text start (get_or write_order step 0 ∷ [])) at job
unfolding writes
writes-of-step text job two start step key offset word at is_key is-offset is_IsWord lays =
    rw (← is_key, ← is-offset, ← is_IsWord) lays

pub writes-turn : (text job next whole : List ℕ) (start step at to : ℕ) → step < 20
    → next ≡ laid (writes text start (get_or write_order step 0 ∷ [])) at job → to ≡ at + 2
    → laid (writes text start (drop step write_order)) at job ≡ whole
    → laid (writes text start (drop (step + 1) write_order)) to next ≡ whole
unfolding writes laid
writes-turn text job next whole start step at to inside lays moves so_far =
    let same : suc step ≡ step + 1 = omega arith in
    let place : at + 2 ≡ at + 1 + 1 = omega arith in
    let split : drop step write_order ≡ get_or write_order step 0 ∷ drop (step + 1) write_order =
    drop-cons write_order step 0 (omega (arith, inside, write_order-length))
    ∙ ap (λ (key : ℕ). get_or write_order step 0 ∷ drop key write_order) same in
    let here : laid (writes text start (get_or write_order step 0 ∷ drop (step + 1) write_order)) at job ≡ whole =
    sym (ap (λ (keys : List ℕ). laid (writes text start keys) at job) split) ∙ so_far in
    rw (moves, place, lays) here

pub writes-done : (text job whole : List ℕ) (start step at : ℕ) → 20 ≤ step
    → laid (writes text start (drop step write_order)) at job ≡ whole → job ≡ whole
unfolding writes laid
writes-done text job whole start step at past so_far =
    sym (ap (λ (keys : List ℕ). laid (writes text start keys) at job) (drop_of_length-le write_order {i = step} (omega (arith, past, write_order-length)))) ∙ so_far

writes-length : (text : List ℕ) (start : ℕ) (keys : List ℕ) → length (writes text start keys) ≡ length keys * 2
unfolding writes
writes-length text start [] = refl
writes-length text start (key ∷ keys) = omega (arith, writes-length text start keys)

-- the writes fill a job of forty words
pub writes-fill : (text before job : List ℕ) (start : ℕ) → length before ≡ 40 → job ≡ laid (writes text start write_order) 0 before
    → job ≡ writes text start write_order
writes-fill text before job start long lays =
    lays ∙ laid-over (writes text start write_order) before (omega (arith, writes-length text start write_order, write_order-length, long))
