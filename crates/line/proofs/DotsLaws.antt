-- What all dots of a line keep, and how many they store.
use Rattle.word.proofs.Base.{◌≡◌, refl, ℕ, zero, suc, ◌+◌, ◌%◌, ◌<◌, ◌≤◌, arith, Bool, true, false, not, List, length, set, length-set}
use Rattle.word.specs.Word.{SixteenBits}
use Rattle.word.specs.Repeat.{repeated}
use Rattle.word.proofs.ChoiceLaws.{if-either}
use Rattle.word.proofs.LogicLaws.{logic-lt}
use Rattle.word.proofs.RepeatLaws.{repeated-holds, repeated-keeps}
use Rattle.word.proofs.WordLaws.{SixteenBits-of-set}
use Rattle.line.specs.Types.{Gains}
use Rattle.line.specs.declared.types.Line.{Line}
use Rattle.line.specs.declared.types.Dot.{Dot}
use Rattle.line.specs.Word.{dot_word}
use Rattle.line.specs.Sing.{is_stored}
use Rattle.line.specs.Accumulator.{gained}
use Rattle.line.specs.Line.{State, word_here, next, dot_stored, one_dot, line_blit}
use Rattle.line.proofs.WalkLaws.{or-true}
use Rattle.line.proofs.LineLaws.{one_dot-goes-on, one_dot-counts}

-- memory after one dot: its word is set, or it is as it was
pub one_dot-memory : (Holds : List ℕ → Type 0) (line : Line) (now : State)
    → Holds (set now.memory now.drawn.dot.spot.at.word (word_here line now)) → Holds now.memory
    → Holds (one_dot line now).memory
unfolding one_dot dot_stored
one_dot-memory Holds line now first second =
    if-either (λ (after : State). Holds after.memory) (is_stored line now.drawn.dot) _ now first second

pub line_blit-keeps-length : (line : Line) (dots : ℕ) (now : State) → length (line_blit line dots now).memory ≡ length now.memory
unfolding line_blit
line_blit-keeps-length line dots now =
    repeated-keeps (λ _. one_dot line) (λ (now : State). length now.memory)
    (λ _ now. one_dot-memory (λ (after : List ℕ). length after ≡ length now.memory) line now (length-set now.memory _ _) refl) dots now

-- words of 16 bits stay so
dot_word-lt : (line : Line) (dot : Dot) (c : ℕ) → dot_word line dot c < 65536
unfolding dot_word
dot_word-lt line dot c = logic-lt line.function _ _ c

pub line_blit-bounded : (line : Line) (dots : ℕ) (now : State) → SixteenBits now.memory → SixteenBits (line_blit line dots now).memory
unfolding line_blit
line_blit-bounded line dots now all =
    repeated-holds (λ _. one_dot line) (λ (now : State). SixteenBits now.memory)
    (λ _ now all. one_dot-memory SixteenBits line now (SixteenBits-of-set now.memory _ _ all (dot_word-lt line now.drawn.dot _)) all) dots now all

-- an even word of 16 bits
abbrev pub Even : ℕ → Type 0
Even word = (word % 2 ≡ 0) × (word < 65536)

gained-even : (gains : Gains) (sign : Bool) (accumulator : ℕ) → Even gains.a → Even gains.b → Even accumulator
    → Even (gained gains sign accumulator)
gained-even gains true accumulator a b even = (omega (arith, b, even), omega arith)
gained-even gains false accumulator a b even = (omega (arith, a, even), omega arith)

-- an accumulator that gains even modulos stays even
pub line_blit-even : (line : Line) → Even line.gains.a → Even line.gains.b
    → (dots : ℕ) (now : State) → Even now.drawn.dot.accumulator → Even (line_blit line dots now).drawn.dot.accumulator
unfolding line_blit next
line_blit-even line a b dots now even = repeated-holds (λ _. one_dot line) (λ (now : State). Even now.drawn.dot.accumulator) (λ _. again) dots now even
  where
    again : (now : State) → Even now.drawn.dot.accumulator → Even (one_dot line now).drawn.dot.accumulator
    again now even =
        rw (one_dot-goes-on line now) (gained-even line.gains now.drawn.dot.sign now.drawn.dot.accumulator a b even)

-- a dot that is stored counts one
pub one_dot-counts-one : (line : Line) (now : State) → is_stored line now.drawn.dot ≡ true → (one_dot line now).drawn.stored ≡ now.drawn.stored + 1
unfolding one_dot dot_stored
one_dot-counts-one line now stores = rw stores

one_dot-counts-on : (line : Line) (now : State) → now.drawn.stored ≤ (one_dot line now).drawn.stored
unfolding one_dot dot_stored
one_dot-counts-on line now =
    if-either (λ (after : State). now.drawn.stored ≤ after.drawn.stored) (is_stored line now.drawn.dot) _ now (omega arith) (omega arith)

line_blit-counts-on : (line : Line) (dots : ℕ) (now : State) → now.drawn.stored ≤ (line_blit line dots now).drawn.stored
unfolding line_blit repeated
line_blit-counts-on line zero now = omega arith
line_blit-counts-on line (suc dots) now =
    let rest : (one_dot line now).drawn.stored ≤ (line_blit line dots (one_dot line now)).drawn.stored = line_blit-counts-on line dots (one_dot line now) in
    let here = one_dot-counts-on line now in omega arith

-- at most a word a dot
pub line_blit-counts : (line : Line) (dots : ℕ) (now : State) → (line_blit line dots now).drawn.stored ≤ now.drawn.stored + dots
unfolding line_blit repeated
line_blit-counts line zero now = omega arith
line_blit-counts line (suc dots) now =
    let rest : (line_blit line dots (one_dot line now)).drawn.stored ≤ (one_dot line now).drawn.stored + dots = line_blit-counts line dots (one_dot line now) in
    let here = one_dot-counts line now in omega arith

-- without SING a word each
pub line_blit-counts-all : (line : Line) → line.sing ≡ false → (dots : ℕ) (now : State) → (line_blit line dots now).drawn.stored ≡ now.drawn.stored + dots
unfolding line_blit repeated
line_blit-counts-all line each zero now = omega arith
line_blit-counts-all line each (suc dots) now =
    let rest : (line_blit line dots (one_dot line now)).drawn.stored ≡ (one_dot line now).drawn.stored + dots = line_blit-counts-all line each dots (one_dot line now) in
    let here = one_dot-counts-one line now (rw each) in omega arith

-- the first dot always
pub line_blit-counts-some : (line : Line) (dots : ℕ) (now : State) → 1 ≤ dots → now.drawn.dot.first ≡ true → 1 ≤ (line_blit line dots now).drawn.stored
unfolding line_blit repeated
line_blit-counts-some line zero now some first = absurd (omega arith)
line_blit-counts-some line (suc dots) now some first =
    let rest : (one_dot line now).drawn.stored ≤ (line_blit line dots (one_dot line now)).drawn.stored = line_blit-counts-on line dots (one_dot line now) in
    let here = one_dot-counts-one line now (rw first (or-true (not line.sing))) in omega arith
