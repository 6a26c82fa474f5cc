-- So many words may be fetched before any of them is stored.
use Rattle.std.specs.Prelude.{ℕ, ◌+◌, ◌<◌, ◌≡◌, Bool, true}
use Rattle.quiet.specs.Stream.{at_a, at_b, at_c, at_d}
use Rattle.apart.specs.Inner.Placed.{Pointer, Setup, Flow}

-- no used source fetches a word where D stored one of the span of words before it
unfoldable pub Apart : (stores used : Bool) → (place fetches : ℕ → Pointer) → (span words : ℕ) → Type 0
Apart stores used place fetches span words =
    (i j : ℕ) → i < words → j < i → i < j + span → stores ≡ true → used ≡ true → (place j).word ≡ (fetches i).word → ⊥

pub record AllApart (setup : Setup) (width span words : ℕ) (flow : Flow) : Type 0 where
  pub a : Apart setup.uses.d setup.uses.a (at_d setup width flow) (at_a setup width flow) span words
  pub b : Apart setup.uses.d setup.uses.b (at_d setup width flow) (at_b setup width flow) span words
  pub c : Apart setup.uses.d setup.uses.c (at_d setup width flow) (at_c setup width flow) span words
