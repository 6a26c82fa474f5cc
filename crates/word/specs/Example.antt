-- A worked example: what the definitions compute beside what the paper or the manual prints.
use Rattle.std.specs.Prelude.{ℕ, List}

pub record Example : Type 0 where
  pub gives : List ℕ
  pub says : List ℕ

infix 70 ◌is◌
abbrev pub ◌is◌ : (gives says : List ℕ) → Example
gives is says = record { gives = gives; says = says }
