-- Paper 01: "calls runner and folder with plain numbers and lent buffers", and paper 02, W12: what the entries tell of a
-- blit, a run and a folding, a yes as a number too.
use Rattle.std.specs.Prelude.{ℕ, Bool, true, false, List}
use Rattle.blit.specs.Blit.{Outcome}
use Rattle.runner.specs.Run.{End}
use Rattle.folder.specs.Folding.{Folding}

-- a yes is told as 1, a no as 0
abbrev pub yes_no : Bool → ℕ
yes_no true = 1
yes_no false = 0

-- the numbers that are written, and the lent buffers
pub record BlitTold : Type 0 where
  pub number : ℕ
  pub stored : ℕ
  pub round : ℕ
  pub memory : List ℕ
  pub file : List ℕ

abbrev pub blit_told : Outcome → BlitTold
blit_told outcome =
    record {
      number = outcome.number;
      stored = outcome.stored;
      round = yes_no outcome.round;
      memory = outcome.memory;
      file = outcome.file;
    }

pub record RunTold : Type 0 where
  pub number : ℕ
  pub place : ℕ
  pub stored : ℕ
  pub round : ℕ
  pub memory : List ℕ
  pub file : List ℕ

abbrev pub run_told : End → RunTold
run_told end =
    record {
      number = end.number;
      place = end.place;
      stored = end.machine.stored;
      round = yes_no end.machine.round;
      memory = end.machine.memory;
      file = end.machine.file;
    }

pub record FoldTold : Type 0 where
  pub number : ℕ
  pub place : ℕ
  pub long : ℕ
  pub round : ℕ
  pub out : List ℕ

abbrev pub fold_told : Folding → FoldTold
fold_told end =
    record {
      number = end.number;
      place = end.place;
      long = end.long;
      round = yes_no end.round;
      out = end.out;
    }
