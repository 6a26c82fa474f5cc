-- A flow with one part changed, all others as they are.
use Rattle.std.specs.Prelude.{ℕ, Bool, Option}
use Rattle.area.specs.Types.{Pointers, Sources, Earlier}
use Rattle.area.specs.declared.types.Pending.{Pending}
use Rattle.area.specs.declared.types.Flow.{Flow}

abbrev pub with_pointers : Pointers → Flow → Flow
with_pointers new flow =
    record {
      pointers = new;
      sources = flow.sources;
      earlier = flow.earlier;
      carry = flow.carry;
      allzero = flow.allzero;
      stored = flow.stored;
      pending = flow.pending;
    }

abbrev pub with_sources : Sources → Flow → Flow
with_sources new flow =
    record {
      pointers = flow.pointers;
      sources = new;
      earlier = flow.earlier;
      carry = flow.carry;
      allzero = flow.allzero;
      stored = flow.stored;
      pending = flow.pending;
    }

abbrev pub with_earlier : Earlier → Flow → Flow
with_earlier new flow =
    record {
      pointers = flow.pointers;
      sources = flow.sources;
      earlier = new;
      carry = flow.carry;
      allzero = flow.allzero;
      stored = flow.stored;
      pending = flow.pending;
    }

abbrev pub with_carry : ℕ → Flow → Flow
with_carry new flow =
    record {
      pointers = flow.pointers;
      sources = flow.sources;
      earlier = flow.earlier;
      carry = new;
      allzero = flow.allzero;
      stored = flow.stored;
      pending = flow.pending;
    }

abbrev pub with_allzero : Bool → Flow → Flow
with_allzero new flow =
    record {
      pointers = flow.pointers;
      sources = flow.sources;
      earlier = flow.earlier;
      carry = flow.carry;
      allzero = new;
      stored = flow.stored;
      pending = flow.pending;
    }

abbrev pub with_stores : ℕ → Option Pending → Flow → Flow
with_stores stored pending flow =
    record {
      pointers = flow.pointers;
      sources = flow.sources;
      earlier = flow.earlier;
      carry = flow.carry;
      allzero = flow.allzero;
      stored = stored;
      pending = pending;
    }
