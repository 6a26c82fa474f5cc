-- `blocks::one::sources` meets its contract, source by source.
use Rattle.word.proofs.Base.{sym, ◌∙◌, ◌||◌}
use Rattle.word.proofs.ChoiceLaws.{or_left, or_right}
use Rattle.blocks.proofs.SuppliedLaws.{given-kept, given-as}
use Rattle.blocks.proofs.BlockLaws.{sized, asked, last_row}
use Rattle.blocks.proofs.one.sources.Goals as goal

pub source-from_a-requires : goal.source-from_a-requires
source-from_a-requires c = sized c.requires.1 c.requires.1.placed.a

pub source-from_b-requires : goal.source-from_b-requires
source-from_b-requires c = sized c.requires.1 c.requires.1.placed.b

pub source-from_c-requires : goal.source-from_c-requires
source-from_c-requires c = sized c.requires.1 c.requires.1.placed.c

pub supplied-a-requires : goal.supplied-a-requires
supplied-a-requires c = rw c.source-from_a.ensures.0 (asked c.requires.1 c.requires.1.placed.a c.source-from_a.ensures.1 c.requires.2.a)

pub supplied-b-requires : goal.supplied-b-requires
supplied-b-requires c = rw c.source-from_b.ensures.0 (asked c.requires.1 c.requires.1.placed.b c.source-from_b.ensures.1 c.requires.2.b)

pub supplied-c-requires : goal.supplied-c-requires
supplied-c-requires c = rw c.source-from_c.ensures.0 (asked c.requires.1 c.requires.1.placed.c c.source-from_c.ensures.1 c.requires.2.c)

pub last_of-requires : goal.last_of-requires
last_of-requires c = rw c.source-from_a.ensures.0 (last_row c.requires.1 c.requires.1.placed.a c.args.need.a c.source-from_a.ensures.1)

pub last_of-requires-then-ignored : goal.last_of-requires-then-ignored
last_of-requires-then-ignored c = rw c.source-from_b.ensures.0 (last_row c.requires.1 c.requires.1.placed.b c.args.need.b c.source-from_b.ensures.1)

pub last_of-requires-then-ignored-2 : goal.last_of-requires-then-ignored-2
last_of-requires-then-ignored-2 c = rw c.source-from_c.ensures.0 (last_row c.requires.1 c.requires.1.placed.c c.args.need.c c.source-from_c.ensures.1)

pub returns-then-ignored : goal.returns-then-ignored
returns-then-ignored c = record {
  a = given-as _ (rw (sym c.last_of.ensures, c.source-from_a.ensures.0, c.requires.0) at c.supplied-a.ensures);
  b = given-as _ (rw (sym c.last_of-then-ignored.ensures, c.source-from_b.ensures.0, c.requires.0) at c.supplied-b.ensures);
  c = given-as _ (rw (sym c.last_of-then-ignored-2.ensures, c.source-from_c.ensures.0, c.requires.0) at c.supplied-c.ensures);
}

pub returns : goal.returns
returns c = let two = or_left _ _ c.if-ignored.false in
    record {
      a = given-as _ (rw (c.source-from_a.ensures.0, c.requires.0) at (given-kept _ (sym c.ignored.ensures ∙ or_left _ _ two) c.supplied-a.ensures));
      b = given-as _ (rw (c.source-from_b.ensures.0, c.requires.0) at (given-kept _ (sym c.ignored-2.ensures ∙ or_right c.ignored.result _ two) c.supplied-b.ensures));
      c = given-as _ (rw (c.source-from_c.ensures.0, c.requires.0) at (given-kept _ (sym c.ignored-3.ensures ∙ or_right (c.ignored.result || c.ignored-2.result) _ c.if-ignored.false) c.supplied-c.ensures));
    }
