-- Laws of a blit that uses no source and doesn't fill: a block that stands ready is that block, and what it leaves stands
-- ready for the next.
use Rattle.word.proofs.Base.{◌≡◌, refl, sym, ap, ◌∙◌, ℕ, ◌+◌, ◌-◌, ◌*◌, ◌<◌, ◌≤◌, mul-le-mul_right}
use Rattle.word.proofs.Base.{dec_lt, arith, Bool, true, false, ◌&&◌, eqb, List}
use Rattle.word.specs.Choice.{every}
use Rattle.word.proofs.ChoiceLaws.{and_right, every-of-sum}
use Rattle.block.proofs.FillLaws.{carry-of-off}
use Rattle.blocks.specs.Inner.Block.{Setup, Flow, Strides, Size, Inputs, at, level_at, nought}
use Rattle.blocks.specs.Inner.Block.{supplied_at, AllRest, Fits}
use Rattle.blocks.specs.Inner.MadeOf.{last_words, MadeOf}
use Rattle.blocks.specs.Inner.Repeats.{Still, Prepared, Repeating}
use Rattle.blocks.proofs.SuppliedLaws.{given-idle}
use Rattle.blocks.proofs.BlockLaws.{same-sources}

-- a block whose words stand ready
pub made-ready : {n : ℕ} {setup : Setup} {size : Size} {far : Strides} {flow : Flow} {memory : List ℕ} {x : Inputs (List ℕ)} {o : List ℕ} → Fits n setup size flow far
    → AllRest setup size.width flow.sources x → Prepared setup size flow x o → MadeOf setup size far flow memory x o flow
made-ready {size = size} {flow = flow} fits arrays ready =
    record {
      supplied =
          record {
            a = given-idle ready.still.a fits.room arrays.a;
            b = given-idle ready.still.b fits.room arrays.b;
            c = given-idle ready.still.c fits.room arrays.c;
          };
      earlier = ready.earlier;
      words = ready.words;
      carry = λ a b c stand. ready.carry ∙ carry-of-off _ _ _ _ _ ready.still.off;
      zero = both flow.allzero _ ready.zero;
    }
  where
    both : (before here : Bool) → (before ≡ true → here ≡ true) → before ≡ (before && here)
    both true here told = sym (told refl)
    both false here told = refl

pub arrays-of : {setup : Setup} {size : Size} {far : Strides} {flow : Flow} {memory : List ℕ} {x : Inputs (List ℕ)} {o : List ℕ} {end : Flow}
    → MadeOf setup size far flow memory x o end → AllRest setup size.width end.sources x
arrays-of made =
    record { a = made.supplied.a.rested; b = made.supplied.b.rested; c = made.supplied.c.rested }

nought-fewer : (n few : ℕ) (words : List ℕ) → few ≤ n → nought n (at words) ≡ true → nought few (at words) ≡ true
unfolding nought
nought-fewer n few words most all =
    let cut : few + (n - few) ≡ n = omega arith in
    and_right (every (λ k. eqb (at words (few + k)) 0) (n - few)) (nought few (at words))
    (every-of-sum (λ k. eqb (at words k) 0) few (n - few) ∙ ap (every (λ k. eqb (at words k) 0)) cut ∙ all)

-- what such a block hands on
module _ (next : Flow) {setup : Setup} {size : Size} {far : Strides} {here : Flow} {memory : List ℕ} {x : Inputs (List ℕ)} {o : List ℕ} (made : MadeOf setup size far here memory x o next) (still : Still setup)
    (room : size.height * size.width ≤ 64) where
  sources-kept : next.sources ≡ here.sources
  unfolding supplied_at
  sources-kept = same-sources (made.supplied.a.last ∙ rw still.a) (made.supplied.b.last ∙ rw still.b) (made.supplied.c.last ∙ rw still.c)

  carry-next : next.carry ≡ setup.carry
  carry-next =
      let rest = arrays-of made in
      made.carry (level_at next.sources.a) (λ _. next.sources.b) (λ _. next.sources.c)
      (record { of_a = λ _. rest.a.level still.a _ room; of_b = λ _. rest.b.level still.b _ room; of_c = λ _. rest.c.level still.c _ room })
      ∙ sym (carry-of-off _ _ _ _ _ still.off)

  -- where the block before it handed on the same, its words stand ready
  prepared-next : here.earlier ≡ last_words setup size.width here.sources → Prepared setup size next x o
  prepared-next before =
      record {
        still = still;
        earlier = made.earlier;
        carry = carry-next;
        words = rw (made.earlier ∙ ap (last_words setup size.width) sources-kept ∙ sym before) made.words;
        zero = λ told. and_right here.allzero _ (sym made.zero ∙ told);
      }

pub repeating-on : {setup : Setup} {width most height row rows : ℕ} {far : Strides} {here next : Flow} {memory : List ℕ} {x x' : Inputs (List ℕ)} {o o' : List ℕ}
    → MadeOf setup (record { width = width; height = rows }) far here memory x o next → rows * width ≤ 64
    → rows ≤ most → (rows < most → rows ≡ height - row) → row < height
    → Repeating setup width most height row here x' o' → Repeating setup width most height (row + rows) next x o
repeating-on {setup} {width} {most} {height} {row} {rows} {next = next} {x = x} {o = o} made room few full within told =
    record { one = λ still past. made.earlier; two = λ still past left. two still past left (dec_lt rows most) }
  where
    two : Still setup → most < row + rows → row + rows < height → Dec (rows < most) → Prepared setup (record { width = width; height = most }) next x o
    two still past left (yes fewer) = let end : rows ≡ height - row = full fewer in absurd (omega arith)
    two still past left (no all) = let same : most ≡ rows = omega arith in rw same (prepared-next next made still room (told.one still (omega arith)))

pub repeating-first : {setup : Setup} {width most height : ℕ} {flow : Flow} {x : Inputs (List ℕ)} {o : List ℕ} → Repeating setup width most height 0 flow x o
repeating-first = record { one = λ still past. absurd (omega arith); two = λ still past. absurd (omega arith) }

-- as many rows as the next block has
pub ready_of : {setup : Setup} {width most height row rows : ℕ} {flow : Flow} {x : Inputs (List ℕ)} {o : List ℕ} → rows ≤ most → row < height → Repeating setup width most height row flow x o
    → Still setup × (most < row) → Prepared setup (record { width = width; height = rows }) flow x o
ready_of {width = width} {most} {rows = rows} {o = o} few within told (still, past) =
    let full = told.two still past within in
    let less : rows * width ≤ most * width = mul-le-mul_right width few in
    record {
      still = still;
      earlier = full.earlier;
      carry = full.carry;
      words = λ a b c i most. full.words a b c i (omega arith);
      zero = λ zero. nought-fewer _ _ o less (full.zero zero);
    }
