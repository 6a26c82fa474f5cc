-- Laws of the refusals.
use Rattle.std.specs.Prelude.{if◌then◌else◌, ⊤, Result, Ok, Err, IsErrAnd}
use Rattle.word.proofs.Base.{◌≡◌, refl, sym, ap, ◌∙◌, ℕ, ◌<◌, ◌≤◌, arith, Bool, true, false, ◌&&◌, ◌||◌, not, eqb, eqb-false, not-true, not-false, List}
use Rattle.word.specs.Choice.{given}
use Rattle.word.specs.Pointer.{pointer_end, pointer}
use Rattle.word.specs.Size.{height, width}
use Rattle.word.proofs.ChoiceLaws.{and_left, and_right, or_right}
use Rattle.word.proofs.SizeLaws.{height-positive, height-le, width-le, width_positive}
use Rattle.word.specs.Types.{Uses}
use Rattle.file.specs.File.{accepted, con0, con1}
use Rattle.file.specs.Places.{pointer_a, pointer_b, pointer_c, pointer_d}
use Rattle.word.specs.Control.{uses, line}
use Rattle.line.specs.Setup.{line_setup}
use Rattle.line.specs.Dot.{first_dot}
use Rattle.file.specs.Pointers.{pointer_at}
use Rattle.file.proofs.PointersLaws.{pointer_at-lt}
use Rattle.area.specs.Flow.{pointers}
use Rattle.refusal.specs.Inner.Ranges.{ChannelRange}
use Rattle.refusal.specs.Inner.AreaRange.{AreaRange}
use Rattle.refusal.specs.Inner.Channels.{IsChannel, checked}
use Rattle.refusal.specs.declared.types.Channel.{Channel}
use Rattle.refusal.specs.declared.types.AreaPlan.{AreaPlan}
use Rattle.refusal.specs.declared.types.LinePlan.{LinePlan}
use Rattle.refusal.specs.declared.types.Plan.{Plan}
use Rattle.refusal.specs.declared.types.Plan.TheVariants as plans
use Rattle.refusal.specs.declared.types.Refusal.{Refusal}
use Rattle.refusal.specs.declared.types.Refusal.TheVariants.{MemorySize, RegisterFile, BothFills, FillUpward, ALeaves, BLeaves, CLeaves, DLeaves, LineForm, LineApart}
use Rattle.refusal.specs.Touch.{touches, line_touches, leaves, channel_leaves}
use Rattle.refusal.specs.Plan.{area_plan, line_plan, plan}
use Rattle.refusal.specs.Refusal.{both_fills, fill_upward, goes_out, leaving, area_rules, other_form, pointers_differ, line_rules, blit_rules, step_refusal, refusal, refusal_number, verdict_number, handed}
use Rattle.word.specs.Memory.{memory_size}
use Rattle.word.specs.declared.types.Pointer.{Pointer}
use Rattle.refusal.proofs.TouchLaws.{channel_leaves-at-end}

module _ (file : List ℕ) (size : ℕ) (by : AreaPlan) (same : by ≡ area_plan file size) where
  pub plan-lt-a : by.pointers.a.word < pointer_end
  unfolding pointers
  plan-lt-a = rw same (pointer_at-lt file pointer_a)

  pub plan-lt-b : by.pointers.b.word < pointer_end
  unfolding pointers
  plan-lt-b = rw same (pointer_at-lt file pointer_b)

  pub plan-lt-c : by.pointers.c.word < pointer_end
  unfolding pointers
  plan-lt-c = rw same (pointer_at-lt file pointer_c)

  pub plan-lt-d : by.pointers.d.word < pointer_end
  unfolding pointers
  plan-lt-d = rw same (pointer_at-lt file pointer_d)

  pub plan-some-words : 1 ≤ by.width
  plan-some-words = rw same (width_positive size)

  pub plan-few-words : by.width ≤ 64
  plan-few-words = rw same (width-le size)

  pub plan-some-rows : 1 ≤ by.height
  plan-some-rows = rw same (height-positive size)

  pub plan-few-rows : by.height ≤ 1024
  plan-few-rows = rw same (height-le size)

  channel-in-range : (at : Pointer) → at.word < pointer_end → ChannelRange by.width by.height at
  channel-in-range at small =
      record {
        start = small;
        word = plan-some-words;
        narrow = plan-few-words;
        row = plan-some-rows;
        low = plan-few-rows;
      }

  pub area-in-range : AreaRange by
  area-in-range =
      record {
        a = channel-in-range by.pointers.a plan-lt-a;
        b = channel-in-range by.pointers.b plan-lt-b;
        c = channel-in-range by.pointers.c plan-lt-c;
        d = channel-in-range by.pointers.d plan-lt-d;
      }

-- no refusal has the number 0, which is done
pub refusal-is-some : (why : Refusal) → eqb (refusal_number why) 0 ≡ false
refusal-is-some MemorySize = refl
refusal-is-some RegisterFile = refl
refusal-is-some BothFills = refl
refusal-is-some FillUpward = refl
refusal-is-some ALeaves = refl
refusal-is-some BLeaves = refl
refusal-is-some CLeaves = refl
refusal-is-some DLeaves = refl
refusal-is-some LineForm = refl
refusal-is-some LineApart = refl

pub refusal_number-positive : (why : Refusal) → refusal_number why ≡ 0 → ⊥
refusal_number-positive why = eqb-false (refusal_number why) 0 (refusal-is-some why)

-- a refusal that is passed on keeps its number, and hands nothing on
module _ {Answer : Type 0} (verdict : Result Answer Refusal) (why : Refusal) where
  pub number-of-residual : IsErrAnd verdict (λ reason. reason ≡ why) → verdict_number verdict ≡ refusal_number why
  number-of-residual passed = by_kind verdict passed
    where
      by_kind : (this : Result Answer Refusal) → IsErrAnd this (λ reason. reason ≡ why) → verdict_number this ≡ refusal_number why
      by_kind (Ok answer) passed = absurd passed
      by_kind (Err reason) passed = ap refusal_number passed

pub handed-of-residual : (verdict : Result Plan Refusal) (why : Refusal) (other : Plan) → IsErrAnd verdict (λ reason. reason ≡ why) → handed verdict other ≡ other
handed-of-residual (Ok by) why other passed = absurd passed
handed-of-residual (Err reason) why other passed = refl

-- what an answer of a channel's test says of the channel
module _ (n : ℕ) (by : AreaPlan) (used : Bool) (modulo : ℕ) (pointer : Pointer) (channel : Channel) (reason : Refusal) (verdict : Result ⊤ Refusal)
    (is : IsChannel by used modulo pointer channel)
    (tells : verdict ≡ checked (channel_leaves n channel.direction channel.used channel.width channel.modulo channel.rows channel.pointer) reason) where
  number-of-test : verdict_number verdict ≡ (if goes_out n by used modulo pointer then refusal_number reason else 0)
  number-of-test = ap (λ (this : Result ⊤ Refusal). verdict_number this) tells ∙ by_test (channel_leaves n channel.direction channel.used channel.width channel.modulo channel.rows channel.pointer) same
    where
      same : channel_leaves n channel.direction channel.used channel.width channel.modulo channel.rows channel.pointer ≡ goes_out n by used modulo pointer
      same = rw (is.0, is.1, is.2, is.3, is.4, is.5)

      by_test : (outside : Bool) → outside ≡ goes_out n by used modulo pointer
          → verdict_number (checked outside reason) ≡ (if goes_out n by used modulo pointer then refusal_number reason else 0)
      by_test true out = rw (← out) refl
      by_test false out = rw (← out) refl

  pub outside-by-test : (why : Refusal) → verdict ≡ Err why → (goes_out n by used modulo pointer ≡ true) × (refusal_number why ≡ refusal_number reason)
  outside-by-test why refused = by_test (goes_out n by used modulo pointer) (sym (ap (λ (this : Result ⊤ Refusal). verdict_number this) refused) ∙ number-of-test)
    where
      by_test : (outside : Bool) → refusal_number why ≡ (if outside then refusal_number reason else 0) → (outside ≡ true) × (refusal_number why ≡ refusal_number reason)
      by_test true told = (refl, told)
      by_test false told = absurd (refusal_number-positive why told)

  pub inside-by-test : (done : ⊤) → verdict ≡ Ok done → goes_out n by used modulo pointer ≡ false
  inside-by-test done taken = by_test (goes_out n by used modulo pointer) (sym (ap (λ (this : Result ⊤ Refusal). verdict_number this) taken) ∙ number-of-test)
    where
      by_test : (outside : Bool) → 0 ≡ (if outside then refusal_number reason else 0) → outside ≡ false
      by_test true told = absurd (refusal_number-positive reason (sym told))
      by_test false told = refl

-- the channels one after the other: the first that leaves decides
module _ (n : ℕ) (by : AreaPlan) (one : Channel) (first : Result ⊤ Refusal) (is-a : IsChannel by by.setup.uses.a by.setup.modulos.a by.pointers.a one)
    (of-a : first ≡ checked (channel_leaves n one.direction one.used one.width one.modulo one.rows one.pointer) ALeaves) where
  pub leaving-by-a : (why : Refusal) (verdict : Result ⊤ Refusal) → first ≡ Err why → IsErrAnd verdict (λ reason. reason ≡ why)
      → verdict_number verdict ≡ leaving n by
  unfolding leaving given
  leaving-by-a why verdict refused passed = let told = outside-by-test n by _ _ _ one ALeaves first is-a of-a why refused in number-of-residual verdict why passed ∙ (told.1 ∙ rw told.0)

  module _ (done : ⊤) (stays : first ≡ Ok done) (two : Channel) (second : Result ⊤ Refusal) (is-b : IsChannel by by.setup.uses.b by.setup.modulos.b by.pointers.b two)
      (of-b : second ≡ checked (channel_leaves n two.direction two.used two.width two.modulo two.rows two.pointer) BLeaves) where
    no-a : goes_out n by by.setup.uses.a by.setup.modulos.a by.pointers.a ≡ false
    no-a = inside-by-test n by _ _ _ one ALeaves first is-a of-a done stays

    pub leaving-by-b : (why : Refusal) (verdict : Result ⊤ Refusal) → second ≡ Err why → IsErrAnd verdict (λ reason. reason ≡ why)
        → verdict_number verdict ≡ leaving n by
    unfolding leaving given
    leaving-by-b why verdict refused passed = let told = outside-by-test n by _ _ _ two BLeaves second is-b of-b why refused in number-of-residual verdict why passed ∙ (told.1 ∙ rw (no-a, told.0))

    module _ (done2 : ⊤) (stays2 : second ≡ Ok done2) (three : Channel) (third : Result ⊤ Refusal) (is-c : IsChannel by by.setup.uses.c by.setup.modulos.c by.pointers.c three)
        (of_c : third ≡ checked (channel_leaves n three.direction three.used three.width three.modulo three.rows three.pointer) CLeaves) where
      no-b : goes_out n by by.setup.uses.b by.setup.modulos.b by.pointers.b ≡ false
      no-b = inside-by-test n by _ _ _ two BLeaves second is-b of-b done2 stays2

      pub leaving-by-c : (why : Refusal) (verdict : Result ⊤ Refusal) → third ≡ Err why → IsErrAnd verdict (λ reason. reason ≡ why)
          → verdict_number verdict ≡ leaving n by
      unfolding leaving given
      leaving-by-c why verdict refused passed = let told = outside-by-test n by _ _ _ three CLeaves third is-c of_c why refused in number-of-residual verdict why passed ∙ (told.1 ∙ rw (no-a, no-b, told.0))

      pub leaving-by-d : (done3 : ⊤) (four : Channel) (fourth : Result ⊤ Refusal) → third ≡ Ok done3 → IsChannel by by.setup.uses.d by.setup.modulos.d by.pointers.d four
          → fourth ≡ checked (channel_leaves n four.direction four.used four.width four.modulo four.rows four.pointer) DLeaves → verdict_number fourth ≡ leaving n by
      unfolding leaving given
      leaving-by-d done3 four fourth stays3 is-d of-d =
          let no-c = inside-by-test n by _ _ _ three CLeaves third is-c of_c done3 stays3 in
          number-of-test n by _ _ _ four DLeaves fourth is-d of-d ∙ rw (no-a, no-b, no-c)

-- memory as long as a pointer reaches is left by none
pub leaving-at-end : (n : ℕ) (by : AreaPlan) → pointer_end ≤ n → AreaRange by → 0 ≡ leaving n by
unfolding leaving given
leaving-at-end n by long range =
    rw (
      stays by.setup.uses.a by.setup.modulos.a by.pointers.a range.a.start,
      stays by.setup.uses.b by.setup.modulos.b by.pointers.b range.b.start,
      stays by.setup.uses.c by.setup.modulos.c by.pointers.c range.c.start,
      stays by.setup.uses.d by.setup.modulos.d by.pointers.d range.d.start,
    )
  where
    stays : (used : Bool) (modulo : ℕ) (pointer : Pointer) → pointer.word < pointer_end → goes_out n by used modulo pointer ≡ false
    stays used modulo pointer small = sym (channel_leaves-at-end n by.setup.direction used by.width modulo by.height pointer long small)

-- the rules of an area blit, one after the other
module _ (n size : ℕ) (file : List ℕ) (control : ℕ) (reads : control ≡ con1 file) (both : Bool) (of-both : both ≡ both_fills control) where
  pub area-by-both-fills : both ≡ true → 8 ≡ given (area_rules n file size)
  unfolding given
  area-by-both-fills holds = rw (← reads, ← of-both, holds)

  module _ (one : both ≡ false) (upward : Bool) (of-upward : upward ≡ fill_upward control) where
    pub area-by-fill-upward : upward ≡ true → 9 ≡ given (area_rules n file size)
    unfolding given
    area-by-fill-upward holds = rw (← reads, ← of-both, one, ← of-upward, holds)

    module _ (downward : upward ≡ false) (by : AreaPlan) (of-by : by ≡ area_plan file size) (verdict : Result ⊤ Refusal)
        (gives : verdict_number verdict ≡ leaving n by) where
      area-by-leaving : verdict_number verdict ≡ given (area_rules n file size)
      unfolding given leaving
      area-by-leaving = rw (← reads, ← of-both, one, ← of-upward, downward) (rw of-by at gives)

      pub area-when-leaving : (why : Refusal) (answer : Result Plan Refusal) → verdict ≡ Err why → IsErrAnd answer (λ reason. reason ≡ why)
          → verdict_number answer ≡ given (area_rules n file size)
      area-when-leaving why answer refused passed =
          number-of-residual answer why passed ∙ sym (ap (λ (this : Result ⊤ Refusal). verdict_number this) refused) ∙ area-by-leaving

      pub area-when-lawful : (done : ⊤) → verdict ≡ Ok done → 0 ≡ given (area_rules n file size)
      area-when-lawful done taken = sym (ap (λ (this : Result ⊤ Refusal). verdict_number this) taken) ∙ area-by-leaving

-- the rules of a line
module _ (n size : ℕ) (file : List ℕ) (control : ℕ) (channels : Uses) (across : ℕ) (other : Bool)
    (reads : control ≡ con0 file) (of-uses : channels ≡ uses control) (of_width : across ≡ width size) (of_other : other ≡ other_form channels across) where
  pub line-by-form : other ≡ true → 18 ≡ given (line_rules n file size)
  unfolding given
  line-by-form holds = rw (← reads, ← of-uses, ← of_width, ← of_other, holds)

  module _ (formed : other ≡ false) (differ : Bool) (of-differ : differ ≡ pointers_differ file) where
    pub line-by-pointers : differ ≡ true → 19 ≡ given (line_rules n file size)
    unfolding given
    line-by-pointers holds = rw (← reads, ← of-uses, ← of_width, ← of_other, formed, ← of-differ, holds)

    module _ (together : differ ≡ false) (by : LinePlan) (outside : Bool) (of-by : by ≡ line_plan file size)
        (of-outside : outside ≡ leaves n (line_touches by.line by.dots by.first)) where
      touches-outside : outside ≡ leaves n (line_touches (line_setup file) (height size) (first_dot file))
      touches-outside = rw of-by at of-outside

      pub line-by-leaving : outside ≡ true → 16 ≡ given (line_rules n file size)
      unfolding given
      line-by-leaving holds = rw (← reads, ← of-uses, ← of_width, ← of_other, formed, ← of-differ, together, ← touches-outside, holds)

      pub line-by-none : outside ≡ false → 0 ≡ given (line_rules n file size)
      unfolding given
      line-by-none holds = rw (← reads, ← of-uses, ← of_width, ← of_other, formed, ← of-differ, together, ← touches-outside, holds)

pub pointers_differ-of-two : (file : List ℕ) (c d : Pointer) → c ≡ pointer_at file pointer_c → d ≡ pointer_at file pointer_d
    → not (eqb c.word d.word) ≡ pointers_differ file
unfolding pointers_differ
pointers_differ-of-two file c d of_c of-d = rw (of_c, of-d)

pub first-lt : (file : List ℕ) (size : ℕ) (by : LinePlan) → by ≡ line_plan file size → by.first.spot.at.word < pointer_end
unfolding first_dot
first-lt file size by same = rw same (pointer_at-lt file pointer_c)

pub first-shift-lt : (file : List ℕ) (size : ℕ) (by : LinePlan) → by ≡ line_plan file size → by.first.spot.shift < 16
unfolding first_dot
first-shift-lt file size by same = rw same (omega arith)

pub first-bit-lt : (file : List ℕ) (size : ℕ) (by : LinePlan) → by ≡ line_plan file size → by.first.bit < 16
unfolding first_dot
first-bit-lt file size by same = rw same (omega arith)

pub handed-of-line : (file : List ℕ) (size : ℕ) (by : LinePlan) → by ≡ line_plan file size
    → handed (Ok (plans.Line by)) (plans.Line (line_plan file size)) ≡ plans.Line (line_plan file size)
handed-of-line file size by same = rw same

-- a line's rules, or an area blit's, and what either hands on
module _ (n size : ℕ) (file : List ℕ) (control : ℕ) (lines : Bool) (number : ℕ) (verdict : Result Plan Refusal)
    (reads : control ≡ con1 file) (of-lines : lines ≡ line control) where
  line-bit : (told : Bool) → lines ≡ told → line (con1 file) ≡ told
  line-bit told same = rw (← reads, ← of-lines) same

  pub refused-by-line : lines ≡ true → number ≡ given (line_rules n file size) → number ≡ step_refusal n file size
  unfolding step_refusal
  refused-by-line holds gives = rw (line-bit true holds) gives

  pub refused-by-area : lines ≡ false → number ≡ given (area_rules n file size) → number ≡ step_refusal n file size
  unfolding step_refusal
  refused-by-area holds gives = rw (line-bit false holds) gives

  pub handed-by-line : lines ≡ true → handed verdict (plans.Line (line_plan file size)) ≡ plans.Line (line_plan file size)
      → handed verdict (plan file size) ≡ plan file size
  handed-by-line holds hands = rw (line-bit true holds) hands

  pub handed-by-area : lines ≡ false → handed verdict (plans.Area (area_plan file size)) ≡ plans.Area (area_plan file size)
      → handed verdict (plan file size) ≡ plan file size
  handed-by-area holds hands = rw (line-bit false holds) hands

-- what is handed on
pub handed-of-plan : (file : List ℕ) (size : ℕ) (by : AreaPlan) → by ≡ area_plan file size
    → handed (Ok (plans.Area by)) (plans.Area (area_plan file size)) ≡ plans.Area (area_plan file size)
handed-of-plan file size by same = rw same

-- memory and file, then the rules of the blit
module _ (n size : ℕ) (file : List ℕ) (bad : Bool) (of-bad : bad ≡ memory_size n) where
  pub refused-by-memory : bad ≡ true → 1 ≡ refusal n file size
  unfolding refusal given
  refused-by-memory holds = rw (← of-bad, holds)

  module _ (taken : bad ≡ false) (fine : Bool) (of-fine : fine ≡ accepted file) where
    pub refused-by-file : not fine ≡ true → 2 ≡ refusal n file size
    unfolding refusal given
    refused-by-file holds = rw (← of-bad, taken, ← of-fine, holds)

    pub refused-by-blit : (number : ℕ) → not fine ≡ false → number ≡ step_refusal n file size → number ≡ refusal n file size
    unfolding refusal step_refusal given
    refused-by-blit number holds rest = rw (← of-bad, taken, ← of-fine, holds) rest

-- the channels' numbers by their tests alone
abbrev pub channel_numbered : (a b c d : Bool) → ℕ
channel_numbered a b c d =
    if a then 14 else
    if b then 15 else
    if c then 16 else
    if d then 17 else
    0

-- and of an area blit
abbrev pub area_numbered : (both upward : Bool) → (channel : ℕ) → ℕ
area_numbered both upward channel =
    if both then 8 else
    if upward then 9 else
    channel

pub step_refusal-of-area : (n : ℕ) (file : List ℕ) (size : ℕ) → line (con1 file) ≡ false
    → step_refusal n file size ≡ area_numbered (both_fills (con1 file)) (fill_upward (con1 file)) (leaving n (area_plan file size))
unfolding step_refusal given leaving
step_refusal-of-area n file size area = rw area

-- an area blit that nothing refuses doesn't leave memory
area_numbered-of-none : (both upward : Bool) (channel : ℕ) → area_numbered both upward channel ≡ 0 → channel ≡ 0
area_numbered-of-none true upward channel none = absurd (omega arith)
area_numbered-of-none false true channel none = absurd (omega arith)
area_numbered-of-none false false channel none = none

pub step_refusal-of-none : (n : ℕ) (file : List ℕ) (size : ℕ) → line (con1 file) ≡ false → step_refusal n file size ≡ 0
    → leaving n (area_plan file size) ≡ 0
step_refusal-of-none n file size area lawful =
    area_numbered-of-none (both_fills (con1 file)) (fill_upward (con1 file)) (leaving n (area_plan file size))
    (sym (step_refusal-of-area n file size area) ∙ lawful)

-- a line that nothing refuses uses A, C and D, and not B
pub record Drawing (uses : Uses) : Type 0 where
  pub a : uses.a ≡ true
  pub b : uses.b ≡ false
  pub c : uses.c ≡ true
  pub d : uses.d ≡ true

drawing-of-tests : (uses : Uses) → (uses.a && not uses.b && uses.c && uses.d) ≡ true → Drawing uses
drawing-of-tests uses all =
    let abc = and_left (uses.a && not uses.b && uses.c) uses.d all in
    let ab = and_left (uses.a && not uses.b) uses.c abc in
    record {
      a = and_left uses.a (not uses.b) ab;
      b = not-true uses.b (and_right uses.a (not uses.b) ab);
      c = and_right (uses.a && not uses.b) uses.c abc;
      d = and_right (uses.a && not uses.b && uses.c) uses.d all;
    }

other_form-of-none : (uses : Uses) (width : ℕ) → other_form uses width ≡ false → Drawing uses
unfolding other_form
other_form-of-none uses width formed =
    drawing-of-tests uses (not-false (uses.a && not uses.b && uses.c && uses.d) (or_right (not (eqb width 2)) _ formed))

pub step_refusal-of-line : (n : ℕ) (file : List ℕ) (size : ℕ) → line (con1 file) ≡ true → step_refusal n file size ≡ 0
    → Drawing (uses (con0 file))
unfolding step_refusal given
step_refusal-of-line n file size lines lawful =
    other_form-of-none (uses (con0 file)) (width size)
    (by_form (other_form (uses (con0 file)) (width size)) (pointers_differ file)
    (leaves n (line_touches (line_setup file) (height size) (first_dot file))) (rw lines at lawful))
  where
    by_form : (form differ outside : Bool) → ◌≡◌ {A = ℕ} (if form then 18 else if differ then 19 else if outside then 16 else 0) 0 → form ≡ false
    by_form true differ outside none = absurd (omega arith)
    by_form false differ outside none = refl

-- one that doesn't use A is refused for its form
pub step_refusal-without-a : (n : ℕ) (file : List ℕ) (size : ℕ) → line (con1 file) ≡ true → (uses (con0 file)).a ≡ false
    → step_refusal n file size ≡ 18
unfolding step_refusal given other_form
step_refusal-without-a n file size lined idle = rw (lined, idle) (by_width (eqb (width size) 2) _)
  where
    by_width : (two : Bool) (rest : ℕ) → ◌≡◌ {A = ℕ} (if not two || true then 18 else rest) 18
    by_width true rest = refl
    by_width false rest = refl

-- the blit called alone is refused by memory, by the file, or as a job's
pub refusal-of-none : (n : ℕ) (file : List ℕ) (size : ℕ) → refusal n file size ≡ 0 → step_refusal n file size ≡ 0
unfolding refusal step_refusal given
refusal-of-none n file size lawful = by_tests (memory_size n) (not (accepted file)) (given (blit_rules n file size)) lawful
  where
    by_tests : (memory file : Bool) (rest : ℕ) → (if memory then 1 else if file then 2 else rest) ≡ 0 → rest ≡ 0
    by_tests true file rest none = absurd (omega arith)
    by_tests false true rest none = absurd (omega arith)
    by_tests false false rest none = none

-- then D, if it is used, stays inside
last-of-none : (a b c used outside : Bool) → used ≡ true → channel_numbered a b c (used && outside) ≡ 0 → outside ≡ false
last-of-none true b c used outside uses none = absurd (omega arith)
last-of-none false true c used outside uses none = absurd (omega arith)
last-of-none false false true used outside uses none = absurd (omega arith)
last-of-none false false false true true uses none = absurd (omega arith)
last-of-none false false false false true uses none = sym uses
last-of-none false false false used false uses none = refl

pub leaving-of-d : (n : ℕ) (by : AreaPlan) → by.setup.uses.d ≡ true → leaving n by ≡ 0
    → leaves n (touches by.setup.direction by.width by.setup.modulos.d by.height by.pointers.d) ≡ false
unfolding leaving given channel_leaves
leaving-of-d n by uses none =
    last-of-none
    (goes_out n by by.setup.uses.a by.setup.modulos.a by.pointers.a)
    (goes_out n by by.setup.uses.b by.setup.modulos.b by.pointers.b)
    (goes_out n by by.setup.uses.c by.setup.modulos.c by.pointers.c)
    by.setup.uses.d (leaves n (touches by.setup.direction by.width by.setup.modulos.d by.height by.pointers.d)) uses none
