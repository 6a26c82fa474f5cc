-- Laws of an area blit that goes round: its channels, one after the other.
use Rattle.word.proofs.Base.{◌≡◌, sym, ap, ◌∙◌, ℕ, Bool, true, false}
use Rattle.word.specs.declared.types.Direction.{Direction}
use Rattle.word.specs.declared.types.Pointer.{Pointer}
use Rattle.word.specs.Types.{Uses}
use Rattle.refusal.specs.declared.types.AreaPlan.{AreaPlan}
use Rattle.refusal.specs.declared.types.Channel.{Channel}
use Rattle.refusal.specs.Inner.Channels.{IsChannel}
use Rattle.round.specs.Channel.{channel_round, runs_round, area_round}

-- a channel goes round as its plan says
round-of-channel : (by : AreaPlan) (used : Bool) (modulo : ℕ) (pointer : Pointer) (channel : Channel) (told : Bool) → IsChannel by used modulo pointer channel
    → told ≡ channel_round channel.direction channel.used channel.width channel.modulo channel.rows channel.pointer → told ≡ runs_round by used modulo pointer
round-of-channel by used modulo pointer channel told (usage, direction, width, gap, rows, at) tells = rw (usage, direction, width, gap, rows, at) at tells

-- the first channel that goes round decides
module _ (by : AreaPlan) (one : Channel) (a : Bool) (is-a : IsChannel by by.setup.uses.a by.setup.modulos.a by.pointers.a one) (of-a : a ≡ channel_round one.direction one.used one.width one.modulo one.rows one.pointer) where
  as-a : a ≡ runs_round by by.setup.uses.a by.setup.modulos.a by.pointers.a
  as-a = round-of-channel by _ _ _ one a is-a of-a

  pub area_round-when-a : a ≡ true → true ≡ area_round by
  unfolding area_round
  area_round-when-a goes = rw (← as-a, goes)

  module _ (not_a : a ≡ false) (two : Channel) (b : Bool) (is-b : IsChannel by by.setup.uses.b by.setup.modulos.b by.pointers.b two) (of-b : b ≡ channel_round two.direction two.used two.width two.modulo two.rows two.pointer) where
    as-b : b ≡ runs_round by by.setup.uses.b by.setup.modulos.b by.pointers.b
    as-b = round-of-channel by _ _ _ two b is-b of-b

    pub area_round-when-b : b ≡ true → true ≡ area_round by
    unfolding area_round
    area_round-when-b goes = rw (← as-a, not_a, ← as-b, goes)

    module _ (not-b : b ≡ false) (three : Channel) (c : Bool) (is-c : IsChannel by by.setup.uses.c by.setup.modulos.c by.pointers.c three) (of_c : c ≡ channel_round three.direction three.used three.width three.modulo three.rows three.pointer) where
      as-c : c ≡ runs_round by by.setup.uses.c by.setup.modulos.c by.pointers.c
      as-c = round-of-channel by _ _ _ three c is-c of_c

      pub area_round-when-c : c ≡ true → true ≡ area_round by
      unfolding area_round
      area_round-when-c goes = rw (← as-a, not_a, ← as-b, not-b, ← as-c, goes)

      pub area_round-when-last : (four : Channel) (d : Bool) → c ≡ false → IsChannel by by.setup.uses.d by.setup.modulos.d by.pointers.d four → d ≡ channel_round four.direction four.used four.width four.modulo four.rows four.pointer → d ≡ area_round by
      unfolding area_round
      area_round-when-last four d not-c is-d of-d =
          rw (← as-a, not_a, ← as-b, not-b, ← as-c, not-c) (round-of-channel by _ _ _ four d is-d of-d)

-- none goes round
module _ (by : AreaPlan) where
  pub area_round-of-none : runs_round by by.setup.uses.a by.setup.modulos.a by.pointers.a ≡ false
      → runs_round by by.setup.uses.b by.setup.modulos.b by.pointers.b ≡ false
      → runs_round by by.setup.uses.c by.setup.modulos.c by.pointers.c ≡ false
      → runs_round by by.setup.uses.d by.setup.modulos.d by.pointers.d ≡ false
      → area_round by ≡ false
  unfolding area_round
  area_round-of-none no-a no-b no-c no-d = rw (no-a, no-b, no-c, no-d)

  pub area_round-of-clear : (one two three four : Channel) → IsChannel by by.setup.uses.a by.setup.modulos.a by.pointers.a one → IsChannel by by.setup.uses.b by.setup.modulos.b by.pointers.b two → IsChannel by by.setup.uses.c by.setup.modulos.c by.pointers.c three → IsChannel by by.setup.uses.d by.setup.modulos.d by.pointers.d four
      → channel_round one.direction one.used one.width one.modulo one.rows one.pointer ≡ false → channel_round two.direction two.used two.width two.modulo two.rows two.pointer ≡ false
      → channel_round three.direction three.used three.width three.modulo three.rows three.pointer ≡ false → channel_round four.direction four.used four.width four.modulo four.rows four.pointer ≡ false
      → area_round by ≡ false
  area_round-of-clear one two three four is-a is-b is-c is-d no-a no-b no-c no-d =
      area_round-of-none
      (sym (round-of-channel by _ _ _ one false is-a (sym no-a)))
      (sym (round-of-channel by _ _ _ two false is-b (sym no-b)))
      (sym (round-of-channel by _ _ _ three false is-c (sym no-c)))
      (sym (round-of-channel by _ _ _ four false is-d (sym no-d)))

-- where D alone is used, D decides
area_round-of-d : (by : AreaPlan) → by.setup.uses.a ≡ false → by.setup.uses.b ≡ false → by.setup.uses.c ≡ false
    → area_round by ≡ runs_round by by.setup.uses.d by.setup.modulos.d by.pointers.d
unfolding area_round channel_round
area_round-of-d by no-a no-b no-c = rw (no-a, no-b, no-c)

pub area_round-by-d : (this other : AreaPlan)
    → this.setup.uses.a ≡ false → this.setup.uses.b ≡ false → this.setup.uses.c ≡ false
    → this.setup.uses ≡ other.setup.uses → this.setup.direction ≡ other.setup.direction
    → this.width ≡ other.width → this.height ≡ other.height
    → this.setup.modulos.d ≡ other.setup.modulos.d → this.pointers.d ≡ other.pointers.d
    → area_round this ≡ area_round other
area_round-by-d this other no-a no-b no-c uses way wide tall modulos at =
    area_round-of-d this no-a no-b no-c
    ∙ alike _ _ _ _ _ _ _ _ _ _ _ _ way (ap (λ (used : Uses). used.d) uses) wide modulos tall at
    ∙ sym (area_round-of-d other (sym (ap (λ (used : Uses). used.a) uses) ∙ no-a) (sym (ap (λ (used : Uses). used.b) uses) ∙ no-b)
    (sym (ap (λ (used : Uses). used.c) uses) ∙ no-c))
  where
    alike : (way way' : Direction) (used used' : Bool) (wide wide' modulo modulo' tall tall' : ℕ) (at at' : Pointer)
        → way ≡ way' → used ≡ used' → wide ≡ wide' → modulo ≡ modulo' → tall ≡ tall' → at ≡ at'
        → channel_round way used wide modulo tall at ≡ channel_round way' used' wide' modulo' tall' at'
    alike way way' used used' wide wide' modulo modulo' tall tall' at at' one two three four five six = rw (one, two, three, four, five, six)
