-- The ranges of what an area blit goes by, which every plan has.
use Rattle.refusal.specs.declared.types.AreaPlan.{AreaPlan}
use Rattle.refusal.specs.Inner.Ranges.{ChannelRange}

-- of each channel
pub record AreaRange (by : AreaPlan) : Type 0 where
  pub a : ChannelRange by.width by.height by.pointers.a
  pub b : ChannelRange by.width by.height by.pointers.b
  pub c : ChannelRange by.width by.height by.pointers.c
  pub d : ChannelRange by.width by.height by.pointers.d
