use Rattle.word.proofs.Base.{rules}
use Rattle.drawing.proofs.DrawLaws.{line_blit-turn, line_blit-done, one_dot-room}
use Rattle.drawing.proofs.draw.all_dots.Goals as goal

pub loop-done-preserved : goal.loop-done-preserved
loop-done-preserved c = (search line_blit-turn, search one_dot-room, search rules)

pub returns : goal.returns
returns c = search line_blit-done
