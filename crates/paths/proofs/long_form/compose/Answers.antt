use Rattle.paths.proofs.Forming.{formed_more}
use Rattle.paths.proofs.long_form.compose.Goals as goal

pub loop-i-preserved : goal.loop-i-preserved
loop-i-preserved c = formed_more _ _ c.loop-i.invariant c.loop-i-test.true (rw c.in_ok-ok_or.ensures.ok_part at c.put_step.ensures)
