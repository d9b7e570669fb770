use Rattle.names.specs.Listed.{listed}
use Rattle.paths.proofs.Forming.{Formed}
use Rattle.paths.proofs.long_form.compose.Given as goal

abbrev pub invariant-loop-i : goal.invariant-loop-i
invariant-loop-i l = Formed (listed l.names) l.steps l.i l.form.items
