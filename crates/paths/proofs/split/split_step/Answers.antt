use Rattle.paths.proofs.Cutting.{named_step}
use Rattle.paths.proofs.split.split_step.Goals as goal

pub returns-in-Some : goal.returns-in-Some
returns-in-Some c = named_step _ _ _ c.in-Some.ensures c.step_of_name.result c.step_of_name.ensures
