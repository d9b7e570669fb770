use Rattle.paths.proofs.Cutting.{named_test}
use Rattle.paths.proofs.split.split_test.Goals as goal

pub returns-in-Some : goal.returns-in-Some
returns-in-Some c = named_test _ _ _ c.in-Some.ensures c.test_of_name.result c.test_of_name.ensures
