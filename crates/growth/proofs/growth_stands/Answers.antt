use Rattle.growth.proofs.Regrown.{well_grown}
use Rattle.growth.proofs.growth_stands.Goals as goal

pub returns : goal.returns
returns c = well_grown
