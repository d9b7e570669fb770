-- The steps of a chain, first to last.
use Rattle.std.specs.Prelude.{List, take}
use Rattle.chain.specs.declared.Step.{Step}
use Rattle.chain.specs.declared.chain.Chain.{Chain}

abbrev pub steps_of : Chain → List Step
steps_of c = take c.len c.steps
