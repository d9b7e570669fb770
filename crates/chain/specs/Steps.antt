-- The step that stands in the places past a chain's last one.
use Rattle.chain.specs.declared.Axis.TheVariants.{Child}
use Rattle.chain.specs.declared.Step.{Step}
use Rattle.chain.specs.declared.Test.TheVariants.{AnyNode}

abbrev pub blank : Step
blank = record { axis = Child; test = AnyNode }
