use Rattle.std.proofs.Common.{refl}
use Rattle.chain.proofs.Equality.{steps_decides}
use Rattle.chain.proofs.Steps.{chains_same, few_steps}
use Rattle.chain.proofs.theorems.chains_stand.Goals as goal

pub returns : goal.returns
returns c = record { same = chains_same; equal = λ a b. steps_decides _ _ _ refl; computed = λ a b. refl; few = few_steps }
