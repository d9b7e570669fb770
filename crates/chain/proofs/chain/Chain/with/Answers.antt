use Rattle.std.proofs.Common.{◌∙◌}
use Rattle.std.proofs.lemmas.List.{length-set}
use Rattle.chain.proofs.Steps.{rest_more}
use Rattle.chain.proofs.chain.Chain.with.Goals as goal

pub invariant_of-result-clause-whole : goal.invariant_of-result-clause-whole
invariant_of-result-clause-whole c = length-set _ _ _ ∙ c.args.self.whole

pub invariant_of-result-clause-rest : goal.invariant_of-result-clause-rest
invariant_of-result-clause-rest c = rest_more c.args.self c.args.step
