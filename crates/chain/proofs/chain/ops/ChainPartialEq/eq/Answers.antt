use Rattle.std.proofs.Common.{◌≡◌, Decides, subst₂}
use Rattle.chain.proofs.Equality.{steps_decides}
use Rattle.chain.proofs.chain.ops.ChainPartialEq.eq.Goals as goal

pub returns-clause-decides : goal.returns-clause-decides
returns-clause-decides c = subst₂ (λ xs ys. Decides c.eq.result (xs ≡ ys)) c.steps.ensures c.steps-2.ensures (steps_decides _ _ _ c.eq.ensures)
