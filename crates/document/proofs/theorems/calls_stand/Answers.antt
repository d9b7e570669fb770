use Rattle.std.proofs.Common.{refl}
use Rattle.document.specs.Calls.{refused}
use Rattle.document.proofs.Calls.{calls_next, runs_stable}
use Rattle.document.proofs.Effects.{calls_effect}
use Rattle.document.proofs.theorems.calls_stand.Goals as goal

pub returns : goal.returns
unfolding refused
returns c = record {
  next = calls_next;
  runs = runs_stable;
  effect = calls_effect;
  ordered = λ room ns c. refl;
  samples = record { leaves = refl; answers = refl };
}
