use Rattle.std.proofs.Common.{refl, arith}
use Rattle.document.specs.Calls.{blank}
use Rattle.record_table.proofs.table.RecordTable.new.Goals as goal

pub invariant_of-result : goal.invariant_of-result
invariant_of-result c = record { sound = record { fits = omega arith; grown = ∣ blank ∣₁; levels = λ n l. absurd (omega arith); inner_is = refl } }
