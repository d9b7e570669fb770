use Rattle.std.proofs.Common.{arith}
use Rattle.record_table.proofs.Steps.{well, size}
use Rattle.record_table.proofs.table.RecordTable.push.Goals as goal

pub overflow_add-self : goal.overflow_add-self
overflow_add-self c = omega (arith, (well _ _ _ c.requires).bounded, size _ _ _ c.requires)
