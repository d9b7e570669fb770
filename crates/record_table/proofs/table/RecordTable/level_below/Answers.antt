use Rattle.std.proofs.Common.{arith}
use Rattle.record_table.proofs.Steps.{within, level_low, level_some}
use Rattle.record_table.proofs.table.RecordTable.level_below.Goals as goal

pub bounds-self-parent : goal.bounds-self-parent
bounds-self-parent c = within _ _ _ c.args.self.now.sound c.in-Some.parent c.in-Some.is

pub overflow_add-result : goal.overflow_add-result
overflow_add-result c = omega (arith, level_low _ _ _ c.args.self.now.sound c.in-Some.parent c.in-Some.is)

pub returns-in-Some : goal.returns-in-Some
returns-in-Some c = level_some _ _ _ c.args.self.now.sound c.in-Some.parent c.in-Some.is
