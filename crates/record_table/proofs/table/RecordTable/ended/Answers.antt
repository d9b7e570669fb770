use Rattle.std.proofs.Common.{sym, ◌∙◌}
use Rattle.record_table.proofs.Steps.{ended_none, ended_some}
use Rattle.record_table.proofs.table.RecordTable.ended.Goals as goal

pub returns-then-is_none : goal.returns-then-is_none
returns-then-is_none c = ended_none _ _ _ c.args.self.now.sound c.if-is_none.ensures

pub returns-else-is_none : goal.returns-else-is_none
returns-else-is_none c = c.if-is_none.false ∙ sym (ended_some _ _ _ c.args.self.now.sound c.if-is_none.ensures)
