use Rattle.std.proofs.Common.{◌-◌, Ok, refl, ap, arith}
use Rattle.record_table.proofs.Steps.{called_by, memory_by, refused_by, needs_element, text_refused, text_end, texted}
use Rattle.record_table.proofs.growing.RecordTableGrowing.text.Goals as goal

pub returns-in_err-parent-clause-called : goal.returns-in_err-parent-clause-called
returns-in_err-parent-clause-called c = needs_element _ _ _ c.from_residual.ensures.1 refl c.inner_element.ensures c.in_err-parent.was

pub returns-in_err-level-clause-called : goal.returns-in_err-level-clause-called
returns-in_err-level-clause-called c =
    refused_by _ _ _ c.from_residual-in_err-level.ensures.1
    (text_refused _ _ _ c.args.self.now.sound _ c.inner_element.ensures c.in_ok-parent.was _ c.next_level.ensures c.in_err-level.was)

pub overflow_sub-node : goal.overflow_sub-node
overflow_sub-node c =
    omega (arith, text_end _ _ _ c.args.self.now.sound _ c.inner_element.ensures c.in_ok-parent.was _ c.next_level.ensures c.in_ok-level.was, c.from.ensures)

pub push-requires : goal.push-requires
push-requires c =
    (texted _ _ _ c.args.self.now.sound _ c.inner_element.ensures c.in_ok-parent.was _ _ c.next_level.ensures c.in_ok-level.was (omega (arith, c.from.ensures))).sound

pub returns : goal.returns
returns c =
    let d = texted _ _ _ c.args.self.now.sound _ c.inner_element.ensures c.in_ok-parent.was _ (c.args.self.now.used - c.from.result)
    c.next_level.ensures c.in_ok-level.was (omega (arith, c.from.ensures)) in
    let pushed = c.push.ensures in
    record {
      called = called_by d (ap Ok pushed.number) pushed.memory pushed.used;
      memory = memory_by d (ap Ok pushed.number) pushed.memory;
      lent = pushed.lent;
    }
