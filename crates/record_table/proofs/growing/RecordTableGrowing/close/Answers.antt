use Rattle.std.proofs.Common.{◌+◌, ◌-◌, refl, arith}
use Rattle.refusal.specs.declared.Ground.TheVariants.{OtherName}
use Rattle.record_table.proofs.Steps.{called_by, memory_by, refused_at, needs_element, open_at, within, level_counts, other_named, shut}
use Rattle.record_table.proofs.growing.RecordTableGrowing.close.Goals as goal

pub returns-in_err-innermost-clause-called : goal.returns-in_err-innermost-clause-called
returns-in_err-innermost-clause-called c = needs_element _ _ _ c.from_residual.ensures.1 refl c.inner_element.ensures c.in_err-innermost.was

pub bounds-self-innermost : goal.bounds-self-innermost
bounds-self-innermost c =
    let s = c.args.self.now.sound in
    within _ _ _ s _ (open_at _ _ _ s _ c.inner_element.ensures c.in_ok-innermost.was)

pub returns-then-record-name-clause-called : goal.returns-then-record-name-clause-called
returns-then-record-name-clause-called c =
    let t = c.args.self.now in
    refused_at t _ _ OtherName (other_named _ _ _ t.sound _ c.inner_element.ensures c.in_ok-innermost.was c.args.name c.if-record-name.true) c.at.ensures

pub overflow_sub-end : goal.overflow_sub-end
overflow_sub-end c =
    let s = c.args.self.now.sound in
    omega (arith, level_counts _ _ _ s _ (open_at _ _ _ s _ c.inner_element.ensures c.in_ok-innermost.was), c.from.ensures)

pub bounds-self-innermost-2 : goal.bounds-self-innermost-2
bounds-self-innermost-2 c =
    let s = c.args.self.now.sound in
    within _ _ _ s _ (open_at _ _ _ s _ c.inner_element.ensures c.in_ok-innermost.was)

pub invariant_of-self : goal.invariant_of-self
invariant_of-self c = record {
  sound =
      (shut _ _ _ c.args.self.now.sound _ c.inner_element.ensures c.in_ok-innermost.was c.args.name _ c.if-record-name.false (omega (arith, c.from.ensures))).sound;
}

pub returns : goal.returns
returns c =
    let d = shut _ _ _ c.args.self.now.sound _ c.inner_element.ensures c.in_ok-innermost.was c.args.name (c.args.self.now.used - (c.from.result + 1)) c.if-record-name.false
    (omega (arith, c.from.ensures)) in
    record { called = called_by d refl refl refl; memory = memory_by d refl refl; lent = refl }
