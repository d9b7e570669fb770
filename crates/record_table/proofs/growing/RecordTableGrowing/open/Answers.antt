use Rattle.std.proofs.Common.{Ok, sym, refl, ap, ◌∙◌}
use Rattle.refusal.specs.declared.Ground.TheVariants.{Ended, BadName}
use Rattle.document.specs.declared.Call.TheVariants.{Open}
use Rattle.document.proofs.Verdicts.{bad_name, good_name, by_end, by_name, by_level}
use Rattle.record_table.specs.Tables.{table_nodes, table_room}
use Rattle.record_table.proofs.Steps.{called_by, memory_by, refused_at, refused_by, unfit_at, opened}
use Rattle.record_table.proofs.growing.RecordTableGrowing.open.Goals as goal

pub returns-then-unfit-clause-called : goal.returns-then-unfit-clause-called
returns-then-unfit-clause-called c = unfit_at _ _ _ c.if-unfit.ensures c.at.ensures

pub returns-then-ended-clause-called : goal.returns-then-ended-clause-called
returns-then-ended-clause-called c =
    let t = c.args.self.now in
    refused_at t _ _ Ended (by_end (table_room t) (table_nodes t) (Open c.args.name) (sym c.if-unfit.ensures) (sym c.if-ended.ensures)) c.at-then-ended.ensures

pub returns-then-name-eq0-clause-called : goal.returns-then-name-eq0-clause-called
returns-then-name-eq0-clause-called c =
    let t = c.args.self.now in
    refused_at t _ _ BadName
    (by_name (table_room t) (table_nodes t) (Open c.args.name) (sym c.if-unfit.ensures) (sym c.if-ended.ensures) refl (bad_name c.args.name c.then-name-eq0.either))
    c.at-then-name-eq0.ensures

pub returns-in_err-level-clause-called : goal.returns-in_err-level-clause-called
returns-in_err-level-clause-called c =
    let t = c.args.self.now in
    let named = good_name c.args.name c.if-name-eq0.false c.if-name-gt-MAX_NAME.false in
    refused_by _ _ _ c.from_residual.ensures.1
    (by_level (table_room t) (table_nodes t) (Open c.args.name) (sym c.if-unfit.ensures) (sym c.if-ended.ensures) refl named refl _ (sym c.next_level.ensures ∙ c.in_err-level.was))

pub push-requires : goal.push-requires
push-requires c =
    let named = good_name c.args.name c.if-name-eq0.false c.if-name-gt-MAX_NAME.false in
    (opened _ _ _ c.args.self.now.sound c.args.name c.in_ok-level.level c.if-unfit.ensures c.if-ended.ensures named c.next_level.ensures c.in_ok-level.was).sound

pub returns : goal.returns
returns c =
    let named = good_name c.args.name c.if-name-eq0.false c.if-name-gt-MAX_NAME.false in
    let d = opened _ _ _ c.args.self.now.sound c.args.name c.in_ok-level.level c.if-unfit.ensures c.if-ended.ensures named c.next_level.ensures c.in_ok-level.was in
    let pushed = c.push.ensures in
    record {
      called = called_by d (ap Ok pushed.number) pushed.memory pushed.used;
      memory = memory_by d (ap Ok pushed.number) pushed.memory;
      lent = pushed.lent;
    }
