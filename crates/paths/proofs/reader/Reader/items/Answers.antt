use Rattle.std.proofs.Common.{length, sym, ap, ◌∙◌, arith}
use Rattle.std.proofs.lemmas.Bool.{eqb-true, eqb-false}
use Rattle.refusal.specs.declared.Ground.TheVariants.{NotPath}
use Rattle.refusal.specs.Refusals.{refusal}
use Rattle.grammar.proofs.Reading.{reads_stuck}
use Rattle.paths.proofs.Progress.{no_step, further, all_read, no_more, stuck_inside, refused_as}
use Rattle.paths.proofs.reader.Reader.items.Goals as goal

pub loop-separator-preserved : goal.loop-separator-preserved
loop-separator-preserved c = further c.loop-separator.invariant _ _ c.in-Some.ensures _ _ c.in-Ok.ensures _ (rw c.place-at.ensures at c.extend-sofar.ensures)

pub place-requires : goal.place-requires
place-requires c = stuck_inside _ _ (no_step c.loop-separator.invariant _ _ c.in-Some.ensures _ c.in-Err.ensures)

pub returns-in-Err : goal.returns-in-Err
returns-in-Err c = refused_as _ (c.at.ensures ∙ ap (refusal NotPath) c.place.ensures) (reads_stuck _ _ c.requires.0 _ c.requires.2 (no_step c.loop-separator.invariant _ _ c.in-Some.ensures _ c.in-Err.ensures))

pub returns-then-is_empty : goal.returns-then-is_empty
returns-then-is_empty c = all_read c.loop-separator.invariant c.requires.0 (eqb-true _ 0 (sym c.if-is_empty.ensures)) c.requires.1

pub returns : goal.returns
returns c =
    let some = eqb-false (length c.loop-separator.rest.now) 0 (sym c.if-is_empty.ensures) in
    refused_as _ (c.at-2.ensures ∙ ap (refusal NotPath) c.place-2.ensures) (reads_stuck _ _ c.requires.0 _ c.requires.2 (no_more c.loop-separator.invariant c.in_default.ensures (omega arith)))
