use Rattle.std.proofs.Common.{◌∙◌, arith}
use Rattle.document.proofs.Calls.{grown_well}
use Rattle.feed.proofs.Progress.{finishes, goes_on, stops}
use Rattle.feed.proofs.reading.feed.Goals as goal

pub loop-index-preserved : goal.loop-index-preserved
loop-index-preserved g c =
    let was = c.loop-index.invariant in
    let step = c.in-Some.ensures.steps in (
      step.0.0 ∙ was.0,
      goes_on was.1 step.1 c.in-Some.record.now _ step.0.1.0 c.feed_record.ensures (λ i. (c.type_inv.bytes i).fits) _ c.in_default.is _ step.2,
    )

pub returns-in-Err : goal.returns-in-Err
returns-in-Err g c =
    let was = c.loop-index.invariant in
    let step = c.in-Some.ensures.steps in
    stops was.1 step.1 c.in-Some.record.now _ step.0.1.0 c.feed_record.ensures (grown_well _ (g.met.D.Readable.grown _)) (omega (arith, step.0.1.1, was.0)) step.0.1.2 _ c.in-Err.is _ (omega arith)

pub returns : goal.returns
returns g c = finishes (grown_well _ (g.met.D.Readable.grown _)) c.loop-index.invariant.1 c.in-None.ensures.steps.0.1.0 _ (omega arith)
