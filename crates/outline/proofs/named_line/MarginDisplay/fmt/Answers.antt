use Rattle.std.proofs.Common.{refl, arith}
use Rattle.std.proofs.lemmas.Grind.{put_two}
use Rattle.outline.proofs.Words.{eight_more, level_more, whole_margin}
use Rattle.outline.proofs.named_line.MarginDisplay.fmt.Goals as goal

pub loop-eight-preserved : goal.loop-eight-preserved
loop-eight-preserved g c = λ plain.
    let before = c.loop-eight.invariant plain in
    put_two _ _ _ _ _ _ _ before (c.in_ok-write_str.ensures.writes before.plain refl) (eight_more c.loop-eight._eight)

pub loop-level-preserved : goal.loop-level-preserved
loop-level-preserved g c = λ plain.
    let before = c.loop-level.invariant plain in
    put_two _ _ _ _ _ _ _ before (c.in_ok-write_str-2.ensures.writes before.plain refl) (level_more c.loop-level._level)

pub returns-clause-writes : goal.returns-clause-writes
returns-clause-writes g c = λ plain ok.
    let eights = c.loop-eight.invariant plain in
    put_two _ _ _ _ _ _ _ eights (c.loop-level.invariant eights.plain) (whole_margin c.loop-eight._eight c.loop-level._level c.args.self.now.0 (omega arith) (omega arith))
