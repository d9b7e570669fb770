use Rattle.std.proofs.Common.{refl, arith}
use Rattle.std.proofs.lemmas.Grind.{put_two}
use Rattle.pointer.proofs.Pieces.{eight_more, blank_more, all_blanks}
use Rattle.pointer.proofs.BlanksDisplay.fmt.Goals as goal

pub loop-eight-preserved : goal.loop-eight-preserved
loop-eight-preserved g c = λ plain.
    let before = c.loop-eight.invariant plain in
    put_two _ _ _ _ _ _ _ before (c.in_ok-write_str.ensures.writes before.plain refl) (eight_more c.loop-eight._eight)

pub loop-blank-preserved : goal.loop-blank-preserved
loop-blank-preserved g c = λ plain.
    let before = c.loop-blank.invariant plain in
    put_two _ _ _ _ _ _ _ before (c.in_ok-write_str-2.ensures.writes before.plain refl) (blank_more c.loop-blank._blank)

pub returns-clause-writes : goal.returns-clause-writes
returns-clause-writes g c = λ plain ok.
    let eights = c.loop-eight.invariant plain in
    put_two _ _ _ _ _ _ _ eights (c.loop-blank.invariant eights.plain) (all_blanks c.loop-eight._eight c.loop-blank._blank c.args.self.now.0 (omega arith) (omega arith))
