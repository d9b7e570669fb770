use Rattle.std.proofs.Common.{◌≡◌}
use Rattle.std.specs.Slice.Iter.{chunks_rest, chunks_size}
use Rattle.feed.proofs.Progress.{SoFar}
use Rattle.feed.proofs.reading.feed.Given as goal

abbrev pub invariant-loop-index : goal.invariant-loop-index
invariant-loop-index g l =
    (chunks_size l.index-iterator.iter ≡ 4)
    × SoFar g.D.Readable.nodes g.D.Growing.room l.initial.document l.bytes l.index-iterator.count (chunks_rest l.index-iterator.iter) l.document
