use Rattle.names.specs.Lists.{lines}
use Rattle.names.proofs.Search.{Sofar}
use Rattle.names.proofs.lines.first_bad.Given as goal

abbrev pub invariant-loop-count : goal.invariant-loop-count
invariant-loop-count l =
    (goal.iterator-loop-count).can_next l.count-iterator
    × (goal.iterator-loop-count).is_finite l.count-iterator
    × Sofar l.text (lines l.count-iterator.iter.0.now) l.count-iterator.count l.at
