use Rattle.std.proofs.Common.{length}
use Rattle.names.specs.Listed.{listed}
use Rattle.paths.proofs.Progress.{Sofar}
use Rattle.paths.proofs.reader.Reader.items.Given as goal

abbrev pub invariant-loop-separator : goal.invariant-loop-separator
invariant-loop-separator l = Sofar (listed l.self.names.now) l.self.text.now l.rest l.sofar

abbrev pub decreases-loop-separator : goal.decreases-loop-separator
decreases-loop-separator l = length l.rest
