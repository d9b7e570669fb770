use Rattle.grammar.proofs.Reports.{paths_once}
use Rattle.grammar.proofs.Reading.{reads_once}
use Rattle.grammar.proofs.Writing.{reads_back}
use Rattle.grammar.proofs.paths_stand.Goals as goal

pub returns : goal.returns
returns c = record { grammar = paths_once; answer = reads_once; back = reads_back }
