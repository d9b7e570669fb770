use Rattle.pointer.proofs.Caret.{caret_below, lines_fit}
use Rattle.pointer.proofs.caret_stands.Goals as goal

pub returns : goal.returns
returns c = record { below = caret_below; fit = lines_fit }
