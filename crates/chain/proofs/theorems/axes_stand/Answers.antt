use Rattle.chain.proofs.Words.{word_back, word_only}
use Rattle.chain.proofs.theorems.axes_stand.Goals as goal

pub returns : goal.returns
returns c = record { back = word_back; only = word_only }
