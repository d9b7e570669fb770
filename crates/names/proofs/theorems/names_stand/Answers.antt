use Rattle.names.proofs.Laws.{lists_exact}
use Rattle.names.proofs.Numbers.{numbers_are}
use Rattle.names.proofs.theorems.names_stand.Goals as goal

pub returns : goal.returns
returns c = record { exact = lists_exact; numbers = numbers_are }
