use Rattle.std.proofs.Common.{inl, arith}
use Rattle.names.proofs.Laws.{listed_proper}
use Rattle.names.proofs.list.NameList.len.Goals as goal

pub count-requires-clause-fits : goal.count-requires-clause-fits
count-requires-clause-fits c = inl (omega (arith, (listed_proper c.args.self.now).few))
