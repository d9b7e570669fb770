use Rattle.std.proofs.Common.{sym, arith}
use Rattle.document.proofs.Calls.{grown_well}
use Rattle.document.proofs.Questions.{none_open, some_open, open_asked}
use Rattle.document.proofs.generic.open_elements.Goals as goal

pub returns-in_default : goal.returns-in_default
returns-in_default g c = sym (none_open _ (grown_well _ (g.met.D.Readable.grown _)) _ c.innermost.ensures c.in_default.is)

pub unwrap-requires : goal.unwrap-requires
unwrap-requires g c = open_asked _ (grown_well _ (g.met.D.Readable.grown _)) _ c.innermost.ensures c.in-Some.innermost c.in-Some.is _ c.level.ensures

pub returns : goal.returns
returns g c =
    let found = some_open _ (grown_well _ (g.met.D.Readable.grown _)) _ c.innermost.ensures c.in-Some.innermost _ c.in-Some.is _ c.level.ensures c.unwrap.ensures in
    omega (arith, c.from.ensures)
