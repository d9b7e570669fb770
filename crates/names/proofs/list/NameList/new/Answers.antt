use Rattle.std.proofs.Common.{sym, refl}
use Rattle.names.proofs.Laws.{proper_of, text_of, bad_of}
use Rattle.names.proofs.list.NameList.new.Goals as goal

pub returns-in-None : goal.returns-in-None
returns-in-None c =
    let text = c.args.bytes.now in
    let good = sym c.in-None.ensures in
    record { good = good; lines_are = refl; proper = proper_of text good; text_is = text_of text good }

pub returns-in-Some : goal.returns-in-Some
returns-in-Some c =
    let found = sym c.in-Some.ensures in
    record { place = c.in-Some.place; found = found; says = c.at.ensures; line = bad_of c.args.bytes.now c.in-Some.place found }
