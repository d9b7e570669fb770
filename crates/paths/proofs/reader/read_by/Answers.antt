use Rattle.std.proofs.Common.{arith}
use Rattle.std.proofs.lemmas.Bool.Decides.{nat_tests}
use Rattle.grammar.specs.Readings.{too_long}
use Rattle.grammar.proofs.Reading.{reads_root, read_as}
use Rattle.paths.proofs.Cutting.{one_byte}
use Rattle.paths.proofs.Progress.{refused_as, reads_nothing}
use Rattle.paths.proofs.reader.read_by.Goals as goal

pub returns-then-text-gt-MAX_TEXT : goal.returns-then-text-gt-MAX_TEXT
returns-then-text-gt-MAX_TEXT c = read_as (refused_as _ c.at.ensures (too_long c.if-text-gt-MAX_TEXT.true))

pub returns-in-empty : goal.returns-in-empty
returns-in-empty c = read_as (refused_as _ c.at-in-empty.ensures (reads_nothing _ c.args.text.now (omega (arith, c.in-empty.len_below))))

pub returns-in-47 : goal.returns-in-47
returns-in-47 c = read_as (reads_root _ c.args.text.now c.if-text-gt-MAX_TEXT.false c.new.result (one_byte c.args.text.now 47 (grind (arith, nat_tests)) (grind (arith, nat_tests))) c.new.ensures)

pub returns-in_default : goal.returns-in_default
returns-in_default c = read_as c.items.ensures
