use Rattle.std.proofs.Common.{◌*◌}
use Rattle.std.specs.Fmt.{IsPlainFormatter, HasWritten}
use Rattle.pointer.specs.Pointed.{blanks}
use Rattle.pointer.proofs.BlanksDisplay.fmt.Given as goal

abbrev pub invariant-loop-eight : goal.invariant-loop-eight
invariant-loop-eight g l = IsPlainFormatter l.initial.f → HasWritten g.W.Write.write_str_gives l.initial.f (blanks (8 * l._eight)) l.f

abbrev pub invariant-loop-blank : goal.invariant-loop-blank
invariant-loop-blank g l = IsPlainFormatter l.initial.f → HasWritten g.W.Write.write_str_gives l.initial.f (blanks l._blank) l.f
