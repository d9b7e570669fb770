use Rattle.std.proofs.Common.{◌*◌, replicate}
use Rattle.std.specs.Fmt.{IsPlainFormatter, HasWritten}
use Rattle.outline.proofs.named_line.MarginDisplay.fmt.Given as goal

abbrev pub invariant-loop-eight : goal.invariant-loop-eight
invariant-loop-eight g l = IsPlainFormatter l.initial.f → HasWritten g.W.Write.write_str_gives l.initial.f (replicate (16 * l._eight) 32) l.f

abbrev pub invariant-loop-level : goal.invariant-loop-level
invariant-loop-level g l = IsPlainFormatter l.initial.f → HasWritten g.W.Write.write_str_gives l.initial.f (replicate (2 * l._level) 32) l.f
