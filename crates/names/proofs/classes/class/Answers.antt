-- One test of the whole table, which antt computes: the numbers of its 256 entries are the rule's values in their order.
-- Two lemmas carry it to each entry.
use Rattle.std.proofs.Common.{sym, ◌∙◌, arith}
use Rattle.std.proofs.Math.ListN.{get_or-map}
use Rattle.std.proofs.lemmas.List.FromFn.{get_or-map-range_with_len}
use Rattle.names.specs.Classes.{class_of, code_of}
use Rattle.names.specs.declared.classes.TheConstants.{CLASSES}
use Rattle.names.specs.declared.classes.ByteClass.TheVariants.{Other}
use Rattle.names.proofs.classes.class.Goals as goal

pub returns : goal.returns
unfolding class_of
returns c =
    sym (get_or-map code_of CLASSES c.args.byte Other) ∙ get_or-map-range_with_len class_of 0 256 c.args.byte c.args.byte 0 (omega arith) (omega arith)
