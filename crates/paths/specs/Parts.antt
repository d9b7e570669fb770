-- The parts of a path text as the grammar has them.
use Rattle.std.specs.Prelude.{Some, None, Option}
use Rattle.grammar.specs.Grammar as grammar
use Rattle.paths.specs.declared.parts.Separator.{Separator}
use Rattle.paths.specs.declared.parts.Separator.TheVariants.{Slash, Slashes}
use Rattle.paths.specs.declared.parts.Tested.{Tested}
use Rattle.paths.specs.declared.parts.Tested.TheVariants.{Named, Star, Texts, Nodes}
use Rattle.paths.specs.declared.parts.Written.{Written}
use Rattle.paths.specs.declared.parts.Written.TheVariants.{Dot, Dots, Plain, Along}

abbrev pub separator_of : Separator → grammar.Separator
separator_of Slash = grammar.Slash
separator_of Slashes = grammar.Slashes

abbrev pub test_of : Tested → grammar.Tested
test_of (Named n) = grammar.Named n.now
test_of Star = grammar.Star
test_of Texts = grammar.Texts
test_of Nodes = grammar.Nodes

abbrev pub step_of : Written → grammar.Written
step_of Dot = grammar.Dot
step_of Dots = grammar.Dots
step_of (Plain t) = grammar.Plain (test_of t)
step_of (Along a t) = grammar.Along a.now (test_of t)

abbrev pub item_of : Separator → Written → grammar.Item
item_of k w = record { separator = separator_of k; step = step_of w }

abbrev pub maybe_test : Option Tested → Option grammar.Tested
maybe_test None = None
maybe_test (Some t) = Some (test_of t)
