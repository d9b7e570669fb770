-- Every well formed document is one that calls leave; that those are well formed is a law of the documents.
use Rattle.std.specs.Prelude.{List}
use Rattle.document.specs.declared.Node.{Node}
use Rattle.document.specs.Calls.{Grown}
use Rattle.document.specs.Laws.{WellFormed}

abbrev pub WellGrown : Type 0
WellGrown = (ns : List Node) → WellFormed ns → Grown ns
