-- What the outline shows of a node, and as which text.
use Rattle.std.specs.Prelude.{ℕ, ◌*◌, cond, List, ◌++◌, replicate, codes, decimal, ◌==◌}
use Rattle.std.specs.Option.{unwrap_or}
use Rattle.document.specs.declared.Node.{Node}
use Rattle.document.specs.declared.Kind.{Kind}
use Rattle.document.specs.declared.Kind.TheVariants.{Element, Text}
use Rattle.document.specs.Document.{open_mark, kind_of, name_of, end_of, level_of}
use Rattle.names.specs.Lists.{name_of as listed_name}
use Rattle.outline.specs.declared.line.Line.{Line}

abbrev pub line_of : List Node → ℕ → Line
line_of ns n = record { node = n; level = level_of ns n; kind = kind_of ns n; name = name_of ns n; end = end_of ns n }

-- two blanks a level
abbrev pub margin : ℕ → List ℕ
margin level = replicate (2 * level) 32

-- an element has a name, a text has none
abbrev pub kind_words : Kind → List ℕ → List ℕ
kind_words Element name = codes "element " ++ name
kind_words Text name = codes "text"

abbrev pub shown_end : ℕ → List ℕ
shown_end end = cond (end == open_mark) (codes "open") (codes "end " ++ decimal end)

-- a line with these words for its kind
abbrev pub line_words : List ℕ → Line → List ℕ
line_words kind l = margin l.level ++ (decimal l.node ++ (codes " " ++ (kind ++ (codes " " ++ shown_end l.end))))

abbrev pub shown_kind : Kind → ℕ → List ℕ
shown_kind kind name = kind_words kind (decimal name)

abbrev pub shown_line : Line → List ℕ
shown_line l = line_words (shown_kind l.kind l.name) l

-- the name that the list has of this number, else the number
abbrev pub label : List (List ℕ) → ℕ → List ℕ
label names number = unwrap_or (listed_name names number) (decimal number)

abbrev pub shown_named_kind : List (List ℕ) → Kind → ℕ → List ℕ
shown_named_kind names kind number = kind_words kind (label names number)

abbrev pub shown_named_line : List (List ℕ) → Line → List ℕ
shown_named_line names l = line_words (shown_named_kind names l.kind l.name) l
