-- The texts of the parts of a path.
use Rattle.std.specs.Prelude.{ℕ, List, [], ◌∷◌, ◌++◌, codes}
use Rattle.grammar.specs.Grammar.{Separator, Slash, Slashes, Tested, Named, Star, Texts, Nodes, Written, Dot, Dots, Plain, Along, Item}

abbrev pub separator_text : Separator → List ℕ
separator_text Slash = codes "/"
separator_text Slashes = codes "//"

abbrev pub test_text : Tested → List ℕ
test_text (Named n) = n
test_text Star = codes "*"
test_text Texts = codes "text()"
test_text Nodes = codes "node()"

abbrev pub step_text : Written → List ℕ
step_text Dot = codes "."
step_text Dots = codes ".."
step_text (Plain t) = test_text t
step_text (Along a t) = a ++ (codes "::" ++ test_text t)

abbrev pub item_text : Item → List ℕ
item_text i = separator_text i.separator ++ step_text i.step

abbrev pub items_text : List Item → List ℕ
items_text [] = []
items_text (i ∷ is) = item_text i ++ items_text is
