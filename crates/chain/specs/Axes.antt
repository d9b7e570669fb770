-- The code and the word of each axis, and the axis that a word names.
use Rattle.std.specs.Prelude.{ℕ, List, [], ◌∷◌, codes, Option}
use Rattle.std.specs.List.{find}
use Rattle.std.specs.Str.{bytes_eq}
use Rattle.chain.specs.declared.Axis.{Axis}
use Rattle.chain.specs.declared.Axis.TheVariants.{Child, Parent, Descendant, Ancestor, DescendantOrSelf, AncestorOrSelf, Following, Preceding, FollowingSibling, PrecedingSibling, Itself}

abbrev pub code_of : Axis → ℕ
code_of Child = 1
code_of Parent = 2
code_of Descendant = 3
code_of Ancestor = 4
code_of DescendantOrSelf = 5
code_of AncestorOrSelf = 6
code_of Following = 7
code_of Preceding = 8
code_of FollowingSibling = 9
code_of PrecedingSibling = 10
code_of Itself = 11

abbrev pub word_of : Axis → List ℕ
word_of Child = codes "child"
word_of Parent = codes "parent"
word_of Descendant = codes "descendant"
word_of Ancestor = codes "ancestor"
word_of DescendantOrSelf = codes "descendant-or-self"
word_of AncestorOrSelf = codes "ancestor-or-self"
word_of Following = codes "following"
word_of Preceding = codes "preceding"
word_of FollowingSibling = codes "following-sibling"
word_of PrecedingSibling = codes "preceding-sibling"
word_of Itself = codes "self"

-- in the order of their codes
abbrev pub axes : List Axis
axes = Child ∷ Parent ∷ Descendant ∷ Ancestor ∷ DescendantOrSelf ∷ AncestorOrSelf ∷ Following ∷ Preceding ∷ FollowingSibling ∷ PrecedingSibling ∷ Itself ∷ []

-- the first axis whose word this is
abbrev pub axis_of : List ℕ → Option Axis
axis_of w = find (λ a. bytes_eq (word_of a) w) axes
