-- The laws of axes and of chains.
use Rattle.std.specs.Prelude.{◌≡◌, ℕ, ◌≤◌, List, length, Some}
use Rattle.chain.specs.declared.Axis.{Axis}
use Rattle.chain.specs.declared.chain.Chain.{Chain}
use Rattle.chain.specs.Axes.{word_of, axis_of}
use Rattle.chain.specs.Chains.{steps_of}

abbrev pub WordsBack : Type 0
WordsBack = (a : Axis) → axis_of (word_of a) ≡ Some a

abbrev pub WordsOnly : Type 0
WordsOnly = (w : List ℕ) (a : Axis) → axis_of w ≡ Some a → w ≡ word_of a

abbrev pub ChainsSame : Type 0
ChainsSame = (a b : Chain) → steps_of a ≡ steps_of b → a ≡ b

abbrev pub FewSteps : Type 0
FewSteps = (c : Chain) → length (steps_of c) ≤ 15
