-- How the items of a path are judged one after the other: what a reader's functions are proved against. No promise to a caller speaks of it:
-- `Reads` says what it finds.
use Rattle.std.specs.Prelude.{ℕ, ◌+◌, cond, List, [], ◌∷◌, ◌++◌, length, Some, None, Ok, Err, Option, Result, nat_lt}
use Rattle.refusal.specs.declared.Ground.TheVariants.{UnknownAxis, LongName, UnknownName, TooManySteps}
use Rattle.refusal.specs.declared.Refusal.{Refusal}
use Rattle.refusal.specs.Refusals.{refusal}
use Rattle.chain.specs.declared.Axis.{Axis}
use Rattle.chain.specs.declared.Axis.TheVariants.{Child, Parent, Itself}
use Rattle.chain.specs.declared.Test.{Test}
use Rattle.chain.specs.declared.Test.TheVariants.{Name, AnyElement, AnyText, AnyNode}
use Rattle.chain.specs.declared.Step.{Step}
use Rattle.chain.specs.declared.chain.Chain.{Chain}
use Rattle.chain.specs.Axes.{axis_of}
use Rattle.chain.specs.Chains.{steps_of}
use Rattle.names.specs.Lists.{number_of}
use Rattle.grammar.specs.Grammar.{Tested, Named, Star, Texts, Nodes, Written, Dot, Dots, Plain, Along, Item}
use Rattle.grammar.specs.Texts.{item_text}
use Rattle.grammar.specs.Readings.{hidden, step_count, after_separator}

abbrev pub numbered : ℕ → Option ℕ → Result Test Refusal
numbered at (Some k) = Ok (Name k)
numbered at None = Err (refusal UnknownName at)

-- the test at a place
abbrev pub test_at : List (List ℕ) → ℕ → Tested → Result Test Refusal
test_at names at (Named n) = cond (nat_lt 32 (length n)) (Err (refusal LongName at)) (numbered at (number_of names n))
test_at names at Star = Ok AnyElement
test_at names at Texts = Ok AnyText
test_at names at Nodes = Ok AnyNode

abbrev pub step_by : Axis → Result Test Refusal → Result Step Refusal
step_by a (Ok t) = Ok (record { axis = a; test = t })
step_by a (Err r) = Err r

abbrev pub along_by : Option Axis → ℕ → Result Test Refusal → Result Step Refusal
along_by None at t = Err (refusal UnknownAxis at)
along_by (Some a) at t = step_by a t

-- the step at a place
abbrev pub step_at : List (List ℕ) → ℕ → Written → Result Step Refusal
step_at names at Dot = Ok (record { axis = Itself; test = AnyNode })
step_at names at Dots = Ok (record { axis = Parent; test = AnyNode })
step_at names at (Plain t) = step_by Child (test_at names at t)
step_at names at (Along w t) = along_by (axis_of w) at (test_at names (at + (length w + 2)) t)

abbrev pub pushed : List Step → Result Step Refusal → Result (List Step) Refusal
pushed ss (Ok s) = Ok (ss ++ s ∷ [])
pushed ss (Err r) = Err r

-- the steps with those of one item more, which begins at a place
abbrev pub extended : List (List ℕ) → List Step → ℕ → Item → Result (List Step) Refusal
extended names ss at i = cond (nat_lt 15 (length ss + step_count i)) (Err (refusal TooManySteps at)) (pushed (ss ++ hidden i.separator) (step_at names (after_separator at i) i.step))

abbrev pub go_on : List (List ℕ) → Result (List Step) Refusal → ℕ → Item → Result (List Step) Refusal
go_on names (Ok ss) at i = extended names ss at i
go_on names (Err r) at i = Err r

abbrev pub judged_by : List (List ℕ) → Result (List Step) Refusal → ℕ → List Item → Result (List Step) Refusal
judged_by names o at [] = o
judged_by names o at (i ∷ is) = judged_by names (go_on names o at i) (at + length (item_text i)) is

abbrev pub judged : List (List ℕ) → List Item → Result (List Step) Refusal
judged names is = judged_by names (Ok []) 0 is

-- an answer by the steps of its chain
abbrev pub chained : Result Chain Refusal → Result (List Step) Refusal
chained (Ok c) = Ok (steps_of c)
chained (Err r) = Err r
