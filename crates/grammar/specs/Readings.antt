-- What a path text is read as: the chain that its items mean, or why it is refused and where.
use Rattle.std.specs.Prelude.{◌≡◌, ℕ, ◌+◌, ◌<◌, ◌≤◌, ◌⊎◌, List, [], ◌∷◌, ◌++◌, length, Some, None, Ok, Err, Option, Result}
use Rattle.refusal.specs.declared.Ground.TheVariants.{LongText, NotPath, UnknownAxis, LongName, UnknownName, TooManySteps, BadLine}
use Rattle.refusal.specs.declared.Refusal.{Refusal}
use Rattle.refusal.specs.Refusals.{refusal, number_of as ground_number}
use Rattle.chain.specs.declared.Axis.{Axis}
use Rattle.chain.specs.declared.Axis.TheVariants.{Child, Parent, DescendantOrSelf, Itself}
use Rattle.chain.specs.declared.Test.{Test}
use Rattle.chain.specs.declared.Test.TheVariants.{Name, AnyElement, AnyText, AnyNode}
use Rattle.chain.specs.declared.Step.{Step}
use Rattle.chain.specs.declared.chain.Chain.{Chain}
use Rattle.chain.specs.Axes.{axis_of}
use Rattle.chain.specs.Chains.{steps_of}
use Rattle.names.specs.Lists.{lines, first_bad, number_of}
use Rattle.grammar.specs.Grammar.{Separator, Slash, Slashes, Tested, Named, Star, Texts, Nodes, Written, Dot, Dots, Plain, Along, Item, IsPath, IsNotPath}
use Rattle.grammar.specs.Texts.{separator_text, item_text}

-- What an item means by a list of names. '//' hides a step before the written one, and without an axis word the axis is child.
pub data MeansTest (names : List (List ℕ)) : Tested → Test → Type 0 where
  means_name : {n : List ℕ} {k : ℕ} → number_of names n ≡ Some k → MeansTest names (Named n) (Name k)
  means_star : MeansTest names Star AnyElement
  means_text : MeansTest names Texts AnyText
  means_node : MeansTest names Nodes AnyNode

pub data MeansStep (names : List (List ℕ)) : Written → Step → Type 0 where
  means_dot : MeansStep names Dot (record { axis = Itself; test = AnyNode })
  means_dots : MeansStep names Dots (record { axis = Parent; test = AnyNode })
  means_plain : {t : Tested} {u : Test} → MeansTest names t u → MeansStep names (Plain t) (record { axis = Child; test = u })
  means_along : {w : List ℕ} {t : Tested} {a : Axis} {u : Test} → axis_of w ≡ Some a → MeansTest names t u → MeansStep names (Along w t) (record { axis = a; test = u })

abbrev pub hidden : Separator → List Step
hidden Slash = []
hidden Slashes = record { axis = DescendantOrSelf; test = AnyNode } ∷ []

pub data Means (names : List (List ℕ)) : List Item → List Step → Type 0 where
  means_none : Means names [] []
  means_item : {i : Item} {is : List Item} {s : Step} {ss : List Step} → MeansStep names i.step s → Means names is ss → Means names (i ∷ is) (hidden i.separator ++ s ∷ ss)

-- What is wrong with an item that begins at a place, where so many steps stand before it.
abbrev pub step_count : Item → ℕ
step_count i = length (hidden i.separator) + 1

abbrev pub after_separator : ℕ → Item → ℕ
after_separator at i = at + length (separator_text i.separator)

-- n is the name of the step's test, which stands so many bytes after the step's first
pub data TestsName : Written → List ℕ → ℕ → Type 0 where
  tests_plain : {n : List ℕ} → TestsName (Plain (Named n)) n 0
  tests_along : {w n : List ℕ} → TestsName (Along w (Named n)) n (length w + 2)

pub data ItemFault (names : List (List ℕ)) (count at : ℕ) (i : Item) : Refusal → Type 0 where
  unknown_axis : {w : List ℕ} {t : Tested} → i.step ≡ Along w t → axis_of w ≡ None → ItemFault names count at i (refusal UnknownAxis (after_separator at i))
  long_name : {n : List ℕ} {d : ℕ} → TestsName i.step n d → 32 < length n → ItemFault names count at i (refusal LongName (after_separator at i + d))
  unknown_name : {n : List ℕ} {d : ℕ} → TestsName i.step n d → number_of names n ≡ None → ItemFault names count at i (refusal UnknownName (after_separator at i + d))
  too_many : 15 < count + step_count i → ItemFault names count at i (refusal TooManySteps at)

-- What is wrong with items, the first of which begins at a place, where so many steps stand before them.
pub data Fault (names : List (List ℕ)) : ℕ → ℕ → List Item → Refusal → Type 0 where
  here : {count at : ℕ} {i : Item} {is : List Item} {r : Refusal} → ItemFault names count at i r → Fault names count at (i ∷ is) r
  there : {count at : ℕ} {i : Item} {is : List Item} {r : Refusal} → Fault names (count + step_count i) (at + length (item_text i)) is r → Fault names count at (i ∷ is) r

-- a stands before b, or at the same place with no larger number
abbrev pub NoLater : Refusal → Refusal → Type 0
NoLater a b = (a.place < b.place) ⊎ ((a.place ≡ b.place) × (ground_number a.ground ≤ ground_number b.ground))

-- r is the fault of the items that is answered: the one at the smallest place, and there the one with the smallest number.
pub record FirstFault (names : List (List ℕ)) (is : List Item) (r : Refusal) : Type 0 where
  pub is_fault : Fault names 0 0 is r
  pub first : (q : Refusal) → Fault names 0 0 is q → NoLater r q

-- What reading a text answers.
pub data Reads (names : List (List ℕ)) (text : List ℕ) : Result Chain Refusal → Type 0 where
  too_long : 1024 < length text → Reads names text (Err (refusal LongText 1024))
  no_path : {k : ℕ} → length text ≤ 1024 → IsNotPath text k → Reads names text (Err (refusal NotPath k))
  faulty : {is : List Item} {r : Refusal} → length text ≤ 1024 → IsPath text is → FirstFault names is r → Reads names text (Err r)
  accepted : {is : List Item} {c : Chain} → length text ≤ 1024 → IsPath text is → ((q : Refusal) → Fault names 0 0 is q → ⊥) → Means names is (steps_of c) → Reads names text (Ok c)

-- That is the answer, and there is no other.
pub record ReadAs (names : List (List ℕ)) (text : List ℕ) (r : Result Chain Refusal) : Type 0 where
  pub reads : Reads names text r
  pub only : (q : Result Chain Refusal) → Reads names text q → q ≡ r

-- The same by the text of a name list: a bad line of it comes first.
abbrev pub ReadsUnless : Option ℕ → List (List ℕ) → List ℕ → Result Chain Refusal → Type 0
ReadsUnless (Some p) names text r = r ≡ Err (refusal BadLine p)
ReadsUnless None names text r = ReadAs names text r

abbrev pub ReadsListed : List ℕ → List ℕ → Result Chain Refusal → Type 0
ReadsListed list text r = ReadsUnless (first_bad list) (lines list) text r

-- A text is read in one way.
abbrev pub ReadsOnce : Type 0
ReadsOnce = (names : List (List ℕ)) (text : List ℕ) (r q : Result Chain Refusal) → Reads names text r → Reads names text q → r ≡ q
