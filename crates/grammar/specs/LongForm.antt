-- The long form of a chain: each step as /axis::test, and no steps as '/'.
use Rattle.std.specs.Prelude.{◌≡◌, ℕ, ◌+◌, Bool, true, false, cond, List, [], ◌∷◌, ◌++◌, length, take, drop, Some, None, Ok, Err, codes, Option, Result, nat_lt}
use Rattle.refusal.specs.declared.Ground.TheVariants.{TooSmall, UnknownName, BadLine}
use Rattle.refusal.specs.declared.Refusal.{Refusal}
use Rattle.refusal.specs.Refusals.{refusal}
use Rattle.chain.specs.declared.Test.{Test}
use Rattle.chain.specs.declared.Test.TheVariants.{Name, AnyElement, AnyText, AnyNode}
use Rattle.chain.specs.declared.Step.{Step}
use Rattle.chain.specs.declared.chain.Chain.{Chain}
use Rattle.chain.specs.Axes.{word_of}
use Rattle.chain.specs.Chains.{steps_of}
use Rattle.names.specs.Lists.{lines, first_bad, name_of, Proper}
use Rattle.grammar.specs.Readings.{Reads, ReadAs}

abbrev pub or_nothing : Option (List ℕ) → List ℕ
or_nothing None = []
or_nothing (Some n) = n

abbrev pub long_test : List (List ℕ) → Test → List ℕ
long_test names (Name k) = or_nothing (name_of names k)
long_test names AnyElement = codes "*"
long_test names AnyText = codes "text()"
long_test names AnyNode = codes "node()"

abbrev pub long_step : List (List ℕ) → Step → List ℕ
long_step names s = codes "/" ++ (word_of s.axis ++ (codes "::" ++ long_test names s.test))

abbrev pub long_steps : List (List ℕ) → List Step → List ℕ
long_steps names [] = []
long_steps names (s ∷ ss) = long_step names s ++ long_steps names ss

abbrev pub long_form : List (List ℕ) → List Step → List ℕ
long_form names [] = codes "/"
long_form names (s ∷ ss) = long_steps names (s ∷ ss)

-- the first step whose name number is not in the list, counted from k
abbrev pub is_none : Option (List ℕ) → Bool
is_none None = true
is_none (Some n) = false

abbrev pub unlisted : List (List ℕ) → Test → Bool
unlisted names (Name k) = is_none (name_of names k)
unlisted names AnyElement = false
unlisted names AnyText = false
unlisted names AnyNode = false

abbrev pub unlisted_from : List (List ℕ) → ℕ → List Step → Option ℕ
unlisted_from names k [] = None
unlisted_from names k (s ∷ ss) = cond (unlisted names s.test) (Some k) (unlisted_from names (k + 1) ss)

abbrev pub first_unlisted : List (List ℕ) → List Step → Option ℕ
first_unlisted names ss = unlisted_from names 0 ss

-- what writing the long form answers where there are so many bytes: its length, or the first step without a name, or that the bytes are too few
abbrev pub written_by : Option ℕ → ℕ → ℕ → Result ℕ Refusal
written_by (Some k) n room = Err (refusal UnknownName k)
written_by None n room = cond (nat_lt room n) (Err (refusal TooSmall 0)) (Ok n)

abbrev pub written : List (List ℕ) → List Step → ℕ → Result ℕ Refusal
written names ss room = written_by (first_unlisted names ss) (length (long_form names ss)) room

-- and the bytes afterwards: the long form and then what was there, or all that was there
abbrev pub over_by : Result ℕ Refusal → List ℕ → List ℕ → List ℕ
over_by (Ok n) form out = form ++ drop n out
over_by (Err r) form out = out

abbrev pub over : List (List ℕ) → List Step → List ℕ → List ℕ
over names ss out = over_by (written names ss (length out)) (long_form names ss) out

-- what is written, if something is, reads as the chain
abbrev pub Back : List (List ℕ) → Chain → List ℕ → Result ℕ Refusal → Type 0
Back names c out (Ok n) = Reads names (take n out) (Ok c)
Back names c out (Err r) = Unit {0}

-- A chain is written into bytes that held `was` and then hold `out`.
pub record Writes (names : List (List ℕ)) (c : Chain) (was : List ℕ) (r : Result ℕ Refusal) (out : List ℕ) : Type 0 where
  pub answer : r ≡ written names (steps_of c) (length was)
  pub memory : out ≡ over names (steps_of c) was
  pub back : Back names c out r

-- The same by the text of a name list: a bad line of it comes first.
abbrev pub WritesUnless : Option ℕ → List (List ℕ) → Chain → List ℕ → Result ℕ Refusal → List ℕ → Type 0
WritesUnless (Some p) names c was r out = (r ≡ Err (refusal BadLine p)) × (out ≡ was)
WritesUnless None names c was r out = Writes names c was r out

abbrev pub WritesListed : List ℕ → Chain → List ℕ → Result ℕ Refusal → List ℕ → Type 0
WritesListed list c was r out = WritesUnless (first_bad list) (lines list) c was r out

-- A text is read, and its chain is written into bytes.
abbrev pub RewritesBy : List (List ℕ) → Result Chain Refusal → List ℕ → Result ℕ Refusal → List ℕ → Type 0
RewritesBy names (Ok c) was r out = Writes names c was r out
RewritesBy names (Err e) was r out = (r ≡ Err e) × (out ≡ was)

pub record Rewrites (names : List (List ℕ)) (text was : List ℕ) (r : Result ℕ Refusal) (out : List ℕ) : Type 0 where
  pub read : Result Chain Refusal
  pub reads : ReadAs names text read
  pub writes : RewritesBy names read was r out

-- A chain written out reads back as itself.
abbrev pub ReadsBack : Type 0
ReadsBack = (names : List (List ℕ)) → Proper names → (c : Chain) → first_unlisted names (steps_of c) ≡ None → Reads names (long_form names (steps_of c)) (Ok c)
