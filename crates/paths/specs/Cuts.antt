-- What the reader's functions cut off the front of a text, by the grammar's scanner.
use Rattle.std.specs.Prelude.{◌≡◌, ℕ, true, false, List, ◌++◌, None, Ok, Err, Option, Result, nat_eq}
use Rattle.names.specs.Classes.{goes}
use Rattle.names.specs.Names.{is_name}
use Rattle.grammar.specs.Grammar.{Separator, Tested, Written, Along, Item}
use Rattle.grammar.specs.Texts.{separator_text, test_text, step_text}
use Rattle.paths.specs.declared.parts.Tested as test
use Rattle.paths.specs.declared.parts.Written as step
use Rattle.paths.specs.Parts.{test_of, step_of}
use Rattle.std.specs.Borrow.{Bor}
use Rattle.grammar.specs.Scanner.{Whole, Want, InName, AxisWord, with, tested, scan, heads}

-- A part that was cut off and the rest of the text, or the rest where no path goes on.
abbrev pub Cut : Type 0 → Type 0
Cut T = Result (T × Bor (List ℕ)) (Bor (List ℕ))

-- A name that the text begins with, as long as it goes.
pub record NameCut (text name rest : List ℕ) : Type 0 where
  pub split : text ≡ name ++ rest
  pub named : is_name name ≡ true
  pub stops : heads goes rest ≡ false

-- A name, and the text behind it, as a test.
pub record NameTests (name text : List ℕ) (t : Tested) (rest : List ℕ) : Type 0 where
  pub split : name ++ text ≡ test_text t ++ rest
  pub on : (is : List Item) (k : Separator) (a : Option (List ℕ)) → heads goes text ≡ false → (a ≡ None → heads (λ b. nat_eq b 58) text ≡ false)
      → scan (InName is k a name) text ≡ scan (Whole (with is k (tested a t))) rest

abbrev pub NameStuck : List ℕ → List ℕ → List ℕ → Type 0
NameStuck name text rest = (is : List Item) (k : Separator) (a : Option (List ℕ)) → scan (InName is k a name) text ≡ Err rest

abbrev pub NameTested : List ℕ → List ℕ → Cut test.Tested → Type 0
NameTested name text (Ok p) = NameTests name text (test_of p.0) p.1.now
NameTested name text (Err s) = NameStuck name text s.now

-- A test behind an axis word.
pub record TestCut (text : List ℕ) (t : Tested) (rest : List ℕ) : Type 0 where
  pub split : text ≡ test_text t ++ rest
  pub on : (is : List Item) (k : Separator) (a : List ℕ) → scan (AxisWord is k a) text ≡ scan (Whole (with is k (Along a t))) rest

abbrev pub TestStuck : List ℕ → List ℕ → Type 0
TestStuck text rest = (is : List Item) (k : Separator) (a : List ℕ) → scan (AxisWord is k a) text ≡ Err rest

abbrev pub TestSplit : List ℕ → Cut test.Tested → Type 0
TestSplit text (Ok p) = TestCut text (test_of p.0) p.1.now
TestSplit text (Err s) = TestStuck text s.now

-- A name, and the text behind it, as a step.
pub record NameSteps (name text : List ℕ) (w : Written) (rest : List ℕ) : Type 0 where
  pub split : name ++ text ≡ step_text w ++ rest
  pub on : (is : List Item) (k : Separator) → heads goes text ≡ false → scan (InName is k None name) text ≡ scan (Whole (with is k w)) rest

abbrev pub NameStops : List ℕ → List ℕ → List ℕ → Type 0
NameStops name text rest = (is : List Item) (k : Separator) → heads goes text ≡ false → scan (InName is k None name) text ≡ Err rest

abbrev pub NameStepped : List ℕ → List ℕ → Cut step.Written → Type 0
NameStepped name text (Ok p) = NameSteps name text (step_of p.0) p.1.now
NameStepped name text (Err s) = NameStops name text s.now

-- A step behind a separator.
pub record StepCut (text : List ℕ) (w : Written) (rest : List ℕ) : Type 0 where
  pub split : text ≡ step_text w ++ rest
  pub on : (is : List Item) (k : Separator) → scan (Want is k) text ≡ scan (Whole (with is k w)) rest

abbrev pub StepStuck : List ℕ → List ℕ → Type 0
StepStuck text rest = (is : List Item) (k : Separator) → scan (Want is k) text ≡ Err rest

abbrev pub StepSplit : List ℕ → Cut step.Written → Type 0
StepSplit text (Ok p) = StepCut text (step_of p.0) p.1.now
StepSplit text (Err s) = StepStuck text s.now

-- A separator behind whole items.
pub record SeparatorCut (text : List ℕ) (k : Separator) (rest : List ℕ) : Type 0 where
  pub split : text ≡ separator_text k ++ rest
  pub on : (is : List Item) → scan (Whole is) text ≡ scan (Want is k) rest
