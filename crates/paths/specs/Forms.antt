-- How the long form is put together.
use Rattle.std.specs.Prelude.{◌≡◌, ℕ, ◌+◌, ◌≤◌, false, List, ◌++◌, length, Some, None, Ok, Err, Result}
use Rattle.arrayvec.specs.ArrayVec.{ArrayVec}
use Rattle.refusal.specs.declared.Ground.TheVariants.{UnknownName}
use Rattle.refusal.specs.declared.Refusal.{Refusal}
use Rattle.refusal.specs.Refusals.{refusal}
use Rattle.chain.specs.declared.Step.{Step}
use Rattle.grammar.specs.LongForm.{long_step, long_form, unlisted, first_unlisted}

-- A step was put behind `was`, and the bytes are then `form`.
pub record StepPut (names : List (List ℕ)) (s : Step) (was form : List ℕ) : Type 0 where
  pub listed : unlisted names s.test ≡ false
  pub is : form ≡ was ++ long_step names s
  pub near : length form ≤ length was + 53

-- The form is the long form of steps; or a step has no name.
abbrev pub Composed : List (List ℕ) → List Step → Result (Unit {0}) Refusal → ArrayVec ℕ → Type 0
Composed names ss (Ok u) form = (first_unlisted names ss ≡ None) × (form.items ≡ long_form names ss)
Composed names ss (Err e) form = (k : ℕ) × (first_unlisted names ss ≡ Some k) × (e ≡ refusal UnknownName k)
