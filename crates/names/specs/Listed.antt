-- The names of a list, and what checking a text as one answers.
use Rattle.std.specs.Prelude.{◌≡◌, ℕ, List, Some, None}
use Rattle.refusal.specs.declared.Ground.TheVariants.{BadLine}
use Rattle.refusal.specs.declared.Refusal.{Refusal}
use Rattle.refusal.specs.Refusals.{refusal}
use Rattle.names.specs.Lists.{lines, first_bad, ended, Proper, IsBadLine}
use Rattle.names.specs.declared.list.NameList.{NameList}

abbrev pub listed : NameList → List (List ℕ)
listed s = lines s.bytes.now

-- The text is the list of these names.
pub record ListOf (text : List ℕ) (names : List (List ℕ)) : Type 0 where
  pub good : first_bad text ≡ None
  pub lines_are : names ≡ lines text
  pub proper : Proper names
  pub text_is : text ≡ ended names

-- The text is refused at the first line that is bad.
pub record RefusedAt (text : List ℕ) (e : Refusal) : Type 0 where
  pub place : ℕ
  pub found : first_bad text ≡ Some place
  pub says : e ≡ refusal BadLine place
  pub line : IsBadLine text place
