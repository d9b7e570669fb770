-- A sample batch of calls, the document that it leaves, and what calls answer on small documents.
use Rattle.std.specs.Prelude.{◌≡◌, ℕ, List, [], ◌∷◌, map, replicate, Some, None, Ok, Err, Option, Result}
use Rattle.document.specs.declared.Node.{Node}
use Rattle.document.specs.declared.Call.{Call}
use Rattle.document.specs.declared.Call.TheVariants.{Open, Text, Close}
use Rattle.refusal.specs.declared.Ground.{Ground}
use Rattle.refusal.specs.declared.Ground.TheVariants.{BadCapacity, Ended, NotBegun, BadName, TooDeep, Full, OtherName}
use Rattle.refusal.specs.declared.Refusal.{Refusal}
use Rattle.refusal.specs.Refusals.{refusal}
use Rattle.document.specs.Calls.{answered, run, element, text, with_end}

abbrev pub batch : List Call
batch = Open 1 ∷ Open 2 ∷ Text ∷ Close 2 ∷ Open 2 ∷ Open 3 ∷ Text ∷ Close 3 ∷ Close 2 ∷ Close 1 ∷ []

abbrev pub closed_element : Option ℕ → ℕ → ℕ → Node
closed_element p name e = with_end (element p name) e

abbrev pub sample : List Node
sample =
    closed_element None 1 5
    ∷ closed_element (Some 0) 2 1
    ∷ text (Some 1) 0
    ∷ closed_element (Some 0) 2 4
    ∷ closed_element (Some 3) 3 3
    ∷ text (Some 4) 2
    ∷ []

-- a document that calls leave, a call on it, and the answer
pub record Asked : Type 0 where
  pub room : ℕ
  pub before : List Call
  pub call : Call
  pub answer : Result ℕ Refusal

abbrev pub asked : ℕ → List Call → Call → Result ℕ Refusal → Asked
asked r b c a = record { room = r; before = b; call = c; answer = a }

abbrev pub refuses : Ground → Result ℕ Refusal
refuses g = Err (refusal g 0)

abbrev pub nested : List Call
nested = replicate 64 (Open 9)

abbrev pub table : List Asked
table =
    asked 0 [] (Open 1) (refuses BadCapacity)
    ∷ asked 4097 [] Text (refuses BadCapacity)
    ∷ asked 6 batch (Open 0) (refuses Ended)
    ∷ asked 6 batch (Close 1) (refuses Ended)
    ∷ asked 6 [] Text (refuses NotBegun)
    ∷ asked 6 [] (Close 1) (refuses NotBegun)
    ∷ asked 6 [] (Open 0) (refuses BadName)
    ∷ asked 6 [] (Open 65535) (refuses BadName)
    ∷ asked 64 nested Text (refuses TooDeep)
    ∷ asked 65 nested (Open 9) (refuses TooDeep)
    ∷ asked 65 nested (Close 9) (Ok 63)
    ∷ asked 1 (Open 1 ∷ []) Text (refuses Full)
    ∷ asked 2 (Open 1 ∷ []) Text (Ok 1)
    ∷ asked 1 (Open 1 ∷ []) (Close 2) (refuses OtherName)
    ∷ asked 3 (Open 1 ∷ Text ∷ []) (Close 1) (Ok 0)
    ∷ asked 3 (Open 1 ∷ Text ∷ []) (Open 65534) (Ok 2)
    ∷ []

-- the row of a call, computed
abbrev pub computed : Asked → Asked
computed a = asked a.room a.before a.call (answered a.room (run a.room [] a.before) a.call)

pub record SamplesHold : Type 0 where
  pub leaves : run 6 [] batch ≡ sample
  pub answers : map computed table ≡ table
