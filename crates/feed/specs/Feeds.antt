-- What a record and a whole feed do to a document.
use Rattle.std.specs.Prelude.{◌≡◌, ℕ, ◌<◌, ◌≤◌, Bool, cond, List, [], ◌∷◌, ◌++◌, length, take, Some, None, Ok, Err, Option, Result}
use Rattle.refusal.specs.declared.Ground.TheVariants.{BadCapacity, BadRecord}
use Rattle.refusal.specs.declared.Refusal.{Refusal}
use Rattle.refusal.specs.Refusals.{refusal}
use Rattle.document.specs.declared.Node.{Node}
use Rattle.document.specs.declared.Call.{Call}
use Rattle.document.specs.Calls.{unfit, answered, after, run}
use Rattle.feed.specs.Records.{encoded, decoded}

-- what record i answers: want of memory comes before a bad record, and that before the call's other grounds
abbrev pub answered_by : ℕ → List Node → ℕ → Option Call → Result ℕ Refusal
answered_by room ns i (Some c) = answered room ns c
answered_by room ns i None = cond (unfit room) (Err (refusal BadCapacity 0)) (Err (refusal BadRecord i))

abbrev pub after_by : ℕ → List Node → Option Call → List Node
after_by room ns (Some c) = after room ns c
after_by room ns None = ns

abbrev pub record_answered : ℕ → List Node → ℕ → List ℕ → Result ℕ Refusal
record_answered room ns i bs = answered_by room ns i (decoded bs)

-- A value of some implementation is asked whether its room is unfit, and stays as it was.
pub record Probed {S : Type 0} (nodes : S → List Node) (room : S → ℕ) (was : S) (r : Bool) (is : S) : Type 0 where
  pub answer : r ≡ unfit (room was)
  pub leaves : nodes is ≡ nodes was
  pub same_room : room is ≡ room was

-- A record fed to a value of some implementation: its answer r, the nodes that it leaves, and it has the same room.
pub record Recorded {S : Type 0} (nodes : S → List Node) (room : S → ℕ) (was : S) (i : ℕ) (bs : List ℕ) (r : Result ℕ Refusal) (is : S) : Type 0 where
  pub answer : r ≡ record_answered (room was) (nodes was) i bs
  pub leaves : nodes is ≡ after_by (room was) (nodes was) (decoded bs)
  pub same_room : room is ≡ room was

abbrev pub encoded_all : List Call → List ℕ
encoded_all [] = []
encoded_all (c ∷ cs) = encoded c ++ encoded_all cs

-- each of the calls is accepted in its turn
abbrev pub Accepted : ℕ → List Node → List Call → Type 0
Accepted room ns [] = Unit {0}
Accepted room ns (c ∷ cs) = ((n : ℕ) × (answered room ns c ≡ Ok n)) × Accepted room (after room ns c) cs

-- The bytes begin with the records of some calls, each of which is accepted, and rest is what follows: count is how many calls, new what they leave.
pub record Read (room : ℕ) (ns : List Node) (bs : List ℕ) (count : ℕ) (rest : List ℕ) (new : List Node) : Type 0 where
  pub calls : List Call
  pub split : bs ≡ encoded_all calls ++ rest
  pub counted : count ≡ length calls
  pub accepted : Accepted room ns calls
  pub leaves : new ≡ run room ns calls

-- why reading ends at record i, with these bytes left: there are none, or the record is refused
abbrev pub Ends : ℕ → List Node → ℕ → List ℕ → Option Refusal → Type 0
Ends room ns i rest None = rest ≡ []
Ends room ns i rest (Some e) = (0 < length rest) × (record_answered room ns i (take 4 rest) ≡ Err e)

-- The bytes are read to their end or to the first record that is refused: count records are accepted, stop is the refusal, new what the records leave.
pub record Feeds (room : ℕ) (ns : List Node) (bs : List ℕ) (count : ℕ) (stop : Option Refusal) (new : List Node) : Type 0 where
  pub rest : List ℕ
  pub read : Read room ns bs count rest new
  pub ended : Ends room new count rest stop

-- Bytes and a document leave one answer and one document.
abbrev pub FeedsOnce : Type 0
FeedsOnce = (room : ℕ) (ns : List Node) (bs : List ℕ) (count count' : ℕ) (stop stop' : Option Refusal) (new new' : List Node)
    → Feeds room ns bs count stop new → Feeds room ns bs count' stop' new' → (count ≡ count') × (stop ≡ stop') × (new ≡ new')

-- A feed read into a value of some implementation. A document has at most 4,096 nodes, each with at most two records.
pub record FedTo {S : Type 0} (nodes : S → List Node) (room : S → ℕ) (was : S) (bs : List ℕ) (count : ℕ) (stop : Option Refusal) (is : S) : Type 0 where
  pub feeds : Feeds (room was) (nodes was) bs count stop (nodes is)
  pub few : count ≤ 8192
  pub same_room : room is ≡ room was
