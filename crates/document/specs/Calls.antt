-- The calls that build a document: what each answers and what document it leaves.
use Rattle.std.specs.Prelude.{◌≡◌, ℕ, Bool, true, false, cond, not, ◌&&◌, ◌||◌, List, [], ◌∷◌, ◌++◌, length, Some, None, Ok, Err, Option, Result, ◌==◌, nat_le, nat_lt, slice_set}
use Rattle.std.specs.Option.{ok_or}
use Rattle.document.specs.declared.Kind.TheVariants.{Element, Text}
use Rattle.document.specs.declared.Node.{Node}
use Rattle.document.specs.declared.Call.{Call}
use Rattle.document.specs.declared.Call.TheVariants as call
use Rattle.refusal.specs.declared.Ground.{Ground}
use Rattle.refusal.specs.declared.Ground.TheVariants.{BadCapacity, Ended, NotBegun, BadName, TooDeep, Full, OtherName}
use Rattle.refusal.specs.declared.Refusal.{Refusal}
use Rattle.refusal.specs.Refusals.{refusal}
use Rattle.document.specs.Document.{open_mark, node_at, name_of, closed, innermost, closed_count, one_above, level_of}

-- there is memory for no node, or for more than a document may have: room is for how many
abbrev pub unfit : ℕ → Bool
unfit room = room == 0 || nat_lt 4096 room

-- node 0 is closed
abbrev pub ended : List Node → Bool
ended ns = nat_lt 0 (length ns) && closed ns 0

-- only an open can be the first call
abbrev pub early : List Node → Call → Bool
early ns (call.Open name) = false
early ns call.Text = length ns == 0
early ns (call.Close name) = length ns == 0

abbrev pub misnamed : Call → Bool
misnamed (call.Open name) = name == 0 || nat_le 65535 name
misnamed call.Text = false
misnamed (call.Close name) = false

abbrev pub adds : Call → Bool
adds (call.Open name) = true
adds call.Text = true
adds (call.Close name) = false

-- a node inside the innermost open one would have a level above 63
abbrev pub deep : List Node → Option ℕ → Bool
deep ns None = false
deep ns (Some p) = nat_le 63 (level_of ns p)

abbrev pub other_name : List Node → Option ℕ → ℕ → Bool
other_name ns None name = false
other_name ns (Some p) name = not (name_of ns p == name)

abbrev pub mismatched : List Node → Call → Bool
mismatched ns (call.Open name) = false
mismatched ns call.Text = false
mismatched ns (call.Close name) = other_name ns (innermost ns) name

-- each ground with its test, in the order of their numbers
abbrev pub grounds : ℕ → List Node → Call → List (Bool × Ground)
grounds room ns c =
    (unfit room, BadCapacity)
    ∷ (ended ns, Ended)
    ∷ (early ns c, NotBegun)
    ∷ (misnamed c, BadName)
    ∷ (adds c && deep ns (innermost ns), TooDeep)
    ∷ (adds c && nat_le room (length ns), Full)
    ∷ (mismatched ns c, OtherName)
    ∷ []

abbrev pub first_of : List (Bool × Ground) → Option Ground
first_of [] = None
first_of (t ∷ ts) = cond t.0 (Some t.1) (first_of ts)

-- the ground on which a call is refused, if it is: the first that holds
unfoldable pub refused : ℕ → List Node → Call → Option Ground
refused room ns c = first_of (grounds room ns c)

-- where no element is open, why a call that needs one is refused
abbrev pub idle : ℕ → Ground
idle count = cond (count == 0) NotBegun Ended

-- the innermost open element, or why a call that needs one is refused
abbrev pub inner_element : ℕ → List Node → Result ℕ Refusal
inner_element room ns = cond (unfit room) (Err (refusal BadCapacity 0)) (ok_or (innermost ns) (refusal (idle (length ns)) 0))

-- the level of a node that begins now, or why none can: it would lie too deep, or there is no room
abbrev pub next_level : ℕ → List Node → Result ℕ Refusal
next_level room ns =
    cond (deep ns (innermost ns)) (Err (refusal TooDeep 0))
    (cond (nat_le room (length ns)) (Err (refusal Full 0)) (Ok (one_above (level_of ns) (innermost ns))))

abbrev pub or_zero : Option ℕ → ℕ
or_zero None = 0
or_zero (Some n) = n

-- the node that an accepted call begins or closes
abbrev pub target : List Node → Call → ℕ
target ns (call.Open name) = length ns
target ns call.Text = length ns
target ns (call.Close name) = or_zero (innermost ns)

abbrev pub verdict : Option Ground → ℕ → Result ℕ Refusal
verdict None n = Ok n
verdict (Some g) n = Err (refusal g 0)

-- what a call answers: its node's number, or the refusal
abbrev pub answered : ℕ → List Node → Call → Result ℕ Refusal
answered room ns c = verdict (refused room ns c) (target ns c)

abbrev pub element : Option ℕ → ℕ → Node
element p name = record { parent = p; kind = Element; name = name; end = open_mark }

abbrev pub text : Option ℕ → ℕ → Node
text p e = record { parent = p; kind = Text; name = 0; end = e }

abbrev pub with_end : Node → ℕ → Node
with_end x e = record { parent = x.parent; kind = x.kind; name = x.name; end = e }

-- what an accepted call leaves
abbrev pub accepted : List Node → Call → List Node
accepted ns (call.Open name) = ns ++ element (innermost ns) name ∷ []
accepted ns call.Text = ns ++ text (innermost ns) (closed_count ns) ∷ []
accepted ns (call.Close name) = slice_set ns (or_zero (innermost ns)) (with_end (node_at ns (or_zero (innermost ns))) (closed_count ns))

abbrev pub unless : Option Ground → List Node → List Node → List Node
unless None new old = new
unless (Some g) new old = old

-- what a call leaves: a refused one changes nothing
abbrev pub after : ℕ → List Node → Call → List Node
after room ns c = unless (refused room ns c) (accepted ns c) ns

-- the documents that calls leave
pub data Grown : List Node → Type 0 where
  blank : Grown []
  more : {ns : List Node} (room : ℕ) (c : Call) → Grown ns → Grown (after room ns c)

-- the document after a list of calls, each accepted or refused
abbrev pub run : ℕ → List Node → List Call → List Node
run room ns [] = ns
run room ns (c ∷ cs) = run room (after room ns c) cs

-- A call on a value of some implementation: its answer r, the nodes that it leaves, and it has the same room.
pub record Called {S : Type 0} (nodes : S → List Node) (room : S → ℕ) (was : S) (c : Call) (r : Result ℕ Refusal) (is : S) : Type 0 where
  pub answer : r ≡ answered (room was) (nodes was) c
  pub leaves : nodes is ≡ after (room was) (nodes was) c
  pub same_room : room is ≡ room was
