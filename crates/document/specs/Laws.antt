-- The invariant of a document, the laws that follow from it, and what one call does.
use Rattle.std.specs.Prelude.{◌≡◌, ℕ, suc, ◌+◌, ◌<◌, ◌≤◌, true, ◌&&◌, ◌||◌, ◌⊎◌, ◌↔◌, List, [], ◌∷◌, map, length, Some, None, Ok, Err, Option, Result, ◌==◌, ◌≢◌, nat_le, nat_lt}
use Rattle.document.specs.declared.Kind.TheVariants.{Element, Text}
use Rattle.document.specs.declared.Node.{Node}
use Rattle.document.specs.declared.Call.{Call}
use Rattle.document.specs.declared.Call.TheVariants as call
use Rattle.refusal.specs.declared.Refusal.{Refusal}
use Rattle.refusal.specs.Refusals.{number_of}
use Rattle.document.specs.Document.{open_mark, node_at, parent_of, kind_of, name_of, end_of, closed, below, level_of, innermost, closed_count, descendant_count, ancestor_count, last_of}
use Rattle.document.specs.Calls.{grounds, answered, accepted, after, Grown, run, Called}

abbrev pub Named : Node → Type 0
Named x = ((x.kind ≡ Element) × (0 < x.name) × (x.name < 65535)) ⊎ ((x.kind ≡ Text) × (x.name ≡ 0))

pub record WellFormed (ns : List Node) : Type 0 where
  pub bounded : length ns ≤ 4096
  pub named : (n : ℕ) → n < length ns → Named (node_at ns n)
  -- parents
  pub root_element : 0 < length ns → kind_of ns 0 ≡ Element
  pub one_root : (n : ℕ) → n < length ns → parent_of ns n ≡ None → n ≡ 0
  pub parent_first : (n p : ℕ) → n < length ns → parent_of ns n ≡ Some p → p < n
  pub parent_element : (n p : ℕ) → n < length ns → parent_of ns n ≡ Some p → kind_of ns p ≡ Element
  pub shallow : (n : ℕ) → n < length ns → level_of ns n ≤ 63
  -- ends: below the count of closed nodes, or the mark
  pub ends : (n : ℕ) → n < length ns → (end_of ns n ≡ open_mark) ⊎ (end_of ns n < closed_count ns)
  pub text_ends : (n : ℕ) → n < length ns → kind_of ns n ≡ Text → end_of ns n < closed_count ns
  pub one_end : (m n : ℕ) → m < n → n < length ns → end_of ns m ≡ end_of ns n → end_of ns m ≡ open_mark
  -- a node ends no later than its parent, and what begins between the two ends before it
  pub parent_last : (n p : ℕ) → n < length ns → parent_of ns n ≡ Some p → end_of ns n ≤ end_of ns p
  pub between : (n p y : ℕ) → n < length ns → parent_of ns n ≡ Some p → p < y → y < n → end_of ns y < end_of ns n
  -- of what begins after a closed node y, the nodes up to its end + level are those that end no later
  pub reach_below : (y z : ℕ) → y < z → z < length ns → z ≤ end_of ns y + level_of ns y → end_of ns z ≤ end_of ns y
  pub below_reach : (y z : ℕ) → y < z → z < length ns → end_of ns z ≤ end_of ns y → end_of ns y < closed_count ns → z ≤ end_of ns y + level_of ns y
  pub reach_from : (y : ℕ) → y < length ns → end_of ns y < closed_count ns → y ≤ end_of ns y + level_of ns y
  pub reach_to : (y : ℕ) → y < length ns → end_of ns y < closed_count ns → end_of ns y + level_of ns y < length ns
  -- as many nodes are open as there are levels down to the innermost
  pub counts_open : (p : ℕ) → innermost ns ≡ Some p → closed_count ns + level_of ns p + 1 ≡ length ns
  pub all_closed : innermost ns ≡ None → closed_count ns ≡ length ns

-- z is a descendant of y, as a fact
abbrev pub Below : List Node → ℕ → ℕ → Type 0
Below ns y z = (y < z) × (end_of ns z ≤ end_of ns y)

-- y is reached from z by one parent link or more
pub data Above (ns : List Node) : ℕ → ℕ → Type 0 where
  direct : {y z : ℕ} → parent_of ns z ≡ Some y → Above ns y z
  over : {y p z : ℕ} → parent_of ns z ≡ Some p → Above ns y p → Above ns y z

-- The laws of a well formed document.
pub record Laws (ns : List Node) : Type 0 where
  pub root_parent : parent_of ns 0 ≡ None
  pub ends_distinct : (m n : ℕ) → m < length ns → n < length ns → end_of ns m < closed_count ns → end_of ns m ≡ end_of ns n → m ≡ n
  -- subtrees are intervals, and the ends count them
  pub last_from : (y : ℕ) → y < length ns → y ≤ last_of ns y
  pub last_to : (y : ℕ) → y < length ns → last_of ns y < length ns
  pub interval : (y z : ℕ) → z < length ns → below ns y z ≡ (nat_lt y z && nat_le z (last_of ns y))
  pub end_law : (y : ℕ) → y < length ns → end_of ns y < closed_count ns → end_of ns y + level_of ns y ≡ y + descendant_count ns y
  -- below is ancestry by parent links, and the level counts the ancestors
  pub ancestry : (y z p : ℕ) → parent_of ns z ≡ Some p → below ns y z ≡ (p == y || below ns y p)
  pub ancestors : (y z : ℕ) → z < length ns → (Below ns y z ↔ Above ns y z)
  pub level_counts : (z : ℕ) → z < length ns → level_of ns z ≡ ancestor_count ns z
  pub child_level : (y z : ℕ) → z < length ns → Below ns y z → level_of ns z ≡ suc (level_of ns y) → parent_of ns z ≡ Some y
  -- the open nodes are the innermost one and its ancestors
  pub open_nodes : (p n : ℕ) → innermost ns ≡ Some p → n < length ns → ((end_of ns n ≡ open_mark) ↔ ((n ≡ p) ⊎ Above ns n p))
  pub ended_all : 0 < length ns → end_of ns 0 < closed_count ns → innermost ns ≡ None
  -- siblings end in the order in which they begin, and the next begins where the subtree has ended
  pub siblings_order : (y z : ℕ) → y < z → z < length ns → parent_of ns y ≡ parent_of ns z → end_of ns y < end_of ns z
  pub first_child : (y : ℕ) → suc y < length ns → Below ns y (suc y) → parent_of ns (suc y) ≡ Some y
  pub sibling_next : (p z : ℕ) → parent_of ns z ≡ Some p → suc (last_of ns z) ≤ last_of ns p → parent_of ns (suc (last_of ns z)) ≡ Some p
  pub next_sibling : (p z v : ℕ) → parent_of ns z ≡ Some p → parent_of ns v ≡ Some p → z < v
      → ((u : ℕ) → z < u → u < v → parent_of ns u ≢ Some p) → v ≡ suc (last_of ns z)

abbrev pub GrownWell : Type 0
GrownWell = (ns : List Node) → Grown ns → WellFormed ns

abbrev pub WellLawful : Type 0
WellLawful = (ns : List Node) → WellFormed ns → Laws ns

-- z is a closed node of the document
pub record Closed (ns : List Node) (z : ℕ) : Type 0 where
  pub there : z < length ns
  pub ended : closed ns z ≡ true

-- z is closed in new and was not in ns: it was open, or was not there
pub record Closing (ns new : List Node) (z : ℕ) : Type 0 where
  pub now : Closed new z
  pub not_before : Closed ns z → ⊥

-- new is a later state of ns: of the old nodes only open ones have changed, by an end, and nothing between nodes has
pub record Stable (ns new : List Node) : Type 0 where
  pub longer : length ns ≤ length new
  pub same_parent : (n : ℕ) → n < length ns → parent_of new n ≡ parent_of ns n
  pub same_kind : (n : ℕ) → n < length ns → kind_of new n ≡ kind_of ns n
  pub same_name : (n : ℕ) → n < length ns → name_of new n ≡ name_of ns n
  pub same_level : (n : ℕ) → n < length ns → level_of new n ≡ level_of ns n
  pub same_below : (y z : ℕ) → y < length ns → z < length ns → below new y z ≡ below ns y z
  pub same_end : (n : ℕ) → Closed ns n → end_of new n ≡ end_of ns n

-- new comes of ns by one call: at most one node more, and at most one that closes, which ends after all that were closed
pub record Next (ns new : List Node) : Type 0 where
  pub stable : Stable ns new
  pub by_one : length new ≤ suc (length ns)
  pub one_closes : (y z : ℕ) → Closing ns new y → Closing ns new z → y ≡ z
  pub last_end : (y z : ℕ) → Closed ns y → Closing ns new z → end_of ns y < end_of new z
  pub well : WellFormed new

abbrev pub CallsNext : Type 0
CallsNext = (room : ℕ) (ns : List Node) (c : Call) → WellFormed ns → Next ns (after room ns c)

abbrev pub RunsStable : Type 0
RunsStable = (room : ℕ) (ns : List Node) (cs : List Call) → WellFormed ns → Stable ns (run room ns cs) × WellFormed (run room ns cs)

-- how many nodes a document has, how many of them are closed, and the innermost open one
pub record Counts (ns : List Node) (nodes ends : ℕ) (inner : Option ℕ) : Type 0 where
  pub node_count : length ns ≡ nodes
  pub end_count : closed_count ns ≡ ends
  pub innermost_is : innermost ns ≡ inner

-- what an accepted call that begins or closes node n leaves
abbrev pub Leaves : List Node → Call → ℕ → Type 0
Leaves ns (call.Open name) n = (n ≡ length ns) × Counts (accepted ns (call.Open name)) (suc (length ns)) (closed_count ns) (Some (length ns))
Leaves ns call.Text n = (n ≡ length ns) × Counts (accepted ns call.Text) (suc (length ns)) (suc (closed_count ns)) (innermost ns)
Leaves ns (call.Close name) n =
    (innermost ns ≡ Some n) × (name_of ns n ≡ name) × Counts (accepted ns (call.Close name)) (length ns) (suc (closed_count ns)) (parent_of ns n)

-- What a call answers says what it leaves.
pub record Effect (room : ℕ) (ns : List Node) (c : Call) : Type 0 where
  pub on_err : (e : Refusal) → answered room ns c ≡ Err e → after room ns c ≡ ns
  pub on_ok : (n : ℕ) → answered room ns c ≡ Ok n → (after room ns c ≡ accepted ns c) × Leaves ns c n
  -- what begins has as many levels above it as there are open nodes
  pub new_level : (n : ℕ) → answered room ns c ≡ Ok n → length ns ≤ n → closed_count ns + level_of (accepted ns c) n ≡ n

abbrev pub CallsEffect : Type 0
CallsEffect = (room : ℕ) (ns : List Node) (c : Call) → WellFormed ns → Effect room ns c

-- the grounds are tested in the order of their numbers
abbrev pub GroundsOrdered : Type 0
GroundsOrdered = (room : ℕ) (ns : List Node) (c : Call) → map (λ t. number_of t.1) (grounds room ns c) ≡ 1 ∷ 2 ∷ 3 ∷ 4 ∷ 5 ∷ 6 ∷ 7 ∷ []

-- A call on a value, and what follows from it: a next state, and the laws.
pub record Performed {S : Type 0} (nodes : S → List Node) (room : S → ℕ) (was : S) (c : Call) (r : Result ℕ Refusal) (is : S) : Type 0 where
  pub called : Called nodes room was c r is
  pub next : Next (nodes was) (nodes is)
  pub laws : Laws (nodes is)
