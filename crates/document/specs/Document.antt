-- A document: its nodes in document order, the order in which they begin, and what is read off them.
use Rattle.std.specs.Prelude.{ℕ, zero, suc, ◌+◌, ◌-◌, Bool, cond, not, ◌&&◌, List, length, Some, None, Ok, Err, Option, Result, ◌==◌, nat_le, nat_lt, slice_index_or}
use Rattle.refusal.specs.declared.Ground.TheVariants.{NoNode}
use Rattle.refusal.specs.declared.Refusal.{Refusal}
use Rattle.refusal.specs.Refusals.{refusal}
use Rattle.document.specs.declared.Kind.{Kind}
use Rattle.document.specs.declared.Kind.TheVariants.{Element}
use Rattle.document.specs.declared.Node.{Node}

-- the end of an open node: greater than any other
abbrev pub open_mark : ℕ
open_mark = 4294967295

-- what stands past the last node
abbrev pub nowhere : Node
nowhere = record { parent = None; kind = Element; name = 0; end = 0 }

abbrev pub node_at : List Node → ℕ → Node
node_at ns n = slice_index_or ns n nowhere

abbrev pub parent_of : List Node → ℕ → Option ℕ
parent_of ns n = (node_at ns n).parent

abbrev pub kind_of : List Node → ℕ → Kind
kind_of ns n = (node_at ns n).kind

abbrev pub name_of : List Node → ℕ → ℕ
name_of ns n = (node_at ns n).name

abbrev pub end_of : List Node → ℕ → ℕ
end_of ns n = (node_at ns n).end

abbrev pub is_open : Node → Bool
is_open x = x.end == open_mark

abbrev pub closed : List Node → ℕ → Bool
closed ns n = not (is_open (node_at ns n))

-- z is a descendant of y: it begins later and ends no later
abbrev pub below : List Node → ℕ → ℕ → Bool
below ns y z = nat_lt y z && nat_le (end_of ns z) (end_of ns y)

-- of the numbers below n, the greatest at which f is true
abbrev pub greatest : (ℕ → Bool) → ℕ → Option ℕ
greatest f zero = None
greatest f (suc n) = cond (f n) (Some n) (greatest f n)

-- of the numbers below n, how many there are at which f is true
abbrev pub counted : (ℕ → Bool) → ℕ → ℕ
counted f zero = 0
counted f (suc n) = cond (f n) (suc (counted f n)) (counted f n)

-- the innermost open node
abbrev pub innermost : List Node → Option ℕ
innermost ns = greatest (λ n. is_open (node_at ns n)) (length ns)

-- how many nodes are closed: the end that the next one gets
abbrev pub closed_count : List Node → ℕ
closed_count ns = counted (λ n. closed ns n) (length ns)

abbrev pub open_count : List Node → ℕ
open_count ns = counted (λ n. is_open (node_at ns n)) (length ns)

abbrev pub descendant_count : List Node → ℕ → ℕ
descendant_count ns y = counted (λ z. below ns y z) (length ns)

abbrev pub ancestor_count : List Node → ℕ → ℕ
ancestor_count ns z = counted (λ y. below ns y z) (length ns)

abbrev pub one_above : (ℕ → ℕ) → Option ℕ → ℕ
one_above f None = 0
one_above f (Some p) = suc (f p)

-- how many parent links lead from n, of at most k
abbrev pub climb : ℕ → List Node → ℕ → ℕ
climb zero ns n = 0
climb (suc k) ns n = one_above (climb k ns) (parent_of ns n)

-- the level: a parent is smaller than its node, so n links are enough
abbrev pub level_of : List Node → ℕ → ℕ
level_of ns n = climb n ns n

-- the last node of the subtree of y
abbrev pub last_of : List Node → ℕ → ℕ
last_of ns y = cond (is_open (node_at ns y)) (length ns - 1) (end_of ns y + level_of ns y)

-- what a question about node n answers, where f has it for each node that there is
abbrev pub asked : {X : Type 0} → List Node → ℕ → (ℕ → X) → Result X Refusal
asked ns n f = cond (nat_lt n (length ns)) (Ok (f n)) (Err (refusal NoNode n))
