-- The nodes that records stand for, what a table keeps, and which record a call writes.
use Rattle.std.specs.Prelude.{◌≡◌, ℕ, ◌<◌, ◌≤◌, List, map, length, take, Ok, Err, Option, Result, slice_index_or, slice_set}
use Rattle.refusal.specs.declared.Refusal.{Refusal}
use Rattle.document.specs.declared.Node.{Node}
use Rattle.document.specs.Document.{nowhere, node_at, level_of, innermost}
use Rattle.document.specs.Calls.{Grown}
use Rattle.record_table.specs.declared.table.Record.{Record}

-- what stands past the last record
abbrev pub blank : Record
blank = record { node = nowhere; level = 0 }

-- the nodes of the records in use
abbrev pub nodes_of : List Record → ℕ → List Node
nodes_of rs used = map (λ r. r.node) (take used rs)

-- the records in use are those of a document that calls leave, and its innermost open element is kept beside them
pub record Sound (rs : List Record) (used : ℕ) (inner : Option ℕ) : Type 0 where
  pub fits : used ≤ length rs
  pub grown : ∥ Grown (nodes_of rs used) ∥₁
  pub levels : (n : ℕ) → n < used → (slice_index_or rs n blank).level ≡ level_of (nodes_of rs used) n
  pub inner_is : inner ≡ innermost (nodes_of rs used)

-- the record of node n
abbrev pub record_of : List Node → ℕ → Record
record_of ns n = record { node = node_at ns n; level = level_of ns n }

-- the memory after a call that leaves the nodes new: if it was accepted, the record of the node that it answers is written, and no other
abbrev pub written : List Record → Result ℕ Refusal → List Node → List Record
written rs (Ok n) new = slice_set rs n (record_of new n)
written rs (Err e) new = rs
