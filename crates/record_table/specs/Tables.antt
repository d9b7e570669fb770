-- The nodes and the room of a table, and what a call writes into its memory.
use Rattle.std.specs.Prelude.{ℕ, List, length, Result}
use Rattle.refusal.specs.declared.Refusal.{Refusal}
use Rattle.document.specs.declared.Node.{Node}
use Rattle.document.specs.declared.Call.{Call}
use Rattle.document.specs.Calls.{after}
use Rattle.record_table.specs.declared.table.Record.{Record}
use Rattle.record_table.specs.declared.table.RecordTable.{RecordTable}
use Rattle.record_table.specs.Records.{nodes_of, written}

abbrev pub table_nodes : RecordTable → List Node
table_nodes t = nodes_of t.records.now t.used

abbrev pub table_room : RecordTable → ℕ
table_room t = length t.records.now

-- the memory after a call c that answers r
abbrev pub table_written : RecordTable → Call → Result ℕ Refusal → List Record
table_written t c r = written t.records.now r (after (table_room t) (table_nodes t) c)
