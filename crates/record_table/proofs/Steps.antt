-- A table: what its tests tell of its nodes, and what its writes leave.
use Rattle.std.proofs.Common.{◌≡◌, ℕ, ◌+◌, ◌-◌, ◌<◌, ◌≤◌, Bool, true, false, not, eqb, ltb, List, [], ◌∷◌, ◌++◌, map, length, get_or, take, set, is_some, Some, None, Ok, Err, Option, Result, IsErrAnd, sym, refl, ap, ◌∙◌, inl, inr, arith}
use lib.Seq.{take-set-lt}
use Rattle.std.proofs.Math.Logic.{∥∥₁_map}
use Rattle.std.proofs.lemmas.List.{length-map, length-take-le, get_or-map, get_or-take, length-set, map-set, map_push, take_more_set, get_or_push, get_or-set_same, get_or-set_other}
use Rattle.std.proofs.lemmas.Result.{err_from_is_err_and}
use Rattle.std.proofs.lemmas.Bool.{cases_eq, cases_lt, eq-eqb, ne_eqb, lt-ltb, le-ltb}
use Rattle.std.proofs.lemmas.Bool.Decides.{nat_tests}
use Rattle.refusal.specs.declared.Ground.{Ground}
use Rattle.refusal.specs.declared.Ground.TheVariants.{BadCapacity, OtherName}
use Rattle.refusal.specs.declared.Refusal.{Refusal}
use Rattle.refusal.specs.Refusals.{refusal}
use Rattle.document.specs.declared.Node.{Node}
use Rattle.document.specs.declared.Call.{Call}
use Rattle.document.specs.declared.Call.TheVariants as call
use Rattle.document.specs.Document.{nowhere, node_at, name_of, innermost, closed_count, one_above, level_of}
use Rattle.document.specs.Calls.{or_zero, unfit, ended, early, misnamed, mismatched, inner_element, next_level, refused, target, verdict, answered, accepted, after, with_end, element, text, Grown, more, Called}
use Rattle.document.specs.Laws.{WellFormed}
use Rattle.document.proofs.Calls.{calls_next}
use Rattle.document.proofs.Grown.{grown_once}
use Rattle.document.proofs.Effects.{accepted_after, open_counts, text_counts, close_counts, open_level, text_level}
use Rattle.document.proofs.Verdicts.{by_capacity, by_other_name, by_level, by_element, passes_close, passes_level, passes_element, going_on, has_nodes, all_ended, not_ended, refuses}
use Rattle.document.proofs.WellFormed.{inner}
use Rattle.record_table.specs.declared.table.Record.{Record}
use Rattle.record_table.specs.declared.table.RecordTable.{RecordTable}
use Rattle.record_table.specs.Records.{blank, nodes_of, written, Sound}
use Rattle.record_table.specs.Tables.{table_nodes, table_room}

pub length-nodes : (rs : List Record) (used : ℕ) → used ≤ length rs → length (nodes_of rs used) ≡ used
length-nodes rs used h = length-map (take used rs) (λ r. r.node) ∙ length-take-le used rs h

pub node_at_lem : (rs : List Record) (used n : ℕ) → used ≤ length rs → n < used → node_at (nodes_of rs used) n ≡ (get_or rs n blank).node
node_at_lem rs used n h l =
    let k : n < length (take used rs) = omega (arith, length-take-le used rs h) in
    get_or-map (λ r. r.node) (take used rs) n blank nowhere k ∙ ap (λ (r : Record). r.node) (get_or-take used rs n blank l)

none_when : (o : Option ℕ) → is_some o ≡ false → o ≡ None
none_when None e = refl
none_when (Some p) e = absurd (grind (arith, nat_tests))

some_when : (o : Option ℕ) → is_some o ≡ true → (p : ℕ) × (o ≡ Some p)
some_when None e = absurd (grind (arith, nat_tests))
some_when (Some p) e = (p, refl)

-- A call as the fields show it.
pub record Done (rs : List Record) (used : ℕ) (c : Call) (r : Result ℕ Refusal) (rs' : List Record) (used' : ℕ) (inner' : Option ℕ) : Type 0 where
  pub answer : r ≡ verdict (refused (length rs) (nodes_of rs used) c) (target (nodes_of rs used) c)
  pub leaves : nodes_of rs' used' ≡ after (length rs) (nodes_of rs used) c
  pub same_room : length rs' ≡ length rs
  pub sound : Sound rs' used' inner'
  pub memory : rs' ≡ written rs r (after (length rs) (nodes_of rs used) c)

-- the same of a table whose fields hold that
pub called_by : {was is : RecordTable} {c : Call} {r r' : Result ℕ Refusal} {rs : List Record} {used : ℕ} {inner : Option ℕ}
    → Done was.records.now was.used c r rs used inner → r' ≡ r → is.records.now ≡ rs → is.used ≡ used → Called table_nodes table_room was c r' is
called_by {is = is} d a m u = record { answer = a ∙ d.answer; leaves = rw (m, u) d.leaves; same_room = rw m d.same_room }

pub memory_by : {rs rs' now' : List Record} {used used' : ℕ} {c : Call} {r r' : Result ℕ Refusal} {inner : Option ℕ}
    → Done rs used c r rs' used' inner → r' ≡ r → now' ≡ rs' → now' ≡ written rs r' (after (length rs) (nodes_of rs used) c)
memory_by d a m = rw (a, m) d.memory

module _ (rs : List Record) (used : ℕ) (at : Option ℕ) (s : Sound rs used at) where
  abbrev ns : List Node
  ns = nodes_of rs used

  pub well : WellFormed ns
  well = grown_once ns s.grown

  pub size : length ns ≡ used
  size = length-nodes rs used s.fits

  nodes_push : (r : Record) → used < length rs → nodes_of (set rs used r) (used + 1) ≡ ns ++ r.node ∷ []
  nodes_push r l = ap (map (λ x. x.node)) (take_more_set rs used r l) ∙ map_push (λ x. x.node) (take used rs) r

  nodes-set : (p : ℕ) (r : Record) → p < used → nodes_of (set rs p r) used ≡ set ns p r.node
  nodes-set p r l = ap (map (λ x. x.node)) (take-set-lt used rs p r l) ∙ map-set (λ x. x.node) (take used rs) p r

  answer_ok : (c : Call) (n : ℕ) → refused (length rs) ns c ≡ None → target ns c ≡ n → Ok n ≡ verdict (refused (length rs) ns c) (target ns c)
  answer_ok c n e t = ap (λ (m : ℕ). Ok m) (sym t) ∙ sym (ap (λ (o : Option Ground). verdict o (target ns c)) e)

  -- the record of the node that the call answers is written, and the rest stays
  stored : (c : Call) (n : ℕ) (x : Node) (level : ℕ) (used' : ℕ) (inner' : Option ℕ)
      → refused (length rs) ns c ≡ None
      → target ns c ≡ n
      → n < length rs
      → used' ≤ length rs
      → ((k : ℕ) → k < used' → (k ≡ n → ⊥) → k < used)
      → nodes_of (set rs n (record { node = x; level = level })) used' ≡ accepted ns c
      → x ≡ node_at (accepted ns c) n
      → level ≡ level_of (accepted ns c) n
      → inner' ≡ innermost (accepted ns c)
      → Done rs used c (Ok n) (set rs n (record { node = x; level = level })) used' inner'
  stored c n x level used' inner' e t l b old g here lev i =
      let r : Record = record { node = x; level = level } in
      let after_is : after (length rs) ns c ≡ accepted ns c = accepted_after (length rs) ns c e in
      let leaves : nodes_of (set rs n r) used' ≡ after (length rs) ns c = g ∙ sym after_is in
      let next = calls_next (length rs) ns c well in
      let same : length (set rs n r) ≡ length rs = length-set rs n r in
      record {
        answer = answer_ok c n e t;
        leaves = leaves;
        same_room = same;
        sound = record {
          fits = omega arith;
          grown = rw leaves (∥∥₁_map s.grown (λ (d : Grown ns). more (length rs) c d));
          levels = λ k h. rw leaves (elim (cases_eq k n) [
            | inl q ↦ rw (q, get_or-set_same rs n r blank l, after_is) lev
            | inr q ↦
                let old-k : k < used = old k h q in
                ap (λ (y : Record). y.level) (get_or-set_other rs n k r blank q) ∙ s.levels k old-k ∙ sym (next.stable.same_level k (omega (arith, size)))
          ]);
          inner_is = i ∙ sym (ap innermost g);
        };
        memory = rw (after_is, ← here, ← lev) refl;
      }

  -- the level of a node that begins now, and the ends given so far, make its number
  new_level : closed_count ns + one_above (level_of ns) (innermost ns) ≡ used
  new_level = go (innermost ns) refl
    where
      go : (o : Option ℕ) → innermost ns ≡ o → closed_count ns + one_above (level_of ns) o ≡ used
      go None e = omega (arith, well.all_closed e, size)
      go (Some p) e = omega (arith, well.counts_open p e, size)

  level_here : (new : List Node) (level : ℕ) → level ≡ one_above (level_of ns) (innermost ns)
      → closed_count ns + level_of new (length ns) ≡ length ns → level ≡ level_of new used
  level_here new level v e =
      let here : level_of new (length ns) ≡ level_of new used = ap (level_of new) size in
      omega (arith, new_level, size)

  -- no element is open
  pub ended_none : is_some at ≡ false → ltb 0 used ≡ ended ns
  ended_none e = elim (cases_lt 0 used) [
    | inl l ↦ lt-ltb 0 used l ∙ sym (all_ended ns well (sym s.inner_is ∙ none_when at e) (omega (arith, size)))
    | inr l ↦ le-ltb 0 used l ∙ sym (not_ended ns well (omega (arith, size)))
  ]

  pub ended_some : is_some at ≡ true → ended ns ≡ false
  ended_some e = let p = some_when at e in going_on ns well p.0 (sym s.inner_is ∙ p.1)

  -- element p is the innermost open one
  module _ (p : ℕ) (q : at ≡ Some p) where
    inner_at : innermost ns ≡ Some p
    inner_at = sym s.inner_is ∙ q

    going : ended ns ≡ false
    going = going_on ns well p inner_at

    begun : eqb (length ns) 0 ≡ false
    begun = has_nodes ns well p inner_at

    there : p < used
    there = omega (arith, (inner ns p inner_at).there, size)

    pub within : p < length rs
    within = omega (arith, there, s.fits)

    node-is : node_at ns p ≡ (get_or rs p blank).node
    node-is = node_at_lem rs used p s.fits there

    -- its level and the ends given so far make the number of the next node, but for one
    pub level_counts : closed_count ns + (get_or rs p blank).level + 1 ≡ used
    level_counts = omega (arith, well.counts_open p inner_at, s.levels p there, size)

    pub level_low : (get_or rs p blank).level ≤ 63
    level_low = omega (arith, well.shallow p (omega (arith, size, there)), s.levels p there)

    pub level_some : (get_or rs p blank).level + 1 ≡ one_above (level_of ns) (innermost ns)
    level_some = rw inner_at (omega (arith, s.levels p there))

  pub opened : {r : Result ℕ Refusal} (name level : ℕ) → false ≡ unfit (length rs) → false ≡ ended ns → misnamed (call.Open name) ≡ false → r ≡ next_level (length rs) ns → r ≡ Ok level
      → Done rs used (call.Open name) (Ok used) (set rs used (record { node = element at name; level = level })) (used + 1) (Some used)
  opened name level fit g m is v =
      let c = call.Open name in
      let t = passes_level (length rs) ns c (sym fit) (sym g) refl m refl refl level (sym is ∙ v) in
      let l : used < length rs = omega (arith, t.2, size) in
      let x : element at name ≡ element (innermost ns) name = ap (λ (o : Option ℕ). element o name) s.inner_is in
      stored c used (element at name) level (used + 1) (Some used) t.0 size l (omega arith) (λ k h q. omega arith)
      (nodes_push _ l ∙ ap (λ (y : Node). ns ++ y ∷ []) x)
      (x ∙ sym (get_or_push ns _ nowhere used size))
      (level_here (accepted ns c) level t.1 (open_level (length rs) ns well name t.0))
      (sym ((open_counts (length rs) ns well name t.0).innermost_is ∙ ap Some size))

  -- element p is found where one is needed
  module _ {f : Result ℕ Refusal} (p : ℕ) (finds : f ≡ inner_element (length rs) ns) (found : f ≡ Ok p) where
    fit : unfit (length rs) ≡ false
    fit = (passes_element (length rs) ns p (sym finds ∙ found)).0

    pub open_at : at ≡ Some p
    open_at = s.inner_is ∙ (passes_element (length rs) ns p (sym finds ∙ found)).1

    -- a text's level is at most its number
    pub text_end : {r : Result ℕ Refusal} (level : ℕ) → r ≡ next_level (length rs) ns → r ≡ Ok level → closed_count ns + level ≡ used
    text_end level is v =
        let t = passes_level (length rs) ns call.Text fit (going p open_at) (begun p open_at) refl refl refl level (sym is ∙ v) in
        omega (arith, new_level, t.1)

    pub texted : {r : Result ℕ Refusal} (level end : ℕ) → r ≡ next_level (length rs) ns → r ≡ Ok level → end ≡ used - level
        → Done rs used call.Text (Ok used) (set rs used (record { node = text (Some p) end; level = level })) (used + 1) (Some p)
    texted level end is v d =
        let c = call.Text in
        let t = passes_level (length rs) ns c fit (going p open_at) (begun p open_at) refl refl refl level (sym is ∙ v) in
        let l : used < length rs = omega (arith, t.2, size) in
        let n : end ≡ closed_count ns = omega (arith, text_end level is v) in
        let x : text (Some p) end ≡ text (innermost ns) (closed_count ns) = rw (inner_at p open_at, n) refl in
        stored c used (text (Some p) end) level (used + 1) (Some p) t.0 size l (omega arith) (λ k h o. omega arith)
        (nodes_push _ l ∙ ap (λ (y : Node). ns ++ y ∷ []) x)
        (x ∙ sym (get_or_push ns _ nowhere used size))
        (level_here (accepted ns c) level t.1 (text_level (length rs) ns well t.0))
        (sym ((text_counts (length rs) ns well t.0).innermost_is ∙ inner_at p open_at))

    pub text_refused : {r : Result ℕ Refusal} (e : Refusal) → r ≡ next_level (length rs) ns → r ≡ Err e → answered (length rs) ns call.Text ≡ Err e
    text_refused e is v = by_level (length rs) ns call.Text fit (going p open_at) (begun p open_at) refl refl e (sym is ∙ v)

    mismatched_is : (name : ℕ) (b : Bool) → eqb (get_or rs p blank).node.name name ≡ b → mismatched ns (call.Close name) ≡ not b
    mismatched_is name b h =
        let named : name_of ns p ≡ (get_or rs p blank).node.name = ap (λ (x : Node). x.name) (node-is p open_at) in
        rw (inner_at p open_at, named, h) refl

    pub other_named : (name : ℕ) → ((get_or rs p blank).node.name ≡ name → ⊥) → refused (length rs) ns (call.Close name) ≡ Some OtherName
    other_named name h =
        by_other_name (length rs) ns (call.Close name) fit (going p open_at) (begun p open_at) refl refl (mismatched_is name false (ne_eqb (get_or rs p blank).node.name name h))

    pub shut : (name end : ℕ) → (get_or rs p blank).node.name ≡ name → end ≡ used - ((get_or rs p blank).level + 1)
        → Done rs used (call.Close name) (Ok p) (set rs p (record { node = with_end (get_or rs p blank).node end; level = (get_or rs p blank).level })) used
        (get_or rs p blank).node.parent
    shut name end h d =
        let c = call.Close name in
        let i = inner_at p open_at in
        let l = there p open_at in
        let e : refused (length rs) ns c ≡ None =
        passes_close (length rs) ns c fit (going p open_at) (begun p open_at) refl refl (mismatched_is name true (eq-eqb (get_or rs p blank).node.name name h)) in
        let n : end ≡ closed_count ns = omega (arith, level_counts p open_at) in
        let x : with_end (get_or rs p blank).node end ≡ with_end (node_at ns p) (closed_count ns) = rw (node-is p open_at, n) refl in
        let new : set ns p (with_end (node_at ns p) (closed_count ns)) ≡ accepted ns c = rw i refl in
        let kept : level_of (accepted ns c) p ≡ level_of ns p =
        ap (λ (ms : List Node). level_of ms p) (sym (accepted_after (length rs) ns c e)) ∙ (calls_next (length rs) ns c well).stable.same_level p (omega (arith, size)) in
        stored c p (with_end (get_or rs p blank).node end) (get_or rs p blank).level used (get_or rs p blank).node.parent e (ap or_zero i) (within p open_at) s.fits (λ k a o. a)
        (nodes-set p _ l ∙ ap (set ns p) x ∙ new)
        (x ∙ sym (get_or-set_same ns p _ nowhere (omega (arith, size))) ∙ ap (λ (ms : List Node). node_at ms p) new)
        (s.levels p l ∙ sym kept)
        (ap (λ (y : Node). y.parent) (sym (node-is p open_at)) ∙ sym (close_counts (length rs) ns well name p i).innermost_is)

-- a call that is refused
module _ (t : RecordTable) (c : Call) where
  pub refused_at : (e : Refusal) (g : Ground) → refused (table_room t) (table_nodes t) c ≡ Some g → e ≡ refusal g 0 → Called table_nodes table_room t c (Err e) t
  refused_at e g h q = refuses e (rw (h, q) refl)

  -- the same of what a `?` answers
  pub refused_by : (e : Refusal) {r : Result ℕ Refusal} → IsErrAnd r (λ d. d ≡ e) → answered (table_room t) (table_nodes t) c ≡ Err e
      → Called table_nodes table_room t c r t
  refused_by e {r} a h = let p = err_from_is_err_and r a in rw (p.1, p.2) (refuses e h)

  -- memory for no node or for too many
  pub unfit_at : (e : Refusal) → true ≡ unfit (table_room t) → e ≡ refusal BadCapacity 0 → Called table_nodes table_room t c (Err e) t
  unfit_at e u q = refused_at e BadCapacity (by_capacity (table_room t) (table_nodes t) c (sym u)) q

  -- no element is open, and the call needs one
  pub needs_element : (e : Refusal) {f r : Result ℕ Refusal} → IsErrAnd r (λ d. d ≡ e) → early (table_nodes t) c ≡ eqb (length (table_nodes t)) 0
      → f ≡ inner_element (table_room t) (table_nodes t) → f ≡ Err e → Called table_nodes table_room t c r t
  needs_element e a when finds found = refused_by e a (by_element (table_nodes t) (well _ _ _ t.sound) (table_room t) c when e (sym finds ∙ found))
