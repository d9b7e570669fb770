-- A feed is read record by record.
use Rattle.std.proofs.Common.{◌≡◌, ℕ, ◌+◌, ◌*◌, ◌/◌, ◌<◌, ◌≤◌, min, Bool, true, false, cond, List, [], ◌∷◌, ◌++◌, length, take, Some, None, Ok, Err, Option, Result, sym, refl, ap, ap₂, ◌∙◌, subst, inl, inr, arith}
use Rattle.std.proofs.lemmas.List.{append-nil, append_assoc, length-append, length_push, get_or_append_left, get_or-append-add, get_or_past, take_at, take_all, nil_from_length}
use Rattle.std.proofs.lemmas.Bool.{cases_lt}
use Rattle.refusal.specs.declared.Ground.TheVariants.{BadCapacity, BadRecord}
use Rattle.refusal.specs.declared.Refusal.{Refusal}
use Rattle.refusal.specs.Refusals.{refusal}
use Rattle.document.specs.declared.Node.{Node}
use Rattle.document.specs.declared.Call.{Call}
use Rattle.document.specs.declared.Call.TheVariants as call
use Rattle.document.specs.Document.{closed_count}
use Rattle.document.specs.Calls.{unfit, answered, accepted, after, run}
use Rattle.document.specs.Laws.{WellFormed, Leaves}
use Rattle.document.proofs.WellFormed.{closed_few}
use Rattle.document.proofs.Calls.{calls_next, runs_stable}
use Rattle.document.proofs.Effects.{calls_effect, answered_err, refused_after}
use Rattle.feed.specs.Records.{encoded, decoded}
use Rattle.feed.specs.Feeds.{answered_by, after_by, record_answered, Recorded, encoded_all, Accepted, Read, FedTo}
use Rattle.feed.proofs.Exact.{Bytes, four, exact}

bytes_left : (xs ys : List ℕ) → Bytes (xs ++ ys) → Bytes xs
bytes_left xs ys b i = elim (cases_lt i (length xs)) [
  | inl l ↦ rw (get_or_append_left xs ys 0 i l) at (b i)
  | inr l ↦ rw (get_or_past xs i 0 l) (omega arith)
]

bytes_right : (xs ys : List ℕ) → Bytes (xs ++ ys) → Bytes ys
bytes_right xs ys b i = rw (get_or-append-add xs ys i 0) at (b (length xs + i))

encoded_push : (cs : List Call) (c : Call) → encoded_all (cs ++ c ∷ []) ≡ encoded_all cs ++ encoded c
encoded_push [] c = append-nil (encoded c)
encoded_push (d ∷ cs) c = ap (λ (bs : List ℕ). encoded d ++ bs) (encoded_push cs c) ∙ sym (append_assoc (encoded d) (encoded_all cs) (encoded c))

run_push : (room : ℕ) (ns : List Node) (cs : List Call) (c : Call) → run room ns (cs ++ c ∷ []) ≡ after room (run room ns cs) c
run_push room ns [] c = refl
run_push room ns (d ∷ cs) c = run_push room (after room ns d) cs c

accepted_push : (room : ℕ) (ns : List Node) (cs : List Call) (c : Call) (n : ℕ) → Accepted room ns cs → answered room (run room ns cs) c ≡ Ok n → Accepted room ns (cs ++ c ∷ [])
accepted_push room ns [] c n a e = ((n, e), tt)
accepted_push room ns (d ∷ cs) c n a e = (a.0, accepted_push room (after room ns d) cs c n a.1 e)

-- a record that is not refused stands for a call
called : (room : ℕ) (ns : List Node) (i : ℕ) (bs : List ℕ) (n : ℕ) → record_answered room ns i bs ≡ Ok n → (c : Call) × (decoded bs ≡ Some c) × (answered room ns c ≡ Ok n)
called room ns i bs n e = go (decoded bs) refl e
  where
    bad : (b : Bool) → cond b (Err (refusal BadCapacity 0)) (Err (refusal BadRecord i)) ≡ Ok n → ⊥
    bad true h = cc
    bad false h = cc

    go : (o : Option Call) → decoded bs ≡ o → answered_by room ns i o ≡ Ok n → (c : Call) × (decoded bs ≡ Some c) × (answered room ns c ≡ Ok n)
    go None d h = absurd (bad (unfit room) h)
    go (Some c) d h = (c, d, h)

read_more : {room : ℕ} {ns new new' : List Node} {bs rest tail : List ℕ} {count : ℕ} → Bytes bs → Read room ns bs count rest new
    → (part : List ℕ) → rest ≡ part ++ tail → (n : ℕ) → record_answered room new count part ≡ Ok n → new' ≡ after_by room new (decoded part)
    → Read room ns bs (count + 1) tail new'
read_more {room} {ns} {new} {new'} {bs} {rest} {tail} {count} bytes r part e n a m =
    let k = called room new count part n a in
    let c : Call = k.0 in
    let all : Bytes (encoded_all r.calls ++ rest) = subst Bytes r.split bytes in
    let some : Bytes (part ++ tail) = subst Bytes e (bytes_right (encoded_all r.calls) rest all) in
    let is : part ≡ encoded c = (exact part (bytes_left part tail some) c).0 k.1 in
    record {
      calls = r.calls ++ c ∷ [];
      split = r.split ∙ ap (λ (xs : List ℕ). encoded_all r.calls ++ xs) (e ∙ ap (λ (xs : List ℕ). xs ++ tail) is)
          ∙ sym (append_assoc (encoded_all r.calls) (encoded c) tail)
          ∙ ap (λ (xs : List ℕ). xs ++ tail) (sym (encoded_push r.calls c));
      counted = omega (arith, r.counted, length_push r.calls c);
      accepted = accepted_push room ns r.calls c n r.accepted (subst (λ (ms : List Node). answered room ms c ≡ Ok n) r.leaves k.2);
      leaves = m ∙ ap (after_by room new) k.1 ∙ ap (λ (ms : List Node). after room ms c) r.leaves ∙ sym (run_push room ns r.calls c);
    }

-- the next record, as the iterator gives it
next_record : (rest part tail : List ℕ) → rest ≡ part ++ tail → length part ≡ min 4 (length rest) → take 4 rest ≡ part
next_record rest part tail e l = elim (cases_lt 3 (length rest)) [
  | inl h ↦ ap (take 4) e ∙ take_at part tail 4 (omega arith)
  | inr h ↦
      let none : tail ≡ [] = nil_from_length tail (omega (arith, ap length e, length-append part tail)) in
      take_all 4 rest (omega arith) ∙ e ∙ ap (λ (xs : List ℕ). part ++ xs) none ∙ append-nil part
]

refused_record : (room : ℕ) (ns : List Node) (i : ℕ) (bs : List ℕ) (e : Refusal) → record_answered room ns i bs ≡ Err e → after_by room ns (decoded bs) ≡ ns
refused_record room ns i bs e h = go (decoded bs) h
  where
    go : (o : Option Call) → answered_by room ns i o ≡ Err e → after_by room ns o ≡ ns
    go None k = refl
    go (Some c) k = let a = answered_err room ns c e k in refused_after room ns c a.0 a.1

-- an accepted call begins a node or closes one, or both
counts_up : (room : ℕ) (ns : List Node) (c : Call) (n : ℕ) → WellFormed ns → answered room ns c ≡ Ok n
    → length ns + closed_count ns < length (after room ns c) + closed_count (after room ns c)
counts_up room ns c n w e =
    let o = (calls_effect room ns c w).on_ok n e in
    subst (λ (ms : List Node). length ns + closed_count ns < length ms + closed_count ms) (sym o.0) (go c o.1)
  where
    go : (d : Call) → Leaves ns d n → length ns + closed_count ns < length (accepted ns d) + closed_count (accepted ns d)
    go (call.Open name) l = omega (arith, l.1.node_count, l.1.end_count)
    go call.Text l = omega (arith, l.1.node_count, l.1.end_count)
    go (call.Close name) l = omega (arith, l.2.node_count, l.2.end_count)

few_calls : (room : ℕ) (ns : List Node) (cs : List Call) → WellFormed ns → Accepted room ns cs
    → length cs + length ns + closed_count ns ≤ length (run room ns cs) + closed_count (run room ns cs)
few_calls room ns [] w a = omega arith
few_calls room ns (c ∷ cs) w a =
    let up = counts_up room ns c a.0.0 w a.0.1 in
    let rest = few_calls room (after room ns c) cs (calls_next room ns c w).well a.1 in
    omega arith

encoded_length : (cs : List Call) → length (encoded_all cs) ≡ 4 * length cs
encoded_length [] = refl
encoded_length (c ∷ cs) = omega (arith, length-append (encoded c) (encoded_all cs), four c, encoded_length cs)

-- where nothing is left, every record is whole
read_whole : {room : ℕ} {ns new : List Node} {bs rest : List ℕ} {count : ℕ} → Read room ns bs count rest new → rest ≡ [] → count ≡ length bs / 4
read_whole {rest = rest} r e = omega (arith, ap length r.split, ap length e, length-append (encoded_all r.calls) rest, encoded_length r.calls, r.counted)

pub read_few : {room : ℕ} {ns new : List Node} {bs rest : List ℕ} {count : ℕ} → WellFormed ns → Read room ns bs count rest new → count ≤ 8192
read_few {room} {ns} w r =
    let new = run room ns r.calls in
    let end = (runs_stable room ns r.calls w).1 in
    omega (arith, few_calls room ns r.calls w r.accepted, r.counted, closed_few new, end.bounded)

-- what stands at the start of a turn, of any implementation
pub record SoFar {S : Type 0} (nodes : S → List Node) (room : S → ℕ) (was : S) (bs : List ℕ) (count : ℕ) (rest : List ℕ) (is : S) : Type 0 where
  pub read : Read (room was) (nodes was) bs count rest (nodes is)
  pub same_room : room is ≡ room was

pub finishes : {S : Type 0} {nodes : S → List Node} {room : S → ℕ} {was is : S} {bs rest : List ℕ} {count : ℕ} → WellFormed (nodes was)
    → SoFar nodes room was bs count rest is → length rest ≡ 0 → (all : ℕ) → all ≡ length bs / 4 → FedTo nodes room was bs all None is
finishes {nodes = nodes} {room = room} {was = was} {is = is} {bs = bs} {rest = rest} {count = count} w f l all e =
    let none : rest ≡ [] = nil_from_length rest l in
    let same : all ≡ count = e ∙ sym (read_whole f.read none) in
    rw same (record {
      feeds = record { rest = rest; read = f.read; ended = none };
      few = read_few w f.read;
      same_room = f.same_room;
    })

-- record i, the next one
module _ {S : Type 0} {nodes : S → List Node} {room : S → ℕ} {was is new : S} {bs rest : List ℕ} {count i : ℕ} {r : Result ℕ Refusal}
    (f : SoFar nodes room was bs count rest is) (at : i ≡ count) (part tail : List ℕ) (cut : rest ≡ part ++ tail) (d : Recorded nodes room is i part r new) where
  answer : record_answered (room was) (nodes is) count part ≡ r
  answer = ap₂ (λ (m j : ℕ). record_answered m (nodes is) j part) (sym f.same_room) (sym at) ∙ sym d.answer

  leaves : nodes new ≡ after_by (room was) (nodes is) (decoded part)
  leaves = d.leaves ∙ ap (λ (m : ℕ). after_by m (nodes is) (decoded part)) f.same_room

  pub goes_on : Bytes bs → (n : ℕ) → r ≡ Ok n → (next : ℕ) → next ≡ count + 1 → SoFar nodes room was bs next tail new
  goes_on bytes n h next e = rw e (record {
    read = read_more bytes f.read part cut n (answer ∙ h) leaves;
    same_room = d.same_room ∙ f.same_room;
  })

  pub stops : WellFormed (nodes was) → length part ≡ min 4 (length rest) → 0 < length rest → (e : Refusal) → r ≡ Err e → (before : ℕ) → before ≡ i → FedTo nodes room was bs before (Some e) new
  stops w l some x h before same_count =
      let same : nodes new ≡ nodes is = leaves ∙ refused_record (room was) (nodes is) count part x (answer ∙ h) in
      let read : Read (room was) (nodes was) bs count rest (nodes new) = rw same f.read in
      rw (same_count ∙ at) (record {
        feeds = record { rest = rest; read = read; ended = (some, rw (same, next_record rest part tail cut l) (answer ∙ h)) };
        few = read_few w read;
        same_room = d.same_room ∙ f.same_room;
      })
