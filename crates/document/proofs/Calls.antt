-- A call pushes a node, shuts the innermost one or is refused; so it leaves a next state, and every document that calls leave is well formed.
use Rattle.std.proofs.Common.{◌≡◌, ℕ, ◌<◌, ◌≤◌, Bool, true, false, cond, ◌&&◌, eqb, leb, List, [], ◌∷◌, ◌++◌, length, set, Some, None, Option, sym, refl, ap, ◌∙◌, inl, inr, arith}
use Rattle.std.specs.List.{AllByRecursion as All}
use Rattle.std.proofs.lemmas.Bool.{leb-false, eqb-false, or_parts}
use Rattle.std.proofs.lemmas.Bool.Decides.{nat_tests}
use Rattle.std.proofs.lemmas.List.{length_push, get_or_push, get_or_append_left, get_or-set_same, get_or-set_other, length-set}
use Rattle.document.specs.declared.Kind.TheVariants.{Element}
use Rattle.document.specs.declared.Node.{Node}
use Rattle.document.specs.declared.Call.{Call}
use Rattle.refusal.specs.declared.Ground.{Ground}
use Rattle.document.specs.Document.{nowhere, node_at, name_of, innermost, closed_count, level_of}
use Rattle.document.specs.Calls.{unfit, ended, early, misnamed, adds, deep, mismatched, grounds, first_of, refused, element, text, with_end, accepted, after, Grown, blank, more, run}
use Rattle.document.specs.Laws.{WellFormed, GrownWell, Next, CallsNext, RunsStable}
use Rattle.document.proofs.Tests.{none_or_some}
use Rattle.document.proofs.WellFormed.{inner, no_inner, blank_well}
use Rattle.document.proofs.Stability.{stable_same, stable_trans, next_same}
use Rattle.document.proofs.Pushing.{Fresh, Pushed, push_next}
use Rattle.document.proofs.Shutting.{Shut, shut_next}
use Rattle.document.specs.declared.Call.TheVariants as call

abbrev Fails : Bool × Ground → Type 0
Fails t = t.0 ≡ false

none_first : (b : Bool) (g : Ground) (o : Option Ground) → cond b (Some g) o ≡ None → (b ≡ false) × (o ≡ None)
none_first true g o e = cc
none_first false g o e = (refl, e)

all_fail : (ts : List (Bool × Ground)) → first_of ts ≡ None → All Fails ts
all_fail [] e = tt
all_fail (t ∷ ts) e = let f = none_first t.0 t.1 (first_of ts) e in (f.0, all_fail ts f.1)

-- where a call is accepted, none of its grounds holds
record Passed (room : ℕ) (ns : List Node) (c : Call) : Type 0 where
  fit : unfit room ≡ false
  going : ended ns ≡ false
  begun : early ns c ≡ false
  named : misnamed c ≡ false
  shallow : (adds c && deep ns (innermost ns)) ≡ false
  spare : (adds c && leb room (length ns)) ≡ false
  matched : mismatched ns c ≡ false

passed : (room : ℕ) (ns : List Node) (c : Call) → refused room ns c ≡ None → Passed room ns c
unfolding refused
passed room ns c e =
    let t = all_fail (grounds room ns c) e in
    record {
      fit = t.0;
      going = t.1.0;
      begun = t.1.1.0;
      named = t.1.1.1.0;
      shallow = t.1.1.1.1.0;
      spare = t.1.1.1.1.1.0;
      matched = t.1.1.1.1.1.1.0;
    }

small_room : (room : ℕ) → unfit room ≡ false → room ≤ 4096
small_room room e = grind (arith, nat_tests)

-- where the document has not ended, some node is open unless none is there
none_there : (ns : List Node) → ended ns ≡ false → innermost ns ≡ None → length ns ≡ 0
none_there ns g e = let never = no_inner ns e 0 in grind (arith, nat_tests)

pushed : (ns : List Node) (x : Node) → x.parent ≡ innermost ns → Fresh ns x → ended ns ≡ false
    → (length ns ≡ 0 → x.kind ≡ Element) → length ns < 4096 → deep ns (innermost ns) ≡ false → Pushed ns (ns ++ x ∷ []) x
pushed ns x i f g r l d = record {
  longer = omega (arith, length_push ns x);
  old = λ n k. get_or_append_left ns (x ∷ []) nowhere n k;
  here = get_or_push ns x nowhere (length ns) refl;
  parent = i;
  fresh = f;
  first = none_there ns g;
  rooted = r;
  room = l;
  fits = λ p e. leb-false 63 (level_of ns p) (ap (deep ns) (sym e) ∙ d);
}

shut : (ns : List Node) (p : ℕ) → innermost ns ≡ Some p → Shut ns (set ns p (with_end (node_at ns p) (closed_count ns))) p
shut ns p e = record {
  long = length-set ns p (with_end (node_at ns p) (closed_count ns));
  other = λ n ne. get_or-set_other ns p n (with_end (node_at ns p) (closed_count ns)) nowhere ne;
  here = get_or-set_same ns p (with_end (node_at ns p) (closed_count ns)) nowhere (inner ns p e).there;
  innermost_was = e;
}

-- what each kind of call does where it is accepted
module _ (room : ℕ) (ns : List Node) where
  pub open_pushed : (name : ℕ) → refused room ns (call.Open name) ≡ None → Pushed ns (accepted ns (call.Open name)) (element (innermost ns) name)
  open_pushed name e =
      let t = passed room ns (call.Open name) e in
      let m = or_parts (eqb name 0) (leb 65535 name) t.named in
      let nonzero = eqb-false name 0 m.0 in
      pushed ns (element (innermost ns) name) refl
      (inl (refl, refl, omega arith, leb-false 65535 name m.1))
      t.going
      (λ z. refl)
      (omega (arith, small_room room t.fit, leb-false room (length ns) t.spare))
      t.shallow

  pub text_pushed : refused room ns call.Text ≡ None → Pushed ns (accepted ns call.Text) (text (innermost ns) (closed_count ns))
  text_pushed e =
      let t = passed room ns call.Text e in
      pushed ns (text (innermost ns) (closed_count ns)) refl
      (inr (refl, refl, refl))
      t.going
      (λ z. absurd (eqb-false (length ns) 0 t.begun z))
      (omega (arith, small_room room t.fit, leb-false room (length ns) t.spare))
      t.shallow

  pub close_open : (name : ℕ) → refused room ns (call.Close name) ≡ None → (p : ℕ) × (innermost ns ≡ Some p)
  close_open name e =
      let t = passed room ns (call.Close name) e in
      elim (none_or_some (innermost ns)) [ inl i ↦ absurd (eqb-false (length ns) 0 t.begun (none_there ns t.going i)) | inr p ↦ p ]

  pub close_named : (name p : ℕ) → refused room ns (call.Close name) ≡ None → innermost ns ≡ Some p → name_of ns p ≡ name
  close_named name p e i =
      let m = rw i at (passed room ns (call.Close name) e).matched in
      grind (arith, nat_tests)

  pub close_shut : (name p : ℕ) → innermost ns ≡ Some p → Shut ns (accepted ns (call.Close name)) p
  close_shut name p i = rw i (shut ns p i)

accepted_next : (room : ℕ) (ns : List Node) (c : Call) → WellFormed ns → refused room ns c ≡ None → Next ns (accepted ns c)
accepted_next room ns (call.Open name) w e = push_next ns (accepted ns (call.Open name)) (element (innermost ns) name) w (open_pushed room ns name e)
accepted_next room ns call.Text w e = push_next ns (accepted ns call.Text) (text (innermost ns) (closed_count ns)) w (text_pushed room ns e)
accepted_next room ns (call.Close name) w e =
    let p = close_open room ns name e in
    shut_next ns (accepted ns (call.Close name)) p.0 w (close_shut room ns name p.0 p.1)

pub calls_next : CallsNext
calls_next room ns c w = elim (none_or_some (refused room ns c)) [
  | inl e ↦ rw e (accepted_next room ns c w e)
  | inr g ↦ rw g.1 (next_same ns w)
]

pub grown_well : GrownWell
grown_well ns g = go g
  where
    go : {ns : List Node} → Grown ns → WellFormed ns
    go blank = blank_well
    go (more {ns} room c g) = (calls_next room ns c (go g)).well

pub runs_stable : RunsStable
runs_stable room ns [] w = (stable_same ns, w)
runs_stable room ns (c ∷ cs) w =
    let n = calls_next room ns c w in
    let r = runs_stable room (after room ns c) cs n.well in
    (stable_trans ns (after room ns c) (run room (after room ns c) cs) n.stable r.0, r.1)
