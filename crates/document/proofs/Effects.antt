-- What a call answers, and the counts and levels that it leaves.
use Rattle.std.proofs.Common.{◌≡◌, ℕ, suc, ◌+◌, ◌≤◌, List, length, Some, None, Ok, Err, sym, ap, ◌∙◌, inl, inr, arith}
use Rattle.std.proofs.lemmas.Bool.{ne_eqb}
use Rattle.document.specs.declared.Node.{Node}
use Rattle.document.specs.declared.Call.{Call}
use Rattle.refusal.specs.declared.Ground.{Ground}
use Rattle.refusal.specs.declared.Refusal.{Refusal}
use Rattle.document.specs.Document.{open_mark, parent_of, innermost, closed_count, level_of}
use Rattle.document.specs.Calls.{refused, or_zero, target, answered, element, text, accepted, after}
use Rattle.document.specs.Laws.{WellFormed, Counts, Leaves, CallsEffect}
use Rattle.document.proofs.Tests.{none_or_some}
use Rattle.document.proofs.WellFormed.{inner, closed_few}
use Rattle.document.proofs.Calls.{open_pushed, text_pushed, close_open, close_named, close_shut}
use Rattle.document.specs.declared.Call.TheVariants as call
use Rattle.document.proofs.Pushing as pushing
use Rattle.document.proofs.Shutting as shutting

pub accepted_after : (room : ℕ) (ns : List Node) (c : Call) → refused room ns c ≡ None → after room ns c ≡ accepted ns c
accepted_after room ns c e = rw e

pub refused_after : (room : ℕ) (ns : List Node) (c : Call) (g : Ground) → refused room ns c ≡ Some g → after room ns c ≡ ns
refused_after room ns c g e = rw e

pub answered_ok : (room : ℕ) (ns : List Node) (c : Call) (n : ℕ) → answered room ns c ≡ Ok n → (refused room ns c ≡ None) × (target ns c ≡ n)
answered_ok room ns c n a = elim (none_or_some (refused room ns c)) [
  | inl e ↦ let b = rw e at a in (e, cc)
  | inr g ↦ let b = rw g.1 at a in cc
]

pub answered_err : (room : ℕ) (ns : List Node) (c : Call) (r : Refusal) → answered room ns c ≡ Err r → (g : Ground) × (refused room ns c ≡ Some g)
answered_err room ns c r a = elim (none_or_some (refused room ns c)) [ inl e ↦ let b = rw e at a in cc | inr g ↦ g ]

module _ (room : ℕ) (ns : List Node) (w : WellFormed ns) where
  pub open_counts : (name : ℕ) → refused room ns (call.Open name) ≡ None
      → Counts (accepted ns (call.Open name)) (suc (length ns)) (closed_count ns) (Some (length ns))
  open_counts name e =
      let x = element (innermost ns) name in
      let s = open_pushed room ns name e in
      record {
        node_count = s.longer;
        end_count = pushing.count_new ns (accepted ns (call.Open name)) x w s;
        innermost_is = pushing.inner_new ns (accepted ns (call.Open name)) x w s;
      }

  pub text_counts : refused room ns call.Text ≡ None → Counts (accepted ns call.Text) (suc (length ns)) (suc (closed_count ns)) (innermost ns)
  text_counts e =
      let x = text (innermost ns) (closed_count ns) in
      let s = text_pushed room ns e in
      let t = ne_eqb (closed_count ns) open_mark (λ o. omega (arith, closed_few ns, w.bounded)) in
      record {
        node_count = s.longer;
        end_count = pushing.count_new ns (accepted ns call.Text) x w s ∙ rw t;
        innermost_is = pushing.inner_new ns (accepted ns call.Text) x w s ∙ rw t;
      }

  pub close_counts : (name p : ℕ) → innermost ns ≡ Some p → Counts (accepted ns (call.Close name)) (length ns) (suc (closed_count ns)) (parent_of ns p)
  close_counts name p i =
      let s = close_shut room ns name p i in
      record {
        node_count = s.long;
        end_count = shutting.count_new ns (accepted ns (call.Close name)) p w s;
        innermost_is = shutting.inner_new ns (accepted ns (call.Close name)) p w s;
      }

  -- a new node's level and the ends given so far make its number
  pub open_level : (name : ℕ) → refused room ns (call.Open name) ≡ None
      → closed_count ns + level_of (accepted ns (call.Open name)) (length ns) ≡ length ns
  open_level name e = pushing.lev_new ns (accepted ns (call.Open name)) (element (innermost ns) name) w (open_pushed room ns name e)

  pub text_level : refused room ns call.Text ≡ None → closed_count ns + level_of (accepted ns call.Text) (length ns) ≡ length ns
  text_level e = pushing.lev_new ns (accepted ns call.Text) (text (innermost ns) (closed_count ns)) w (text_pushed room ns e)

  leaves : (c : Call) (n : ℕ) → refused room ns c ≡ None → target ns c ≡ n → Leaves ns c n
  leaves (call.Open name) n e t = (sym t, open_counts name e)
  leaves call.Text n e t = (sym t, text_counts e)
  leaves (call.Close name) n e t =
      let q = close_open room ns name e in
      let i : innermost ns ≡ Some n = q.1 ∙ ap Some (sym (ap or_zero q.1) ∙ t) in
      (i, close_named room ns name n e i, close_counts name n i)

  new_level : (c : Call) (n : ℕ) → refused room ns c ≡ None → target ns c ≡ n → length ns ≤ n → closed_count ns + level_of (accepted ns c) n ≡ n
  new_level (call.Open name) n e t l = rw (← t) (open_level name e)
  new_level call.Text n e t l = rw (← t) (text_level e)
  new_level (call.Close name) n e t l =
      let q = leaves (call.Close name) n e t in
      absurd (omega (arith, (inner ns n q.0).there))

pub calls_effect : CallsEffect
calls_effect room ns c w = record {
  on_err = λ r a. let e = answered_err room ns c r a in refused_after room ns c e.0 e.1;
  on_ok = λ n a. let o = answered_ok room ns c n a in (accepted_after room ns c o.0, leaves room ns w c n o.0 o.1);
  new_level = λ n a. let o = answered_ok room ns c n a in new_level room ns w c n o.0 o.1;
}
