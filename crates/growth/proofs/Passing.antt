-- Calls that are accepted, and what they leave.
use Rattle.std.proofs.Common.{◌≡◌, ℕ, ◌<◌, false, leb, List, length, Some, None, Option, refl, ap, subst, ◌∙◌, inl, inr, arith}
use Rattle.std.proofs.lemmas.Bool.{lt-leb}
use Rattle.std.proofs.lemmas.Bool.Decides.{nat_tests}
use Rattle.document.specs.declared.Kind.{Kind}
use Rattle.document.specs.declared.Node.{Node}
use Rattle.document.specs.declared.Call.{Call}
use Rattle.document.specs.declared.Call.TheVariants as call
use Rattle.document.specs.Document.{name_of, innermost, level_of}
use Rattle.document.specs.Calls.{ended, deep, mismatched, refused, accepted, Grown, more}
use Rattle.document.specs.Laws.{WellFormed}
use Rattle.document.proofs.Tests.{none_or_some}
use Rattle.document.proofs.Effects.{accepted_after}
use Rattle.document.proofs.Verdicts.{good_name, passes, passes_close, going_on, has_nodes}

-- nodes are the same where their fields are
abbrev node : Option ℕ → Kind → ℕ → ℕ → Node
node p k n e = record { parent = p; kind = k; name = n; end = e }

pub same_node : (x y : Node) → x.parent ≡ y.parent → x.kind ≡ y.kind → x.name ≡ y.name → x.end ≡ y.end → x ≡ y
same_node x y a b c d =
    ap (λ (v : Option ℕ). node v x.kind x.name x.end) a
    ∙ ap (λ (v : Kind). node y.parent v x.name x.end) b
    ∙ ap (λ (v : ℕ). node y.parent y.kind v x.end) c
    ∙ ap (λ (v : ℕ). node y.parent y.kind y.name v) d

-- an accepted call more
pub grown_by : (ns new : List Node) (c : Call) → refused 4096 ns c ≡ None → accepted ns c ≡ new → Grown ns → Grown new
grown_by ns new c e i g = subst Grown (accepted_after 4096 ns c e ∙ i) (more 4096 c g)

module _ (ns : List Node) (w : WellFormed ns) where
  pub close_passes : (p : ℕ) → innermost ns ≡ Some p → refused 4096 ns (call.Close (name_of ns p)) ≡ None
  close_passes p e =
      let m : mismatched ns (call.Close (name_of ns p)) ≡ false = rw e (grind (arith, nat_tests)) in
      passes_close 4096 ns (call.Close (name_of ns p)) refl (going_on ns w p e) (has_nodes ns w p e) refl refl m

  module _ (few : length ns < 4096) (shallow : (p : ℕ) → innermost ns ≡ Some p → level_of ns p < 63) where
    not_deep : deep ns (innermost ns) ≡ false
    not_deep = elim (none_or_some (innermost ns)) [ inl e ↦ rw e refl | inr s ↦ rw s.1 (lt-leb 63 (level_of ns s.0) (shallow s.0 s.1)) ]

    not_full : leb 4096 (length ns) ≡ false
    not_full = lt-leb 4096 (length ns) few

    pub open_passes : (name : ℕ) → 0 < name → name < 65535 → ended ns ≡ false → refused 4096 ns (call.Open name) ≡ None
    open_passes name a b e =
        passes 4096 ns (call.Open name) refl e refl (good_name name (λ z. omega arith) (omega arith)) refl not_deep not_full refl

    pub text_passes : (p : ℕ) → innermost ns ≡ Some p → refused 4096 ns call.Text ≡ None
    text_passes p e = passes 4096 ns call.Text refl (going_on ns w p e) (has_nodes ns w p e) refl refl not_deep not_full refl
