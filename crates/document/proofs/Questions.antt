-- What a question about one node answers, and how many elements are open.
use Rattle.std.proofs.Common.{◌≡◌, ℕ, zero, suc, ◌+◌, ◌<◌, ◌≤◌, Bool, not, List, length, Some, None, Ok, Err, Option, Result, IsOk, sym, refl, ◌∙◌, inl, inr, arith}
use Rattle.std.proofs.lemmas.Bool.{lt-ltb, le-ltb, cases_lt, cases_Bool, cond-true, cond-false}
use Rattle.refusal.specs.declared.Ground.TheVariants.{NoNode}
use Rattle.refusal.specs.declared.Refusal.{Refusal}
use Rattle.refusal.specs.Refusals.{refusal}
use Rattle.document.specs.declared.Node.{Node}
use Rattle.document.specs.Document.{asked, counted, is_open, node_at, innermost, closed_count, open_count, level_of}
use Rattle.document.specs.Laws.{WellFormed}
use Rattle.document.proofs.WellFormed.{inner}

module _ {X : Type 0} (ns : List Node) (n : ℕ) (f : ℕ → X) where
  pub asked_at : n < length ns → asked ns n f ≡ Ok (f n)
  asked_at l = cond-true _ _ _ (lt-ltb n (length ns) l)

  pub asked_past : length ns ≤ n → asked ns n f ≡ Err (refusal NoNode n)
  asked_past l = cond-false _ _ _ (le-ltb n (length ns) l)

  pub asked_ok : (x : X) → asked ns n f ≡ Ok x → (n < length ns) × (f n ≡ x)
  asked_ok x e = elim (cases_lt n (length ns)) [
    | inl l ↦ let a = asked_at l in (l, cc)
    | inr l ↦ let a = asked_past l in cc
  ]

both_counted : (f : ℕ → Bool) (n : ℕ) → counted f n + counted (λ m. not (f m)) n ≡ n
both_counted f zero = refl
both_counted f (suc n) = elim (cases_Bool (f n)) [ inl e ↦ rw e (omega (arith, both_counted f n)) | inr e ↦ rw e (omega (arith, both_counted f n)) ]

open_and_closed : (ns : List Node) → open_count ns + closed_count ns ≡ length ns
open_and_closed ns = both_counted (λ n. is_open (node_at ns n)) (length ns)

-- what the innermost open element tells, where o is it
module _ (ns : List Node) (w : WellFormed ns) (o : Option ℕ) (is : o ≡ innermost ns) where
  pub none_open : o ≡ None → open_count ns ≡ 0
  none_open e = omega (arith, open_and_closed ns, w.all_closed (sym is ∙ e))

  pub some_open : (p level : ℕ) → o ≡ Some p → (x : Result ℕ Refusal) → x ≡ asked ns p (level_of ns) → x ≡ Ok level → level + 1 ≡ open_count ns
  some_open p level e x a h = omega (arith, open_and_closed ns, w.counts_open p (sym is ∙ e), asked_ok ns p (level_of ns) level (sym a ∙ h))

  pub open_asked : (p : ℕ) → o ≡ Some p → (x : Result ℕ Refusal) → x ≡ asked ns p (level_of ns) → IsOk x
  open_asked p e x a = rw (a, asked_at ns p (level_of ns) (inner ns p (sym is ∙ e)).there) refl
