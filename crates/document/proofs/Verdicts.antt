-- From an implementation's tests to what a call answers.
use Rattle.std.proofs.Common.{◌≡◌, ℕ, ◌<◌, ◌≤◌, true, false, eqb, ltb, leb, ◌⊎◌, List, length, Some, None, Ok, Err, sym, refl, ◌∙◌, inl, inr, arith}
use Rattle.std.proofs.lemmas.Bool.{eqb-true, ne_eqb, lt-ltb, and_parts, and_from, cases_Bool, false_from_ne_true}
use Rattle.std.proofs.lemmas.Bool.Decides.{nat_tests}
use Rattle.refusal.specs.declared.Ground.TheVariants.{BadCapacity, Ended, NotBegun, BadName, TooDeep, Full, OtherName}
use Rattle.refusal.specs.declared.Refusal.{Refusal}
use Rattle.document.specs.declared.Node.{Node}
use Rattle.document.specs.declared.Call.{Call}
use Rattle.document.specs.declared.Call.TheVariants.{Open}
use Rattle.document.specs.Document.{closed, innermost, one_above, level_of}
use Rattle.document.specs.Calls.{unfit, ended, early, misnamed, adds, deep, mismatched, refused, idle, inner_element, next_level, answered, Called}
use Rattle.document.specs.Laws.{WellFormed}
use Rattle.document.proofs.Tests.{end_closed, none_or_some}
use Rattle.document.proofs.WellFormed.{inner, no_inner, closed_before}
use Rattle.document.proofs.Effects.{answered_err, refused_after}
use Rattle.document.proofs.Laws as laws

pub bad_name : (name : ℕ) → (name ≡ 0) ⊎ ((name ≡ 0 → ⊥) × (65534 < name)) → misnamed (Open name) ≡ true
bad_name name e = grind (arith, nat_tests)

pub good_name : (name : ℕ) → (name ≡ 0 → ⊥) → name ≤ 65534 → misnamed (Open name) ≡ false
good_name name a b = grind (arith, nat_tests)

module _ (room : ℕ) (ns : List Node) (c : Call) where
  pub by_capacity : unfit room ≡ true → refused room ns c ≡ Some BadCapacity
  unfolding refused
  by_capacity a = rw a

  module _ (fit : unfit room ≡ false) where
    pub by_end : ended ns ≡ true → refused room ns c ≡ Some Ended
    unfolding refused
    by_end a = rw (fit, a)

    module _ (going : ended ns ≡ false) where
      pub by_begin : early ns c ≡ true → refused room ns c ≡ Some NotBegun
      unfolding refused
      by_begin a = rw (fit, going, a)

      module _ (begun : early ns c ≡ false) where
        pub by_name : misnamed c ≡ true → refused room ns c ≡ Some BadName
        unfolding refused
        by_name a = rw (fit, going, begun, a)

        module _ (named : misnamed c ≡ false) where
          by_depth : adds c ≡ true → deep ns (innermost ns) ≡ true → refused room ns c ≡ Some TooDeep
          unfolding refused
          by_depth a d = rw (fit, going, begun, named, a, d)

          by_room : adds c ≡ true → deep ns (innermost ns) ≡ false → leb room (length ns) ≡ true → refused room ns c ≡ Some Full
          unfolding refused
          by_room a d l = rw (fit, going, begun, named, a, d, l)

          pub passes : adds c ≡ true → deep ns (innermost ns) ≡ false → leb room (length ns) ≡ false → mismatched ns c ≡ false → refused room ns c ≡ None
          unfolding refused
          passes a d l m = rw (fit, going, begun, named, a, d, l, m)

          pub by_other_name : adds c ≡ false → mismatched ns c ≡ true → refused room ns c ≡ Some OtherName
          unfolding refused
          by_other_name a m = rw (fit, going, begun, named, a, m)

          pub passes_close : adds c ≡ false → mismatched ns c ≡ false → refused room ns c ≡ None
          unfolding refused
          passes_close a m = rw (fit, going, begun, named, a, m)

          -- a call that adds a node, by its level
          pub by_level : adds c ≡ true → (e : Refusal) → next_level room ns ≡ Err e → answered room ns c ≡ Err e
          by_level a e n = grind (arith, cases_Bool, by_depth, by_room)

          pub passes_level : adds c ≡ true → mismatched ns c ≡ false → (level : ℕ) → next_level room ns ≡ Ok level
              → (refused room ns c ≡ None) × (level ≡ one_above (level_of ns) (innermost ns)) × (length ns < room)
          passes_level a m level n = grind (arith, nat_tests, cases_Bool, passes)

module _ (ns : List Node) (w : WellFormed ns) where
  -- where an element is open, the document has begun and not ended
  pub going_on : (p : ℕ) → innermost ns ≡ Some p → ended ns ≡ false
  going_on p e = false_from_ne_true (ended ns) (λ b.
      let t = and_parts (ltb 0 (length ns)) (closed ns 0) b in
      let l : 0 < length ns = omega (arith, (inner ns p e).there) in
      let n = laws.ended_all ns w l (closed_before ns w 0 (record { there = l; ended = t.1 })) in
      cc)

  pub has_nodes : (p : ℕ) → innermost ns ≡ Some p → eqb (length ns) 0 ≡ false
  has_nodes p e = ne_eqb (length ns) 0 (λ z. omega (arith, (inner ns p e).there))

  -- where none is open, it has no nodes or has ended
  pub all_ended : innermost ns ≡ None → 0 < length ns → ended ns ≡ true
  all_ended e l = and_from _ _ (lt-ltb 0 (length ns) l) (end_closed ns 0 l (no_inner ns e 0 l)).ended

  pub not_ended : length ns ≡ 0 → ended ns ≡ false
  not_ended e = rw e

  pub idle_refused : (room : ℕ) (c : Call) → unfit room ≡ false → early ns c ≡ eqb (length ns) 0 → innermost ns ≡ None → refused room ns c ≡ Some (idle (length ns))
  idle_refused room c fit when e = elim (cases_Bool (eqb (length ns) 0)) [
    | inl b ↦ rw b (by_begin room ns c fit (not_ended (eqb-true (length ns) 0 b)) (when ∙ b))
    | inr b ↦ rw b (by_end room ns c fit (all_ended e (grind (arith, nat_tests))))
  ]

  -- a call that needs an open element, by what it finds
  pub by_element : (room : ℕ) (c : Call) → early ns c ≡ eqb (length ns) 0 → (e : Refusal) → inner_element room ns ≡ Err e → answered room ns c ≡ Err e
  by_element room c when e n = grind (arith, cases_Bool, none_or_some, by_capacity, idle_refused)

pub passes_element : (room : ℕ) (ns : List Node) (p : ℕ) → inner_element room ns ≡ Ok p → (unfit room ≡ false) × (innermost ns ≡ Some p)
passes_element room ns p n = grind (arith, cases_Bool, none_or_some)

-- a refused call leaves the value as it is
pub refuses : {S : Type 0} {nodes : S → List Node} {room : S → ℕ} {was : S} {c : Call} (e : Refusal) → answered (room was) (nodes was) c ≡ Err e
    → Called nodes room was c (Err e) was
refuses {nodes = nodes} {room = room} {was = was} {c = c} e a =
    let g = answered_err (room was) (nodes was) c e a in
    record { answer = sym a; leaves = sym (refused_after (room was) (nodes was) c g.0 g.1); same_room = refl }
