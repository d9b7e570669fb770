-- A document that fits, with the outermost ended element over its last node open again, fits; and a call closed that element.
use Rattle.std.proofs.Common.{◌≡◌, ℕ, suc, ◌<◌, ◌≤◌, not, ◌⊎◌, List, length, set, Some, Option, sym, refl, ap, ◌∙◌, subst, inl, inr, arith}
use Rattle.std.proofs.lemmas.Bool.{cases_eq, cases_lt, cases_order, eq-eqb, ne_eqb}
use Rattle.std.proofs.lemmas.List.{length-set, get_or-set_same, get_or-set_other, set-set, set-get_or}
use Rattle.document.specs.declared.Kind.TheVariants.{Element}
use Rattle.document.specs.declared.Node.{Node}
use Rattle.document.specs.declared.Call.TheVariants as call
use Rattle.document.specs.Document.{open_mark, nowhere, node_at, parent_of, kind_of, name_of, end_of, is_open, counted, innermost, closed_count, level_of}
use Rattle.document.specs.Calls.{or_zero, with_end, Grown}
use Rattle.document.specs.Laws.{Above}
use Rattle.document.proofs.Tests.{none_or_some}
use Rattle.document.proofs.Counts.{counted_more}
use Rattle.document.proofs.Levels.{ParentsFirst, level_same}
use Rattle.document.proofs.WellFormed.{inner, no_inner}
use Rattle.document.proofs.Calls.{grown_well}
use Rattle.growth.proofs.Fit.{UnderOpen, Opened, Ended, Fit, less, above_between, above_there, above_along, ended_not_open, open_up}
use Rattle.growth.proofs.Passing.{same_node, grown_by, close_passes}

-- the outermost ended element over the last node m, or that node itself
pub record Outermost (ns : List Node) (m y : ℕ) : Type 0 where
  pub ended : Ended ns y
  pub kind : kind_of ns y ≡ Element
  pub over : (y ≡ m) ⊎ Above ns y m
  pub parent : UnderOpen ns y

-- y open again
abbrev pub reopened : List Node → ℕ → List Node
reopened ns y = set ns y (with_end (node_at ns y) open_mark)

module _ (ns : List Node) (w : Fit ns) (m : ℕ) (long : suc m ≡ length ns) (y : ℕ) (s : Outermost ns m y) where
  abbrev again : List Node
  again = reopened ns y

  here_less : y ≤ m
  here_less = elim s.over [ inl i ↦ omega arith | inr a ↦ omega (arith, less ns w a) ]

  new_long : length again ≡ length ns
  new_long = length-set ns y (with_end (node_at ns y) open_mark)

  here : node_at again y ≡ with_end (node_at ns y) open_mark
  here = get_or-set_same ns y (with_end (node_at ns y) open_mark) nowhere (omega (arith, here_less))

  other : (n : ℕ) → (n ≡ y → ⊥) → node_at again n ≡ node_at ns n
  other n ne = get_or-set_other ns y n (with_end (node_at ns y) open_mark) nowhere ne

  kept : {A : Type 0} (f : Node → A) → f (with_end (node_at ns y) open_mark) ≡ f (node_at ns y) → (n : ℕ) → f (node_at again n) ≡ f (node_at ns n)
  kept f h n = elim (cases_eq n y) [
    | inl i ↦ ap (λ (k : ℕ). f (node_at again k)) i ∙ ap f here ∙ h ∙ ap (λ (k : ℕ). f (node_at ns k)) (sym i)
    | inr ne ↦ ap f (other n ne)
  ]

  par : (n : ℕ) → parent_of again n ≡ parent_of ns n
  par = kept (λ x. x.parent) refl

  kin : (n : ℕ) → kind_of again n ≡ kind_of ns n
  kin = kept (λ x. x.kind) refl

  nam : (n : ℕ) → name_of again n ≡ name_of ns n
  nam = kept (λ x. x.name) refl

  up_new : ParentsFirst again
  up_new n p l e = w.up n p (omega (arith, new_long)) (sym (par n) ∙ e)

  inn : (n : ℕ) → n < length again → n < length ns
  inn n l = omega (arith, new_long)

  lev : (n : ℕ) → n < length ns → level_of again n ≡ level_of ns n
  lev n l = level_same ns w.up again (λ k h. par k) n l

  to_new : {x z : ℕ} → Above ns x z → Above again x z
  to_new a = above_along ns again w.up (length ns) (λ n l. par n) (above_there ns a) a

  to_old : {x z : ℕ} → Above again x z → Above ns x z
  to_old a = above_along again ns up_new (length again) (λ n l. sym (par n)) (above_there again a) a

  open_here : end_of again y ≡ open_mark
  open_here = ap (λ (x : Node). x.end) here

  open_kept : (n : ℕ) → end_of ns n ≡ open_mark → end_of again n ≡ open_mark
  open_kept n o = elim (cases_eq n y) [
    | inl i ↦ ap (end_of again) i ∙ open_here
    | inr ne ↦ ap (λ (x : Node). x.end) (other n ne) ∙ o
  ]

  under_kept : (n : ℕ) → UnderOpen ns n → UnderOpen again n
  under_kept n h = elim h [ inl i ↦ inl i | inr q ↦ inr (q.0, par n ∙ q.1, open_kept q.0 q.2) ]

  over_kept : (n : ℕ) → (n ≡ m) ⊎ Above ns n m → (k : ℕ) → suc k ≡ length again → (n ≡ k) ⊎ Above again n k
  over_kept n h k i =
      let j : m ≡ k = omega (arith, new_long) in
      elim h [ inl e ↦ inl (e ∙ j) | inr a ↦ inr (subst (λ (x : ℕ). Above again n x) j (to_new a)) ]

  opened_here : Opened again y
  opened_here = record { mark = open_here; kind = kin y ∙ s.kind; last = over_kept y s.over; parent = under_kept y s.parent }

  opened_kept : (n : ℕ) → Opened ns n → Opened again n
  opened_kept n h = record { mark = open_kept n h.mark; kind = kin n ∙ h.kind; last = over_kept n (h.last m long); parent = under_kept n h.parent }

  ended_kept : (n : ℕ) → n < length ns → (n ≡ y → ⊥) → Ended ns n → Ended again n
  ended_kept n l ne h = record {
    last_node = h.last_node;
    last = record {
      from = h.last.from;
      to = omega (arith, new_long, h.last.to);
      inside = λ z a b. to_new (h.last.inside z a b);
      outside = λ z a b. h.last.outside z a (to_old b);
    };
    end = omega (arith, ap (λ (x : Node). x.end) (other n ne), lev n l, h.end);
  }

  pub again_fit : Fit (reopened ns y)
  again_fit = record {
    bounded = omega (arith, new_long, w.bounded);
    root = par 0 ∙ w.root;
    up = up_new;
    link = λ n l.
        let q = w.link n (inn (suc n) l) in
        (q.0, par (suc n) ∙ q.1, elim q.2 [ inl i ↦ inl i | inr a ↦ inr (to_new a) ]);
    root_element = λ l. kin 0 ∙ w.root_element (inn 0 l);
    holder = λ n p e. kin p ∙ w.holder n p (sym (par n) ∙ e);
    named = λ n l. rw (kin n, nam n) (w.named n (inn n l));
    shallow = λ n l. omega (arith, lev n (inn n l), w.shallow n (inn n l));
    ends = λ n l. elim (cases_eq n y) [
      | inl i ↦ inl (subst (λ (x : ℕ). Opened again x) (sym i) opened_here)
      | inr ne ↦ elim (w.ends n (inn n l)) [
        | inl h ↦ inl (opened_kept n h)
        | inr h ↦ inr (ended_kept n (inn n l) ne h)
      ]
    ];
  }

  pub again_count : closed_count ns ≡ suc (closed_count (reopened ns y))
  again_count =
      counted_more (λ n. not (is_open (node_at again n))) (λ n. not (is_open (node_at ns n))) y (length ns)
      (λ n ne. ap (λ (x : Node). not (is_open x)) (sym (other n ne)))
      (ap not (eq-eqb (end_of again y) open_mark open_here))
      (ap not (ne_eqb (end_of ns y) open_mark (ended_not_open ns w y s.ended)))
      (omega (arith, here_less))
      ∙ ap suc (ap (counted (λ n. not (is_open (node_at again n)))) (sym new_long))

  -- y is the innermost open node then
  again_last : (n : ℕ) → y < n → n < length again → end_of again n ≡ open_mark → ⊥
  again_last n a l e =
      let o : end_of ns n ≡ open_mark = sym (ap (λ (x : Node). x.end) (other n (λ i. omega arith))) ∙ e in
      let k : n ≤ m = omega (arith, inn n l) in
      elim s.over [
        | inl i ↦ omega arith
        | inr b ↦ ended_not_open ns w y s.ended (open_up ns w (above_between ns w y n m b a k) o)
      ]

  again_inner : innermost again ≡ Some y
  again_inner = elim (none_or_some (innermost again)) [
    | inl e ↦ absurd (no_inner again e y (omega (arith, new_long, here_less)) open_here)
    | inr q ↦
        let g = inner again q.0 q.1 in
        elim (cases_order q.0 y) [
          | inl i ↦ q.1 ∙ ap Some i
          | inr (inl a) ↦ absurd (g.after y a (omega (arith, new_long, here_less)) open_here)
          | inr (inr a) ↦ absurd (again_last q.0 a g.there g.stays_open)
        ]
  ]

  last_is : s.ended.last_node ≡ m
  last_is = elim s.over [
    | inl i ↦ omega (arith, s.ended.last.from, s.ended.last.to)
    | inr a ↦ elim (cases_lt s.ended.last_node m) [
      | inl g ↦ absurd (s.ended.last.outside m g a)
      | inr g ↦ omega (arith, s.ended.last.to)
    ]
  ]

  closed_back : (e : ℕ) → e ≡ end_of ns y → set again y (with_end (node_at again y) e) ≡ ns
  closed_back e i =
      let x : with_end (node_at again y) e ≡ node_at ns y = same_node (with_end (node_at again y) e) (node_at ns y) (par y) (kin y) (nam y) i in
      set-set ns y (with_end (node_at ns y) open_mark) (with_end (node_at again y) e) ∙ ap (set ns y) x ∙ set-get_or ns y nowhere

  -- and a call closed it
  pub grown_close : Grown (reopened ns y) → Grown ns
  grown_close g =
      let v = grown_well again g in
      let e : closed_count again ≡ end_of ns y =
      omega (arith, v.counts_open y again_inner, new_long, lev y (omega (arith, here_less)), s.ended.end, last_is) in
      grown_by again ns (call.Close (name_of again y))
      (close_passes again v y again_inner)
      (ap (λ (o : Option ℕ). set again (or_zero o) (with_end (node_at again (or_zero o)) (closed_count again))) again_inner ∙ closed_back (closed_count again) e)
      g
