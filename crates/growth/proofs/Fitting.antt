-- A well formed document fits.
use Rattle.std.proofs.Common.{◌≡◌, ℕ, suc, ◌+◌, ◌<◌, ◌⊎◌, List, length, Some, refl, inl, inr, arith}
use Rattle.std.proofs.lemmas.Bool.{cases_eq}
use Rattle.document.specs.declared.Node.{Node}
use Rattle.document.specs.Document.{open_mark, parent_of, end_of, closed_count, level_of}
use Rattle.document.specs.Laws.{WellFormed, Above}
use Rattle.document.proofs.WellFormed.{open_element}
use Rattle.document.proofs.Laws.{parent_there, root_parent, has_parent, parent_below, below_above, above_below, end_small}
use Rattle.growth.proofs.Fit.{UnderOpen, Opened, Ended, Fit, above_there}

module _ (ns : List Node) (w : WellFormed ns) where
  linked : (m : ℕ) → suc m < length ns → (p : ℕ) × (parent_of ns (suc m) ≡ Some p) × ((p ≡ m) ⊎ Above ns p m)
  linked m l =
      let q = has_parent ns w (suc m) (omega arith) l in
      let b = parent_below ns w (suc m) q.0 q.1 in (
        q.0,
        q.1,
        elim (cases_eq q.0 m) [
          | inl i ↦ inl i
          | inr ne ↦ inr (below_above ns w q.0 m (omega arith) (omega arith, omega (arith, w.between (suc m) q.0 m l q.1)))
        ],
      )

  under_open : (n : ℕ) → n < length ns → end_of ns n ≡ open_mark → UnderOpen ns n
  under_open n l o = elim (cases_eq n 0) [
    | inl i ↦ inl i
    | inr ne ↦
        let q = has_parent ns w n (omega arith) l in
        let b = parent_below ns w n q.0 q.1 in
        inr (q.0, q.1, omega (arith, end_small ns w q.0 (omega arith)))
  ]

  opened : (n : ℕ) → n < length ns → end_of ns n ≡ open_mark → Opened ns n
  opened n l o = record {
    mark = o;
    kind = open_element ns w n l o;
    last = λ m i. elim (cases_eq n m) [
      | inl j ↦ inl j
      | inr ne ↦ inr (below_above ns w n m (omega arith) (omega arith, omega (arith, end_small ns w m (omega arith))))
    ];
    parent = under_open n l o;
  }

  ended : (n : ℕ) → n < length ns → end_of ns n < closed_count ns → Ended ns n
  ended n l c = record {
    last_node = end_of ns n + level_of ns n;
    last = record {
      from = w.reach_from n l c;
      to = w.reach_to n l c;
      inside = λ z a b. let t = w.reach_to n l c in below_above ns w n z (omega arith) (a, w.reach_below n z a (omega arith) b);
      outside = λ z a b.
          let d = above_below ns w b in
          omega (arith, w.below_reach n z d.0 (above_there ns b) d.1 c);
    };
    end = refl;
  }

  pub well_fit : Fit ns
  well_fit = record {
    bounded = w.bounded;
    root = root_parent ns w;
    up = w.parent_first;
    link = linked;
    root_element = w.root_element;
    holder = λ n p e. w.parent_element n p (parent_there ns n p e) e;
    named = w.named;
    shallow = w.shallow;
    ends = λ n l. elim (w.ends n l) [ inl o ↦ inl (opened n l o) | inr c ↦ inr (ended n l c) ];
  }
