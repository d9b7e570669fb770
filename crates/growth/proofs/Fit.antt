-- What stays so when the last call is taken back, said by parent links, so that no count stands in it.
use Rattle.std.proofs.Common.{◌≡◌, ℕ, zero, suc, ◌+◌, ◌<◌, ◌≤◌, ◌⊎◌, List, length, Some, None, sym, ap, ◌∙◌, subst, inl, inr, arith}
use Rattle.std.proofs.lemmas.Bool.{cases_eq}
use Rattle.document.specs.declared.Kind.TheVariants.{Element}
use Rattle.document.specs.declared.Node.{Node}
use Rattle.document.specs.Document.{open_mark, node_at, parent_of, kind_of, end_of, level_of}
use Rattle.document.specs.Laws.{Named, Above, direct, over}
use Rattle.document.proofs.Levels.{ParentsFirst, level_up}
use Rattle.document.proofs.Laws.{parent_there}

-- the last node of the subtree of y is l
pub record Last (ns : List Node) (y l : ℕ) : Type 0 where
  pub from : y ≤ l
  pub to : l < length ns
  pub inside : (z : ℕ) → y < z → z ≤ l → Above ns y z
  pub outside : (z : ℕ) → l < z → Above ns y z → ⊥

-- y is node 0, or its parent is open
abbrev pub UnderOpen : List Node → ℕ → Type 0
UnderOpen ns y = (y ≡ 0) ⊎ ((p : ℕ) × (parent_of ns y ≡ Some p) × (end_of ns p ≡ open_mark))

-- n is open: it is the last node or above it, and its parent is open
pub record Opened (ns : List Node) (n : ℕ) : Type 0 where
  pub mark : end_of ns n ≡ open_mark
  pub kind : kind_of ns n ≡ Element
  pub last : (m : ℕ) → suc m ≡ length ns → (n ≡ m) ⊎ Above ns n m
  pub parent : UnderOpen ns n

-- n has ended, and its end and level make the last node of its subtree
pub record Ended (ns : List Node) (n : ℕ) : Type 0 where
  pub last_node : ℕ
  pub last : Last ns n last_node
  pub end : end_of ns n + level_of ns n ≡ last_node

pub record Fit (ns : List Node) : Type 0 where
  pub bounded : length ns ≤ 4096
  pub root : parent_of ns 0 ≡ None
  pub up : ParentsFirst ns
  -- each node but the first is at the node before it or at one above that
  pub link : (m : ℕ) → suc m < length ns → (p : ℕ) × (parent_of ns (suc m) ≡ Some p) × ((p ≡ m) ⊎ Above ns p m)
  pub root_element : 0 < length ns → kind_of ns 0 ≡ Element
  pub holder : (n p : ℕ) → parent_of ns n ≡ Some p → kind_of ns p ≡ Element
  pub named : (n : ℕ) → n < length ns → Named (node_at ns n)
  pub shallow : (n : ℕ) → n < length ns → level_of ns n ≤ 63
  pub ends : (n : ℕ) → n < length ns → Opened ns n ⊎ Ended ns n

pub above_trans : (ns : List Node) {x y z : ℕ} → Above ns x y → Above ns y z → Above ns x z
above_trans ns a (direct e) = over e a
above_trans ns a (over e b) = over e (above_trans ns a b)

pub above_parent : (ns : List Node) {y z : ℕ} (p : ℕ) → parent_of ns z ≡ Some p → Above ns y z → (p ≡ y) ⊎ Above ns y p
above_parent ns p e (direct {y} {z} f) = inl (cc)
above_parent ns p e (over {y} {p = q} {z} f a) = let i : q ≡ p = cc in inr (subst (λ (x : ℕ). Above ns y x) i a)

pub above_there : (ns : List Node) {y z : ℕ} → Above ns y z → z < length ns
above_there ns (direct {y} {z} e) = parent_there ns z y e
above_there ns (over {y} {p} {z} e a) = parent_there ns z p e

-- the same parents below k make the same ancestry there
pub above_along : (a b : List Node) → ParentsFirst a → (k : ℕ) → ((n : ℕ) → n < k → parent_of b n ≡ parent_of a n) → {y z : ℕ} → z < k → Above a y z → Above b y z
above_along a b up k same l (direct {y} {z} e) = direct (same z l ∙ e)
above_along a b up k same l (over {y} {p} {z} e c) =
    let u : p < z = up z p (parent_there a z p e) e in
    over (same z l ∙ e) (above_along a b up k same (omega arith) c)

module _ (ns : List Node) (w : Fit ns) where
  pub less : {y z : ℕ} → Above ns y z → y < z
  less (direct {y} {z} e) = w.up z y (parent_there ns z y e) e
  less (over {y} {p} {z} e a) = omega (arith, w.up z p (parent_there ns z p e) e, less a)

  pub has_parent : (n : ℕ) → 0 < n → n < length ns → (p : ℕ) × (parent_of ns n ≡ Some p)
  has_parent zero a l = absurd (omega arith)
  has_parent (suc m) a l = let q = w.link m l in (q.0, q.1)

  pub level_next : (n p : ℕ) → parent_of ns n ≡ Some p → level_of ns n ≡ suc (level_of ns p)
  level_next n p e = level_up ns w.up n p (parent_there ns n p e) e

  -- what is above a node is the node before it or is above that
  pub above_before : (y m : ℕ) → Above ns y (suc m) → (y ≡ m) ⊎ Above ns y m
  above_before y m a =
      let q = w.link m (above_there ns a) in
      elim (above_parent ns q.0 q.1 a) [
        | inl i ↦ elim q.2 [
          | inl j ↦ inl (sym i ∙ j)
          | inr b ↦ inr (subst (λ (x : ℕ). Above ns x m) i b)
        ]
        | inr b ↦ elim q.2 [
          | inl j ↦ inr (subst (λ (x : ℕ). Above ns y x) j b)
          | inr c ↦ inr (above_trans ns b c)
        ]
      ]

  -- a subtree has no gap
  pub above_between : (y v z : ℕ) → Above ns y z → y < v → v ≤ z → Above ns y v
  above_between y v zero a h k = absurd (omega arith)
  above_between y v (suc m) a h k = elim (cases_eq v (suc m)) [
    | inl i ↦ subst (λ (x : ℕ). Above ns y x) (sym i) a
    | inr ne ↦ elim (above_before y m a) [
      | inl i ↦ absurd (omega arith)
      | inr b ↦ above_between y v m b h (omega arith)
    ]
  ]

  pub ended_not_open : (n : ℕ) → Ended ns n → end_of ns n ≡ open_mark → ⊥
  ended_not_open n e o = omega (arith, e.end, e.last.to, w.bounded)

  pub is_opened : (n : ℕ) → n < length ns → end_of ns n ≡ open_mark → Opened ns n
  is_opened n l o = elim (w.ends n l) [ inl h ↦ h | inr e ↦ absurd (ended_not_open n e o) ]

  open_parent : (n p : ℕ) → parent_of ns n ≡ Some p → end_of ns n ≡ open_mark → end_of ns p ≡ open_mark
  open_parent n p e o = elim (is_opened n (parent_there ns n p e) o).parent [
    | inl i ↦ let r : parent_of ns n ≡ None = ap (parent_of ns) i ∙ w.root in cc
    | inr q ↦ let i : q.0 ≡ p = cc in subst (λ (x : ℕ). end_of ns x ≡ open_mark) i q.2
  ]

  -- all above an open node are open
  pub open_up : {y z : ℕ} → Above ns y z → end_of ns z ≡ open_mark → end_of ns y ≡ open_mark
  open_up (direct {y} {z} e) o = open_parent z y e o
  open_up (over {y} {p} {z} e a) o = open_up a (open_parent z p e o)
