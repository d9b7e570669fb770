-- A document that fits, without its last node, fits, where all above that node are open; and a call began that node.
use Rattle.std.proofs.Common.{◌≡◌, ℕ, suc, ◌+◌, ◌<◌, ◌≤◌, false, cond, not, Bool, ◌⊎◌, List, [], ◌∷◌, ◌++◌, length, take, Some, None, sym, refl, ap, ◌∙◌, subst, inl, inr, arith}
use Rattle.std.proofs.lemmas.Bool.{cases_eq, cases_lt}
use Rattle.std.proofs.lemmas.List.{get_or_past, get_or-take, length-take-le, take_more, take_all}
use Rattle.document.specs.declared.Kind.TheVariants.{Text}
use Rattle.document.specs.declared.Node.{Node}
use Rattle.document.specs.declared.Call.TheVariants as call
use Rattle.document.specs.Document.{open_mark, nowhere, node_at, parent_of, kind_of, name_of, end_of, is_open, counted, innermost, closed_count, level_of}
use Rattle.document.specs.Calls.{ended, element, text, Grown}
use Rattle.document.specs.Laws.{WellFormed, Above, direct}
use Rattle.document.proofs.Tests.{none_or_some}
use Rattle.document.proofs.Counts.{counted_same}
use Rattle.document.proofs.Levels.{ParentsFirst, level_same}
use Rattle.document.proofs.Laws.{parent_there}
use Rattle.document.proofs.WellFormed.{inner, no_inner}
use Rattle.document.proofs.Calls.{grown_well}
use Rattle.document.proofs.Verdicts.{going_on, not_ended}
use Rattle.growth.proofs.Fit.{Opened, Ended, Fit, less, has_parent, level_next, above_parent, above_before, above_there, above_along, ended_not_open, is_opened}
use Rattle.growth.proofs.Passing.{same_node, grown_by, open_passes, text_passes}

-- m is the last node, and what stands above it is open
module _ (ns : List Node) (w : Fit ns) (m : ℕ) (long : suc m ≡ length ns) (above : (y : ℕ) → Above ns y m → end_of ns y ≡ open_mark) where
  init_long : length (take m ns) ≡ m
  init_long = length-take-le m ns (omega arith)

  old : (n : ℕ) → n < m → node_at (take m ns) n ≡ node_at ns n
  old n l = get_or-take m ns n nowhere l

  par : (n : ℕ) → n < m → parent_of (take m ns) n ≡ parent_of ns n
  par n l = ap (λ (x : Node). x.parent) (old n l)

  kin : (n : ℕ) → n < m → kind_of (take m ns) n ≡ kind_of ns n
  kin n l = ap (λ (x : Node). x.kind) (old n l)

  end_old : (n : ℕ) → n < m → end_of (take m ns) n ≡ end_of ns n
  end_old n l = ap (λ (x : Node). x.end) (old n l)

  inn : (n : ℕ) → n < length (take m ns) → n < m
  inn n l = omega (arith, init_long)

  up_init : ParentsFirst (take m ns)
  up_init n p l e = let k = inn n l in w.up n p (omega arith) (sym (par n k) ∙ e)

  lev : (n : ℕ) → n < m → level_of (take m ns) n ≡ level_of ns n
  lev n l = sym (level_same (take m ns) up_init ns (λ k h. sym (par k (inn k h))) n (omega (arith, init_long)))

  to_ns : {y z : ℕ} → Above (take m ns) y z → Above ns y z
  to_ns a = above_along (take m ns) ns up_init m (λ n l. sym (par n l)) (inn _ (above_there (take m ns) a)) a

  to_init : {y z : ℕ} → z < m → Above ns y z → Above (take m ns) y z
  to_init l a = above_along ns (take m ns) w.up m par l a

  init_root : parent_of (take m ns) 0 ≡ None
  init_root = elim (cases_lt 0 m) [
    | inl l ↦ par 0 l ∙ w.root
    | inr g ↦ ap (λ (x : Node). x.parent) (get_or_past (take m ns) 0 nowhere (omega (arith, init_long)))
  ]

  -- an open node but the last is the one before the last, or above that
  open_before : (n : ℕ) → n < m → end_of ns n ≡ open_mark → (k : ℕ) → suc k ≡ m → (n ≡ k) ⊎ Above ns n k
  open_before n l o k i = elim ((is_opened ns w n (omega arith) o).last m long) [
    | inl j ↦ absurd (omega arith)
    | inr a ↦ above_before ns w n k (subst (λ (x : ℕ). Above ns n x) (sym i) a)
  ]

  open_init : (n : ℕ) → n < m → Opened ns n → Opened (take m ns) n
  open_init n l h = record {
    mark = end_old n l ∙ h.mark;
    kind = kin n l ∙ h.kind;
    last = λ k i.
        elim (open_before n l h.mark k (omega (arith, init_long))) [
          | inl j ↦ inl j
          | inr a ↦ inr (to_init (omega (arith, init_long)) a)
        ];
    parent = elim h.parent [
      | inl i ↦ inl i
      | inr q ↦
          let u = w.up n q.0 (omega arith) q.1 in
          inr (q.0, par n l ∙ q.1, end_old q.0 (omega arith) ∙ q.2)
    ];
  }

  ended_init : (n : ℕ) → n < m → Ended ns n → Ended (take m ns) n
  ended_init n l h =
      let k : h.last_node < m = elim (cases_lt h.last_node m) [
        | inl g ↦ g
        | inr g ↦ absurd (ended_not_open ns w n h (above n (h.last.inside m l g)))
      ] in
      record {
        last_node = h.last_node;
        last = record {
          from = h.last.from;
          to = omega (arith, init_long);
          inside = λ z a b. to_init (omega arith) (h.last.inside z a b);
          outside = λ z a b. h.last.outside z a (to_ns b);
        };
        end = omega (arith, end_old n l, lev n l, h.end);
      }

  pub init_fit : Fit (take m ns)
  init_fit = record {
    bounded = omega (arith, init_long, w.bounded);
    root = init_root;
    up = up_init;
    link = λ n l.
        let k = inn (suc n) l in
        let q = w.link n (omega arith) in
        (q.0, par (suc n) k ∙ q.1, elim q.2 [ inl i ↦ inl i | inr a ↦ inr (to_init (omega arith) a) ]);
    root_element = λ l. kin 0 (inn 0 l) ∙ w.root_element (omega arith);
    holder = λ n p e.
        let l = inn n (parent_there (take m ns) n p e) in
        let f = sym (par n l) ∙ e in
        let u = w.up n p (omega arith) f in
        kin p (omega arith) ∙ w.holder n p f;
    named = λ n l. rw (old n (inn n l)) (w.named n (omega (arith, inn n l)));
    shallow = λ n l. omega (arith, lev n (inn n l), w.shallow n (omega (arith, inn n l)));
    ends = λ n l.
        let k = inn n l in
        elim (w.ends n (omega arith)) [ inl h ↦ inl (open_init n k h) | inr h ↦ inr (ended_init n k h) ];
  }

  counted_step : (b : Bool) (n : ℕ) → n ≤ cond b (suc n) n
  counted_step b n = grind arith

  pub init_count : closed_count (take m ns) ≤ closed_count ns
  init_count =
      let f : ℕ → Bool = λ n. not (is_open (node_at (take m ns) n)) in
      let g : ℕ → Bool = λ n. not (is_open (node_at ns n)) in
      let a : closed_count (take m ns) ≡ counted f m = ap (counted f) init_long in
      let b : counted f m ≡ counted g m = counted_same f g m (λ n l. ap (λ (x : Node). not (is_open x)) (old n l)) in
      let c : closed_count ns ≡ cond (g m) (suc (counted g m)) (counted g m) = ap (counted g) (sym long) in
      omega (arith, counted_step (g m) (counted g m))

  whole : (x : Node) → x ≡ node_at ns m → take m ns ++ x ∷ [] ≡ ns
  whole x e =
      let i : m + 1 ≡ length ns = omega arith in
      ap (λ (x : Node). take m ns ++ x ∷ []) e
      ∙ sym (take_more ns m nowhere (omega arith)) ∙ ap (λ (k : ℕ). take k ns) i ∙ take_all (length ns) ns (omega arith)

  -- the parent of the last node is the innermost open one without it
  inner_below : (p q : ℕ) → parent_of ns m ≡ Some p → innermost (take m ns) ≡ Some q → p ≡ q
  inner_below p q e f =
      let g = inner (take m ns) q f in
      let k = inn q g.there in
      let u = w.up m p (omega arith) e in
      let o : end_of (take m ns) p ≡ open_mark = end_old p u ∙ above p (direct e) in
      elim ((is_opened ns w q (omega arith) (sym (end_old q k) ∙ g.stays_open)).last m long) [
        | inl j ↦ absurd (omega arith)
        | inr b ↦ elim (above_parent ns p e b) [
          | inl j ↦ j
          | inr c ↦ absurd (g.after p (less ns w c) (omega (arith, init_long)) o)
        ]
      ]

  inner_of : (p : ℕ) → parent_of ns m ≡ Some p → innermost (take m ns) ≡ Some p
  inner_of p e =
      let u = w.up m p (omega arith) e in
      let o : end_of (take m ns) p ≡ open_mark = end_old p u ∙ above p (direct e) in
      elim (none_or_some (innermost (take m ns))) [
        | inl i ↦ absurd (no_inner (take m ns) i p (omega (arith, init_long)) o)
        | inr q ↦ q.1 ∙ ap Some (sym (inner_below p q.0 e q.1))
      ]

  init_inner : innermost (take m ns) ≡ parent_of ns m
  init_inner = elim (none_or_some (parent_of ns m)) [
    | inr s ↦ inner_of s.0 s.1 ∙ sym s.1
    | inl r ↦ elim (none_or_some (innermost (take m ns))) [
      | inl e ↦ e ∙ sym r
      | inr q ↦
          let l = (inner (take m ns) q.0 q.1).there in
          let p = has_parent ns w m (omega (arith, init_long)) (omega arith) in
          let e = p.1 in
          cc
    ]
  ]

  init_shallow : (p : ℕ) → innermost (take m ns) ≡ Some p → level_of (take m ns) p < 63
  init_shallow p e =
      let f : parent_of ns m ≡ Some p = sym init_inner ∙ e in
      let u = w.up m p (omega arith) f in
      omega (arith, lev p u, level_next ns w m p f, w.shallow m (omega arith))

  module _ (g : Grown (take m ns)) where
    well : WellFormed (take m ns)
    well = grown_well (take m ns) g

    going : ended (take m ns) ≡ false
    going = elim (cases_eq m 0) [
      | inl i ↦ not_ended (take m ns) well (init_long ∙ i)
      | inr ne ↦ let q = has_parent ns w m (omega arith) (omega arith) in going_on (take m ns) well q.0 (inner_of q.0 q.1)
    ]

    -- an open last node was begun by a call
    pub grown_open : end_of ns m ≡ open_mark → Grown ns
    grown_open o =
        let k = (is_opened ns w m (omega arith) o).kind in
        elim (w.named m (omega arith)) [
          | inl f ↦
              grown_by (take m ns) ns (call.Open (name_of ns m))
              (open_passes (take m ns) well (omega (arith, init_long, w.bounded)) init_shallow (name_of ns m) f.1 f.2 going)
              (whole (element (innermost (take m ns)) (name_of ns m)) (same_node (element (innermost (take m ns)) (name_of ns m)) (node_at ns m) init_inner (sym k) refl (sym o)))
              g
          | inr f ↦ let t = f.0 in cc
        ]

    -- and so was a text
    pub grown_text : 0 < m → kind_of ns m ≡ Text → Ended ns m → Grown ns
    grown_text a t h =
        let q = has_parent ns w m a (omega arith) in
        let u = w.up m q.0 (omega arith) q.1 in
        let i = inner_of q.0 q.1 in
        let e : closed_count (take m ns) ≡ end_of ns m =
        omega (arith, well.counts_open q.0 i, init_long, lev q.0 u, level_next ns w m q.0 q.1, h.end, h.last.from, h.last.to) in
        elim (w.named m (omega arith)) [
          | inl f ↦ let k = f.0 in cc
          | inr f ↦
              grown_by (take m ns) ns call.Text
              (text_passes (take m ns) well (omega (arith, init_long, w.bounded)) init_shallow q.0 i)
              (whole (text (innermost (take m ns)) (closed_count (take m ns))) (same_node (text (innermost (take m ns)) (closed_count (take m ns))) (node_at ns m) init_inner (sym t) (sym f.1) e))
              g
        ]
