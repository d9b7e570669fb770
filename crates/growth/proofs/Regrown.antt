-- A document that fits is what calls leave: by taking back the last call, as long as there is a node.
use Rattle.std.proofs.Common.{◌≡◌, ℕ, zero, suc, ◌+◌, ◌<◌, ◌≤◌, ◌⊎◌, List, [], ◌∷◌, length, take, Some, sym, refl, ap, ◌∙◌, subst, inl, inr, arith}
use Rattle.std.proofs.lemmas.Bool.{cases_eq}
use Rattle.std.proofs.lemmas.List.{length-set, length-take-le}
use Rattle.document.specs.declared.Kind.{Kind}
use Rattle.document.specs.declared.Kind.TheVariants.{Element, Text}
use Rattle.document.specs.declared.Node.{Node}
use Rattle.document.specs.Document.{open_mark, node_at, parent_of, kind_of, end_of, closed_count}
use Rattle.document.specs.Calls.{with_end, Grown, blank}
use Rattle.document.specs.Laws.{Above, direct}
use Rattle.document.proofs.Grown.{grown_once}
use Rattle.growth.specs.Laws.{WellGrown}
use Rattle.growth.proofs.Fit.{Ended, Fit, has_parent, above_parent, above_trans, open_up}
use Rattle.growth.proofs.Fitting.{well_fit}
use Rattle.growth.proofs.Dropping.{init_fit, init_count, grown_open, grown_text}
use Rattle.growth.proofs.Reopening.{Outermost, reopened, again_fit, again_count, grown_close}

module _ (ns : List Node) (w : Fit ns) (m : ℕ) (long : suc m ≡ length ns) where
  -- from an ended element over the last node up to the outermost one
  outermost : (k z : ℕ) → z ≤ k → z < length ns → Ended ns z → kind_of ns z ≡ Element → (z ≡ m) ⊎ Above ns z m → (y : ℕ) × Outermost ns m y
  outermost zero z h l e t o = (z, record { ended = e; kind = t; over = o; parent = inl (omega arith) })
  outermost (suc k) z h l e t o = elim (cases_eq z 0) [
    | inl i ↦ (z, record { ended = e; kind = t; over = o; parent = inl i })
    | inr ne ↦
        let q = has_parent ns w z (omega arith) l in
        let u = w.up z q.0 l q.1 in
        elim (w.ends q.0 (omega arith)) [
          | inl p ↦ (z, record { ended = e; kind = t; over = o; parent = inr (q.0, q.1, p.mark) })
          | inr f ↦ outermost k q.0 (omega arith) (omega arith) f (w.holder z q.0 q.1) (inr (elim o [
            | inl i ↦ direct (subst (λ (x : ℕ). parent_of ns x ≡ Some q.0) i q.1)
            | inr a ↦ above_trans ns (direct q.1) a
          ]))
        ]
  ]

  -- what the last call was
  data Back : Type 0 where
    began : ((y : ℕ) → Above ns y m → end_of ns y ≡ open_mark) → end_of ns m ≡ open_mark → Back
    wrote : ((y : ℕ) → Above ns y m → end_of ns y ≡ open_mark) → 0 < m → kind_of ns m ≡ Text → Ended ns m → Back
    shut : (y : ℕ) → Outermost ns m y → Back

  text_later : kind_of ns m ≡ Text → 0 < m
  text_later e = elim (cases_eq m 0) [
    | inl i ↦ let r : kind_of ns m ≡ Element = ap (kind_of ns) i ∙ w.root_element (omega arith) in cc
    | inr ne ↦ omega arith
  ]

  back : Back
  back = elim (w.ends m (omega arith)) [
    | inl h ↦ began (λ y a. open_up ns w a h.mark) h.mark
    | inr h ↦ go (kind_of ns m) refl h
  ]
    where
      go : (k : Kind) → kind_of ns m ≡ k → Ended ns m → Back
      go Element e h = let q = outermost m m (omega arith) (omega arith) h e (inl refl) in shut q.0 q.1
      go Text e h =
          let a = text_later e in
          let q = has_parent ns w m a (omega arith) in
          let u = w.up m q.0 (omega arith) q.1 in
          elim (w.ends q.0 (omega arith)) [
            | inl p ↦ wrote (λ y b. elim (above_parent ns q.0 q.1 b) [
              | inl i ↦ ap (end_of ns) (sym i) ∙ p.mark
              | inr c ↦ open_up ns w c p.mark
            ]) a e h
            | inr f ↦
                let r = outermost q.0 q.0 (omega arith) (omega arith) f (w.holder m q.0 q.1) (inr (direct q.1)) in
                shut r.0 r.1
          ]

-- each call taken back leaves fewer nodes and closed ones together
fit_by : (k : ℕ) (ns : List Node) → length ns + closed_count ns ≤ k → Fit ns → Grown ns
fit_by k [] h w = blank
fit_by zero (x ∷ xs) h w = absurd (omega arith)
fit_by (suc k) (x ∷ xs) h w = go (back (x ∷ xs) w (length xs) refl) (fit_by k)
  where
    short : length (take (length xs) (x ∷ xs)) ≡ length xs
    short = length-take-le (length xs) (x ∷ xs) (omega arith)

    go : Back (x ∷ xs) w (length xs) refl → ((new : List Node) → length new + closed_count new ≤ k → Fit new → Grown new) → Grown (x ∷ xs)
    go (began a o) ih =
        grown_open (x ∷ xs) w (length xs) refl a
        (ih (take (length xs) (x ∷ xs)) (omega (arith, short, init_count (x ∷ xs) w (length xs) refl a)) (init_fit (x ∷ xs) w (length xs) refl a)) o
    go (wrote a b t e) ih =
        grown_text (x ∷ xs) w (length xs) refl a
        (ih (take (length xs) (x ∷ xs)) (omega (arith, short, init_count (x ∷ xs) w (length xs) refl a)) (init_fit (x ∷ xs) w (length xs) refl a)) b t e
    go (shut y s) ih =
        let l = length-set (x ∷ xs) y (with_end (node_at (x ∷ xs) y) open_mark) in
        grown_close (x ∷ xs) w (length xs) refl y s
        (ih (reopened (x ∷ xs) y) (omega (arith, again_count (x ∷ xs) w (length xs) refl y s)) (again_fit (x ∷ xs) w (length xs) refl y s))

pub well_grown : WellGrown
well_grown ns w = fit_by (length ns + closed_count ns) ns (omega arith) (well_fit ns w)

-- so where it is known only that some calls leave a document, such calls are had
pub regrown : (ns : List Node) → ∥ Grown ns ∥₁ → Grown ns
regrown ns g = well_grown ns (grown_once ns g)
