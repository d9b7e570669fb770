-- A document is well formed in one way, so it is enough that some calls leave it.
use Rattle.std.proofs.Common.{◌≡◌, ℕ, ◌<◌, ◌≤◌, ◌⊎◌, List, length, ap, inl, inr, arith}
use Rattle.std.proofs.Props.{props}
use Rattle.std.proofs.Math.Logic.{∥∥₁_elim}
use Rattle.document.specs.declared.Node.{Node}
use Rattle.document.specs.Document.{open_mark, end_of, closed_count}
use Rattle.document.specs.Calls.{Grown}
use Rattle.document.specs.Laws.{Named, WellFormed}
use Rattle.document.proofs.WellFormed.{closed_few}
use Rattle.document.proofs.Calls.{grown_well}

-- of two facts that exclude each other, one holds in one way
either_prop : {A B : Type 0} → IsProp A → IsProp B → (A → B → ⊥) → IsProp (A ⊎ B)
either_prop a b d (inl x) (inl y) = ap inl (a x y)
either_prop a b d (inl x) (inr y) = absurd (d x y)
either_prop a b d (inr x) (inl y) = absurd (d y x)
either_prop a b d (inr x) (inr y) = ap inr (b x y)

named_prop : (x : Node) → IsProp (Named x)
named_prop x = either_prop (hlevel props) (hlevel props) (λ e t. cc)

ends_prop : (ns : List Node) → length ns ≤ 4096 → (n : ℕ) → IsProp ((end_of ns n ≡ open_mark) ⊎ (end_of ns n < closed_count ns))
ends_prop ns b n = either_prop (hlevel props) (hlevel props) (λ e l. omega (arith, closed_few ns))

well_prop : (ns : List Node) → IsProp (WellFormed ns)
well_prop ns w v =
    let ends = ends_prop ns w.bounded in
    let same : IsProp (WellFormed ns) = hlevel (named_prop, ends, props) in
    same w v

pub grown_once : (ns : List Node) → ∥ Grown ns ∥₁ → WellFormed ns
grown_once ns g = ∥∥₁_elim g (well_prop ns) (grown_well ns)
