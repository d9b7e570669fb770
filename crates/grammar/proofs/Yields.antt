-- A derivation is a text of parts whose names are names.
use Rattle.std.proofs.Common.{◌≡◌, ℕ, true, List, [], ◌∷◌, ◌++◌, sym, refl, ap, ◌∙◌, subst, append_assoc, append-nil}
use Rattle.std.specs.List.{AllByRecursion as All}
use Rattle.names.specs.Names.{is_name}
use Rattle.grammar.specs.Grammar.{Separator, Slash, Slashes, Tested, Named, Star, Texts, Nodes, Written, Dot, Dots, Plain, Along, Item, IsSeparator, slash, slashes, IsTest, named, star, texts, nodes, IsStep, dot, dots, plain, along, IsItem, item, IsItems, one, more}
use Rattle.grammar.specs.Texts.{separator_text, test_text, step_text, item_text, items_text}

-- the names of a part are names
abbrev pub FineTest : Tested → Type 0
FineTest (Named n) = is_name n ≡ true
FineTest Star = Unit {0}
FineTest Texts = Unit {0}
FineTest Nodes = Unit {0}

abbrev pub FineStep : Written → Type 0
FineStep Dot = Unit {0}
FineStep Dots = Unit {0}
FineStep (Plain t) = FineTest t
FineStep (Along a t) = (is_name a ≡ true) × FineTest t

abbrev pub FineItems : List Item → Type 0
FineItems is = All (λ i. FineStep i.step) is

pub derive_test : (t : Tested) → FineTest t → IsTest (test_text t) t
derive_test (Named n) h = named h
derive_test Star h = star
derive_test Texts h = texts
derive_test Nodes h = nodes

pub derive_step : (w : Written) → FineStep w → IsStep (step_text w) w
derive_step Dot h = dot
derive_step Dots h = dots
derive_step (Plain t) h = plain (derive_test t h)
derive_step (Along a t) h = along h.0 (derive_test t h.1)

derive_separator : (k : Separator) → IsSeparator (separator_text k) k
derive_separator Slash = slash
derive_separator Slashes = slashes

derive_item : (i : Item) → FineStep i.step → IsItem (item_text i) i
derive_item i h = item (derive_separator i.separator) (derive_step i.step h)

pub derive_items : (i : Item) (is : List Item) → FineItems (i ∷ is) → IsItems (items_text (i ∷ is)) (i ∷ is)
derive_items i [] h = subst (λ s. IsItems s (i ∷ [])) (sym (append-nil (item_text i))) (one (derive_item i h.0))
derive_items i (j ∷ is) h = more (derive_item i h.0) (derive_items j is h.1)

yield_test : {s : List ℕ} {t : Tested} → IsTest s t → (s ≡ test_text t) × FineTest t
yield_test (named h) = (refl, h)
yield_test star = (refl, tt)
yield_test _ = (refl, tt)

yield_step : {s : List ℕ} {w : Written} → IsStep s w → (s ≡ step_text w) × FineStep w
yield_step dot = (refl, tt)
yield_step dots = (refl, tt)
yield_step (plain h) = yield_test h
yield_step (along {a} h t) = let y = yield_test t in (ap (λ s. a ++ 58 ∷ 58 ∷ s) y.0, (h, y.1))

yield_separator : {s : List ℕ} {k : Separator} → IsSeparator s k → s ≡ separator_text k
yield_separator slash = refl
yield_separator slashes = refl

yield_item : {s : List ℕ} {i : Item} → IsItem s i → (s ≡ item_text i) × FineStep i.step
yield_item (item {p} {s} {k} {w} h l) =
    let y = yield_step l in
    (ap (λ q. q ++ s) (yield_separator h) ∙ ap (λ q. separator_text k ++ q) y.0, y.1)

pub yield_items : {s : List ℕ} {is : List Item} → IsItems s is → (s ≡ items_text is) × FineItems is
yield_items (one {i = i} h) = let y = yield_item h in (y.0 ∙ sym (append-nil (item_text i)), (y.1, tt))
yield_items (more {s} {t} {i} {is} h l) =
    let y = yield_item h in
    let z = yield_items l in
    (ap (λ q. q ++ t) y.0 ∙ ap (λ q. item_text i ++ q) z.0, (y.1, z.1))

pub items_snoc : (is : List Item) (i : Item) → items_text (is ++ i ∷ []) ≡ items_text is ++ item_text i
items_snoc [] i = append-nil (item_text i)
items_snoc (j ∷ is) i = ap (λ s. item_text j ++ s) (items_snoc is i) ∙ sym (append_assoc (item_text j) (items_text is) (item_text i))
