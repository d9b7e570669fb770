-- What the scanner finds, by the grammar: forward from what has been read, and back from a derivation.
use Rattle.std.proofs.Common.{◌≡◌, ℕ, Bool, true, false, cond, eqb, List, [], ◌∷◌, ◌++◌, Some, None, codes, Option, sym, refl, ap, ◌∙◌, inl, inr, append_assoc, append-nil}
use Rattle.std.specs.Str.{bytes_eq}
use Rattle.std.proofs.ByRecursion.{All-push}
use Rattle.std.proofs.lemmas.Slice.Eq.{bytes_eq-Decides}
use Rattle.std.proofs.lemmas.Bool.{cases_Bool, and_parts, and_from, eqb-true}
use Rattle.names.specs.Classes.{begins, goes}
use Rattle.names.specs.Names.{all_go, is_name}
use Rattle.grammar.specs.Grammar.{Separator, Slash, Slashes, Tested, Named, Star, Texts, Nodes, Written, Dot, Dots, Item}
use Rattle.grammar.specs.Texts.{separator_text, test_text, step_text, items_text}
use Rattle.grammar.specs.Scanner.{State, Whole, Half, Want, OneDot, InName, Colon, AxisWord, Paren, with, tested, ended, test, wanted, colon, kind_test, paren_by, step}
use Rattle.grammar.proofs.Yields.{FineTest, FineStep, FineItems, items_snoc}

-- the text that has been read in a state
abbrev pub axis_text : Option (List ℕ) → List ℕ
axis_text None = []
axis_text (Some a) = a ++ codes "::"

abbrev pub paren_text : Tested → List ℕ
paren_text (Named n) = n
paren_text Star = []
paren_text Texts = codes "text("
paren_text Nodes = codes "node("

abbrev pub part_text : State → List ℕ
part_text (Whole is) = []
part_text (Half is) = codes "/"
part_text (Want is k) = separator_text k
part_text (OneDot is k) = separator_text k ++ codes "."
part_text (InName is k a n) = separator_text k ++ (axis_text a ++ n)
part_text (Colon is k n) = separator_text k ++ (n ++ codes ":")
part_text (AxisWord is k n) = separator_text k ++ (n ++ codes "::")
part_text (Paren is k a t) = separator_text k ++ (axis_text a ++ paren_text t)

abbrev pub held : State → List Item
held (Whole is) = is
held (Half is) = is
held (Want is k) = is
held (OneDot is k) = is
held (InName is k a n) = is
held (Colon is k n) = is
held (AxisWord is k n) = is
held (Paren is k a t) = is

abbrev pub state_text : State → List ℕ
state_text q = items_text (held q) ++ part_text q

abbrev pub FineAxis : Option (List ℕ) → Type 0
FineAxis None = Unit {0}
FineAxis (Some a) = is_name a ≡ true

abbrev pub IsKind : Tested → Type 0
IsKind (Named n) = ⊥
IsKind Star = ⊥
IsKind Texts = Unit {0}
IsKind Nodes = Unit {0}

abbrev pub FinePart : State → Type 0
FinePart (Whole is) = Unit {0}
FinePart (Half is) = Unit {0}
FinePart (Want is k) = Unit {0}
FinePart (OneDot is k) = Unit {0}
FinePart (InName is k a n) = FineAxis a × (is_name n ≡ true)
FinePart (Colon is k n) = is_name n ≡ true
FinePart (AxisWord is k n) = is_name n ≡ true
FinePart (Paren is k a t) = FineAxis a × IsKind t

pub record Fine (q : State) : Type 0 where
  pub before : FineItems (held q)
  pub part : FinePart q

-- a next state has read the text t
pub record Reached (t : List ℕ) (q : State) : Type 0 where
  pub text : state_text q ≡ t
  pub fine : Fine q

pub data Good : List ℕ → Option State → Type 0 where
  dead : {t : List ℕ} → Good t None
  alive : {t : List ℕ} {q : State} → Reached t q → Good t (Some q)

reach : {t : List ℕ} (q : State) → FineItems (held q) → FinePart q → state_text q ≡ t → Good t (Some q)
reach q h l e = alive (record { text = e; fine = record { before = h; part = l } })

by_cond : {t : List ℕ} (x : Bool) {o p : Option State} → (x ≡ true → Good t o) → (x ≡ false → Good t p) → Good t (cond x o p)
by_cond true f g = f refl
by_cond false f g = g refl

-- where the text ends in b, and k is a byte that is tested for
by_byte : {t : List ℕ} (b k : ℕ) (f : ℕ → List ℕ) {o p : Option State} → f b ≡ t → (f k ≡ t → Good t o) → Good t p → Good t (cond (eqb b k) o p)
by_byte b k f e g h = by_cond (eqb b k) (λ x. g (ap f (sym (eqb-true b k x)) ∙ e)) (λ x. h)

pub step_text_lem : (a : Option (List ℕ)) (t : Tested) → step_text (tested a t) ≡ axis_text a ++ test_text t
step_text_lem None t = refl
step_text_lem (Some a) t = sym (append_assoc a (codes "::") (test_text t))

pub fine_step : (a : Option (List ℕ)) (t : Tested) → FineAxis a → FineTest t → FineStep (tested a t)
fine_step None t h l = l
fine_step (Some a) t h l = (h, l)

reach_whole : (is : List Item) (k : Separator) (w : Written) (t : List ℕ) → FineItems is → FineStep w → items_text is ++ (separator_text k ++ step_text w) ≡ t → Good t (Some (Whole (with is k w)))
reach_whole is k w t h l e =
    let i : Item = record { separator = k; step = w } in
    reach (Whole (with is k w)) (All-push (λ i. FineStep i.step) is i h l) tt (append-nil (items_text (with is k w)) ∙ items_snoc is i ∙ e)

good_ended : (is : List Item) (b : ℕ) (t : List ℕ) → FineItems is → items_text is ++ b ∷ [] ≡ t → Good t (ended is b)
good_ended is b t h e = by_byte b 47 (λ c. items_text is ++ c ∷ []) e (reach (Half is) h tt) dead

good_test : (is : List Item) (k : Separator) (a : Option (List ℕ)) (b : ℕ) (t : List ℕ) → FineItems is → FineAxis a → items_text is ++ (separator_text k ++ (axis_text a ++ b ∷ [])) ≡ t → Good t (test is k a b)
good_test is k a b t h l e =
    by_byte b 42 (λ c. items_text is ++ (separator_text k ++ (axis_text a ++ c ∷ []))) e
    (λ x. reach_whole is k (tested a Star) t h (fine_step a Star l tt) (rw (step_text_lem a Star) x))
    (by_cond (begins b) (λ y. reach (InName is k a (b ∷ [])) h (l, and_from (begins b) true y refl) e) (λ y. dead))

good_wanted : (is : List Item) (k : Separator) (b : ℕ) (t : List ℕ) → FineItems is → items_text is ++ (separator_text k ++ b ∷ []) ≡ t → Good t (wanted is k b)
good_wanted is k b t h e =
    by_byte b 46 (λ c. items_text is ++ (separator_text k ++ c ∷ [])) e (reach (OneDot is k) h tt) (good_test is k None b t h tt e)

all_goes : (n : List ℕ) (b : ℕ) → all_go n ≡ true → goes b ≡ true → all_go (n ++ b ∷ []) ≡ true
all_goes [] b h g = and_from (goes b) true g refl
all_goes (c ∷ n) b h g = let p = and_parts (goes c) (all_go n) h in and_from (goes c) _ p.0 (all_goes n b p.1 g)

pub longer : (n : List ℕ) (b : ℕ) → is_name n ≡ true → goes b ≡ true → is_name (n ++ b ∷ []) ≡ true
longer [] b h g = cc
longer (c ∷ n) b h g = let p = and_parts (begins c) (all_go n) h in and_from (begins c) _ p.0 (all_goes n b p.1 g)

good_kind : (is : List Item) (k : Separator) (a : Option (List ℕ)) (n : List ℕ) (t : List ℕ) → FineItems is → FineAxis a → items_text is ++ (separator_text k ++ (axis_text a ++ (n ++ codes "("))) ≡ t → Good t (paren_by is k a (kind_test n))
good_kind is k a n t h l e = elim (cases_Bool (bytes_eq n (codes "text"))) [
  | inl x ↦ rw x (reach (Paren is k a Texts) h (l, tt) (told (codes "text") x))
  | inr x ↦ elim (cases_Bool (bytes_eq n (codes "node"))) [
    | inl y ↦ rw (x, y) (reach (Paren is k a Nodes) h (l, tt) (told (codes "node") y))
    | inr y ↦ rw (x, y) dead
  ]
]
  where
    told : (m : List ℕ) → bytes_eq n m ≡ true → items_text is ++ (separator_text k ++ (axis_text a ++ (m ++ codes "("))) ≡ t
    told m x = rw (← (bytes_eq-Decides n m).0 x) e

good_colon : (is : List Item) (k : Separator) (a : Option (List ℕ)) (n : List ℕ) (t : List ℕ) → FineItems is → is_name n ≡ true → items_text is ++ (separator_text k ++ (axis_text a ++ (n ++ codes ":"))) ≡ t → Good t (colon is k a n)
good_colon is k None n t h l e = reach (Colon is k n) h l e
good_colon is k (Some a) n t h l e = dead

pub kind_text : (t : Tested) → IsKind t → test_text t ≡ paren_text t ++ codes ")"
kind_text Texts h = refl
kind_text Nodes h = refl
kind_text _ h = absurd h

pub kind_fine : (t : Tested) → IsKind t → FineTest t
kind_fine (Named n) h = absurd h
kind_fine _ h = tt

-- a step of the scanner reads its byte
pub next : (q : State) (b : ℕ) → Fine q → Good (state_text q ++ b ∷ []) (step q b)
next (Whole is) b f = good_ended is b _ f.before (simp append-nil)
next (Half is) b f =
    let e = sym (append_assoc (items_text is) (codes "/") (b ∷ [])) in
    by_byte b 47 (λ c. items_text is ++ 47 ∷ c ∷ []) e (reach (Want is Slashes) f.before tt) (good_wanted is Slash b _ f.before e)
next (Want is k) b f = good_wanted is k b _ f.before (simp append_assoc)
next (OneDot is k) b f =
    by_byte b 46 (λ c. items_text is ++ (separator_text k ++ 46 ∷ c ∷ [])) (simp append_assoc)
    (reach_whole is k Dots _ f.before tt)
    (good_ended (with is k Dot) b _ (All-push (λ i. FineStep i.step) is _ f.before tt) (ap (λ s. s ++ b ∷ []) (items_snoc is (record { separator = k; step = Dot }))))
next (InName is k a n) b f =
    let e : items_text is ++ (separator_text k ++ (axis_text a ++ (n ++ b ∷ []))) ≡ (items_text is ++ (separator_text k ++ (axis_text a ++ n))) ++ b ∷ [] = simp append_assoc in
    by_cond (goes b)
    (λ x. reach (InName is k a (n ++ b ∷ [])) f.before (f.part.0, longer n b f.part.1 x) e)
    (λ x. by_byte b 58 (λ c. items_text is ++ (separator_text k ++ (axis_text a ++ (n ++ c ∷ [])))) e (good_colon is k a n _ f.before f.part.1)
    (by_byte b 40 (λ c. items_text is ++ (separator_text k ++ (axis_text a ++ (n ++ c ∷ [])))) e (good_kind is k a n _ f.before f.part.0)
    (good_ended (with is k (tested a (Named n))) b _ (All-push (λ i. FineStep i.step) is _ f.before (fine_step a (Named n) f.part.0 f.part.1))
    (rw (items_snoc is (record { separator = k; step = tested a (Named n) }), step_text_lem a (Named n))))))
next (Colon is k n) b f = by_byte b 58 (λ c. items_text is ++ (separator_text k ++ (n ++ 58 ∷ c ∷ []))) (simp append_assoc) (reach (AxisWord is k n) f.before f.part) dead
next (AxisWord is k n) b f = good_test is k (Some n) b _ f.before f.part (simp append_assoc)
next (Paren is k a t) b f =
    by_byte b 41 (λ c. items_text is ++ (separator_text k ++ (axis_text a ++ (paren_text t ++ c ∷ [])))) (simp append_assoc)
    (λ x. reach_whole is k (tested a t) _ f.before (fine_step a t f.part.0 (kind_fine t f.part.1)) (rw (step_text_lem a t, kind_text t f.part.1) x))
    dead
