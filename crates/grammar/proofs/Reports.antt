-- What the scanner answers is what the grammar says: the items of a path, or where a text leaves every path.
use Rattle.std.proofs.Common.{◌≡◌, ℕ, suc, ◌+◌, ◌-◌, ◌<◌, ◌≤◌, Bool, true, false, eqb, List, [], ◌∷◌, ◌++◌, length, take, Some, None, Ok, Err, codes, Option, Result, sym, refl, ap, ◌∙◌, subst, inl, append_assoc, append-nil, arith}
use Rattle.std.proofs.ByRecursion.{All-push}
use Rattle.std.proofs.lemmas.List.{length-append, take_at}
use Rattle.std.proofs.Math.Seq.{take-append-add}
use Rattle.std.proofs.lemmas.Bool.{and_parts}
use Rattle.names.specs.Classes.{class_of, begins, goes}
use Rattle.names.specs.Names.{all_go, is_name}
use Rattle.grammar.specs.Grammar.{Separator, Slash, Slashes, Tested, Named, Star, Texts, Nodes, Written, Dot, Dots, Plain, Along, Item, IsItems, one, more, IsPath, root, items, Viable, IsNotPath, PathsOnce}
use Rattle.grammar.specs.Texts.{separator_text, test_text, step_text, item_text, items_text}
use Rattle.grammar.specs.Scanner.{State, Whole, Half, Want, OneDot, InName, Colon, AxisWord, Paren, with, tested, step, accept, at_end, onward, scan, begin, heads}
use Rattle.grammar.proofs.Yields.{FineTest, FineStep, FineItems, derive_items, yield_items, items_snoc}
use Rattle.grammar.proofs.Scans.{Fine, Reached, Good, alive, next, state_text, step_text_lem, fine_step, kind_text, kind_fine}
use Rattle.grammar.proofs.Onward.{take_step, no_step, one_dot, name_ends, plain_name, axis_name, axis_ends, kind_ends, slash_want, slashes_want, unlike}

-- from what has been read to a derivation
derive_snoc : (is : List Item) (i : Item) → FineItems (is ++ i ∷ []) → IsItems (items_text (is ++ i ∷ [])) (is ++ i ∷ [])
derive_snoc [] i h = derive_items i [] h
derive_snoc (j ∷ is) i h = derive_items j (is ++ i ∷ []) h

derive_with : (is : List Item) (k : Separator) (w : Written) (t : List ℕ) → FineItems is → FineStep w → items_text is ++ (separator_text k ++ step_text w) ≡ t → IsItems t (with is k w)
derive_with is k w t h l e =
    let i : Item = record { separator = k; step = w } in
    subst (λ s. IsItems s (is ++ i ∷ [])) (items_snoc is i ∙ e) (derive_snoc is i (All-push (λ i. FineStep i.step) is i h l))

accepts : (q : State) → Fine q → (is : List Item) → accept q ≡ Some is → IsItems (state_text q) is
accepts (Whole []) f js e = cc
accepts (Whole (i ∷ is)) f js e = let same : i ∷ is ≡ js = cc in subst (IsItems _) same (rw append-nil (derive_items i is f.before))
accepts (OneDot is k) f js e = let same : with is k Dot ≡ js = cc in subst (IsItems _) same (derive_with is k Dot _ f.before tt refl)
accepts (InName is k a n) f js e =
    let same : with is k (tested a (Named n)) ≡ js = cc in
    subst (IsItems _) same (derive_with is k (tested a (Named n)) _ f.before (fine_step a (Named n) f.part.0 f.part.1) (rw (step_text_lem a (Named n))))
accepts _ f js e = cc

-- what has been read goes on to a path
goes_on : (is : List Item) (k : Separator) (w : Written) (s rest : List ℕ) → FineItems is → FineStep w → items_text is ++ (separator_text k ++ step_text w) ≡ s ++ rest → Viable s
goes_on is k w s rest h l e = (rest, with is k w, items (derive_with is k w (s ++ rest) h l e))

completes : (q : State) → Fine q → Viable (state_text q)
completes (Whole []) f = (codes "/", [], root)
completes (Whole (i ∷ is)) f = ([], i ∷ is, items (simp append-nil (derive_items i is f.before)))
completes (Half is) f = goes_on is Slash Dot _ (codes ".") f.before tt (simp append_assoc)
completes (Want is k) f = goes_on is k Dot _ (codes ".") f.before tt (simp append_assoc)
completes (OneDot is k) f = goes_on is k Dot _ [] f.before tt (simp append-nil)
completes (InName is k a n) f = goes_on is k (tested a (Named n)) _ [] f.before (fine_step a (Named n) f.part.0 f.part.1) (rw (step_text_lem a (Named n)) (simp append-nil))
completes (Colon is k n) f = goes_on is k (Along n Star) _ (codes ":*") f.before (f.part, tt) (simp append_assoc)
completes (AxisWord is k n) f = goes_on is k (Along n Star) _ (codes "*") f.before (f.part, tt) (simp append_assoc)
completes (Paren is k a t) f = goes_on is k (tested a t) _ (codes ")") f.before (fine_step a t f.part.0 (kind_fine t f.part.1)) (rw (step_text_lem a t, kind_text t f.part.1) (simp append_assoc))

-- the text leaves every path where rest begins
pub record Left (text rest : List ℕ) : Type 0 where
  pub front : List ℕ
  pub split : text ≡ front ++ rest
  pub viable : Viable front

abbrev Report : List ℕ → Result (List Item) (List ℕ) → Type 0
Report text (Ok is) = IsItems text is
Report text (Err rest) = Left text rest

report : (q : State) (s : List ℕ) → Fine q → Report (state_text q ++ s) (scan q s)
report q [] f = go (accept q) refl
  where
    go : (o : Option (List Item)) → accept q ≡ o → Report (state_text q ++ []) (at_end o)
    go None e = record { front = state_text q; split = refl; viable = completes q f }
    go (Some is) e = rw append-nil (accepts q f is e)
report q (b ∷ s) f = go (step q b) (next q b f) (λ p h. report p s h.fine)
  where
    go : (o : Option State) → Good (state_text q ++ b ∷ []) o → ((p : State) → Reached (state_text q ++ b ∷ []) p → Report (state_text p ++ s) (scan p s)) → Report (state_text q ++ b ∷ s) (onward o (λ p. scan p s) (b ∷ s))
    go None g r = record { front = state_text q; split = refl; viable = completes q f }
    go (Some p) (alive h) r = subst (λ t. Report t (scan p s)) (ap (λ t. t ++ s) h.text ∙ append_assoc (state_text q) (b ∷ []) s) (r p h)

begin_fine : Fine begin
begin_fine = record { before = tt; part = tt }

pub found : (text : List ℕ) (is : List Item) → scan begin text ≡ Ok is → IsItems text is
found text is e = subst (Report text) e (report begin text begin_fine)

pub left : (text rest : List ℕ) → scan begin text ≡ Err rest → Left text rest
left text rest e = subst (Report text) e (report begin text begin_fine)

-- from a derivation to what the scanner finds
abbrev Ended : List ℕ → Type 0
Ended s = (f : ℕ → Bool) → f 47 ≡ false → heads f s ≡ false

items_ended : (is : List Item) → Ended (items_text is)
items_ended [] f h = refl
items_ended (i ∷ is) f h = go i.separator
  where
    go : (k : Separator) → heads f ((separator_text k ++ step_text i.step) ++ items_text is) ≡ false
    go Slash = h
    go Slashes = h

module _ (acc : List Item) (k : Separator) (rest : List ℕ) (end : Ended rest) where
  -- from a state p that takes a name into InName, and a star
  test_through : (p : State) (a : Option (List ℕ)) → ((n s : List ℕ) → is_name n ≡ true → scan p (n ++ s) ≡ scan (InName acc k a n) s) → step p 42 ≡ Some (Whole (with acc k (tested a Star)))
      → (t : Tested) → FineTest t → scan p (test_text t ++ rest) ≡ scan (Whole (with acc k (tested a t))) rest
  unfolding class_of
  test_through p a into star (Named n) h = into n rest h ∙ name_ends acc k a n rest (end goes refl) (λ e. end (λ b. eqb b 58) refl) (inl (end (λ b. eqb b 40) refl))
  test_through p a into star Star h = take_step p (Whole (with acc k (tested a Star))) 42 rest star
  test_through p a into star Texts h = into (codes "text") (40 ∷ 41 ∷ rest) refl ∙ kind_ends acc k a (codes "text") rest Texts refl
  test_through p a into star Nodes h = into (codes "node") (40 ∷ 41 ∷ rest) refl ∙ kind_ends acc k a (codes "node") rest Nodes refl

  step_through : (w : Written) → FineStep w → scan (Want acc k) (step_text w ++ rest) ≡ scan (Whole (with acc k w)) rest
  step_through Dot h = one_dot acc k rest (end (λ b. eqb b 46) refl)
  step_through Dots h = refl
  step_through (Plain t) h = test_through (Want acc k) None (plain_name acc k) refl t h
  step_through (Along a t) h =
      ap (scan (Want acc k)) (append_assoc a (58 ∷ 58 ∷ test_text t) rest)
      ∙ plain_name acc k a (58 ∷ 58 ∷ (test_text t ++ rest)) h.0
      ∙ axis_ends acc k a (test_text t ++ rest)
      ∙ test_through (AxisWord acc k a) (Some a) (axis_name acc k a) refl t h.1

name_head : (n s : List ℕ) → is_name n ≡ true → heads (λ b. eqb b 47) (n ++ s) ≡ false
unfolding class_of
name_head [] s h = cc
name_head (b ∷ n) s h = unlike begins b 47 (and_parts (begins b) (all_go n) h).0 refl

step_head : (w : Written) (s : List ℕ) → FineStep w → heads (λ b. eqb b 47) (step_text w ++ s) ≡ false
step_head (Plain (Named n)) s h = name_head n s h
step_head (Along a t) s h = ap (heads (λ b. eqb b 47)) (append_assoc a (58 ∷ 58 ∷ test_text t) s) ∙ name_head a (58 ∷ 58 ∷ (test_text t ++ s)) h.0
step_head _ s h = refl

separated : (acc : List Item) (k : Separator) (s : List ℕ) → heads (λ b. eqb b 47) s ≡ false → scan (Whole acc) (separator_text k ++ s) ≡ scan (Want acc k) s
separated acc Slash s h = slash_want acc s h
separated acc Slashes s h = slashes_want acc s

item_through : (acc : List Item) (i : Item) (rest : List ℕ) → Ended rest → FineStep i.step → scan (Whole acc) (item_text i ++ rest) ≡ scan (Whole (acc ++ i ∷ [])) rest
item_through acc i rest end h =
    ap (scan (Whole acc)) (append_assoc (separator_text i.separator) (step_text i.step) rest)
    ∙ separated acc i.separator (step_text i.step ++ rest) (step_head i.step rest h)
    ∙ step_through acc i.separator rest end i.step h

items_through : (acc is : List Item) → FineItems is → scan (Whole acc) (items_text is) ≡ scan (Whole (acc ++ is)) []
items_through acc [] h = ap (λ l. scan (Whole l) []) (sym (append-nil acc))
items_through acc (i ∷ is) h =
    item_through acc i (items_text is) (items_ended is) h.0
    ∙ items_through (acc ++ i ∷ []) is h.1
    ∙ ap (λ l. scan (Whole l) []) (append_assoc acc (i ∷ []) is)

some_items : {s : List ℕ} {is : List Item} → IsItems s is → scan (Whole is) [] ≡ Ok is
some_items (one h) = refl
some_items (more h l) = refl

pub finds : {s : List ℕ} {is : List Item} → IsItems s is → scan begin s ≡ Ok is
finds {s} {is} h = let y = yield_items h in ap (scan begin) y.0 ∙ items_through [] is y.1 ∙ some_items h

-- a byte that no path goes on with is fatal, whatever follows it
pub record Stuck (q : State) (s : List ℕ) (b : ℕ) (r : List ℕ) : Type 0 where
  pub front : List ℕ
  pub split : s ≡ front ++ b ∷ r
  pub stays : (t : List ℕ) → scan q (front ++ b ∷ t) ≡ Err (b ∷ t)

stuck : (q : State) (s : List ℕ) (b : ℕ) (r : List ℕ) → scan q s ≡ Err (b ∷ r) → Stuck q s b r
stuck q [] b r e = absurd (go (accept q) e)
  where
    go : (o : Option (List Item)) → at_end o ≡ Err (b ∷ r) → ⊥
    go None e = cc
    go (Some is) e = cc
stuck q (c ∷ s) b r e = go (step q c) refl (λ p h. stuck p s b r h) e
  where
    go : (o : Option State) → step q c ≡ o → ((p : State) → scan p s ≡ Err (b ∷ r) → Stuck p s b r) → onward o (λ p. scan p s) (c ∷ s) ≡ Err (b ∷ r) → Stuck q (c ∷ s) b r
    go None n f e =
        let same : c ∷ s ≡ b ∷ r = cc in
        let byte : c ≡ b = cc in
        record { front = []; split = same; stays = λ t. no_step q b t (ap (step q) (sym byte) ∙ n) }
    go (Some p) n f e =
        let h = f p e in
        record { front = c ∷ h.front; split = ap (λ l. c ∷ l) h.split; stays = λ t. take_step q p c (h.front ++ b ∷ t) n ∙ h.stays t }

-- a path that the scanner gets stuck in is the root's alone
only_root : {s : List ℕ} {is : List Item} → IsPath s is → (rest : List ℕ) → scan begin s ≡ Err rest → (s ≡ codes "/") × (rest ≡ [])
only_root root rest e = let same : [] ≡ rest = cc in (refl, sym same)
only_root (items h) rest e = let f = finds h in cc

pub not_path : (text rest : List ℕ) → (text ≡ codes "/" → ⊥) → scan begin text ≡ Err rest → IsNotPath text (length text - length rest)
not_path text rest no-root e =
    let l = left text rest e in
    let long : length text ≡ length l.front + length rest = ap length l.split ∙ length-append l.front rest in
    let k : length text - length rest ≡ length l.front = omega arith in
    let front : take (length text - length rest) text ≡ l.front = ap (λ n. take n text) k ∙ ap (take (length l.front)) l.split ∙ take_at l.front rest _ refl in
    record {
      none = λ is p. no-root (only_root p rest e).0;
      within = omega arith;
      viable = subst Viable (sym front) l.viable;
      longest = past rest e;
    }
  where
    past : (rest : List ℕ) → scan begin text ≡ Err rest → (j : ℕ) → length text - length rest < j → j ≤ length text → Viable (take j text) → ⊥
    past [] e j lt le v = omega arith
    past (b ∷ r) e j lt le v =
        let h = stuck begin text b r e in
        let long : length text ≡ length h.front + length (b ∷ r) = ap length h.split ∙ length-append h.front (b ∷ r) in
        let n = j - suc (length h.front) in
        let i : j ≡ length h.front + suc n = omega arith in
        let more : take j (h.front ++ b ∷ r) ≡ h.front ++ b ∷ take n r = ap (λ k. take k (h.front ++ b ∷ r)) i ∙ take-append-add h.front (b ∷ r) (suc n) in
        let whole : take j text ++ v.0 ≡ h.front ++ b ∷ (take n r ++ v.0) = ap (λ s. take j s ++ v.0) h.split ∙ ap (λ s. s ++ v.0) more ∙ append_assoc h.front (b ∷ take n r) v.0 in
        let none : b ∷ (take n r ++ v.0) ≡ [] = (only_root v.2 _ (ap (scan begin) whole ∙ h.stays (take n r ++ v.0))).1 in
        omega (arith, ap length none)

root_empty : {s : List ℕ} {is : List Item} → IsPath s is → s ≡ codes "/" → is ≡ []
root_empty root e = refl
root_empty (items h) e = let f = finds h in let g = ap (scan begin) e in cc

pub paths_once : PathsOnce
paths_once text is js root q = sym (root_empty q refl)
paths_once text is js (items h) root = root_empty (items h) refl
paths_once text is js (items h) (items l) = let p = finds h in let q = finds l in cc
