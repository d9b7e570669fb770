-- How the scanner goes through the parts of a text: what a reader's functions are proved by.
use Rattle.std.proofs.Common.{◌≡◌, ℕ, Bool, true, false, cond, eqb, ◌⊎◌, List, [], ◌∷◌, ◌++◌, Some, None, Err, Option, sym, refl, ap, ◌∙◌, inl, inr, ⊎_elim, append_assoc, append-nil}
use Rattle.std.proofs.lemmas.Bool.{cond-true, cond-false, and_parts, eqb-true, ne_eqb}
use Rattle.names.specs.Classes.{class_of, begins, goes}
use Rattle.names.specs.Names.{all_go, is_name}
use Rattle.grammar.specs.Grammar.{Separator, Slash, Slashes, Tested, Named, Written, Dot, Along, Item}
use Rattle.grammar.specs.Scanner.{State, Whole, Half, Want, OneDot, InName, Colon, AxisWord, Paren, with, tested, ended, test, colon, kind_test, paren_by, named, step, accept, at_end, onward, scan, heads}

-- two states that take the same next byte
pub same_scan : (p q : State) (s : List ℕ) → accept p ≡ accept q → ((b : ℕ) (t : List ℕ) → s ≡ b ∷ t → step p b ≡ step q b) → scan p s ≡ scan q s
same_scan p q [] e h = ap at_end e
same_scan p q (b ∷ s) e h = ap (λ o. onward o (λ r. scan r s) (b ∷ s)) (h b s refl)

pub take_step : (p q : State) (b : ℕ) (s : List ℕ) → step p b ≡ Some q → scan p (b ∷ s) ≡ scan q s
take_step p q b s e = ap (λ o. onward o (λ r. scan r s) (b ∷ s)) e

pub no_step : (p : State) (b : ℕ) (s : List ℕ) → step p b ≡ None → scan p (b ∷ s) ≡ Err (b ∷ s)
no_step p b s e = ap (λ o. onward o (λ r. scan r s) (b ∷ s)) e

no_byte : (p : State) (f : ℕ → Bool) → accept p ≡ None → ((b : ℕ) → f b ≡ false → step p b ≡ None) → (s : List ℕ) → heads f s ≡ false → scan p s ≡ Err s
no_byte p f e g [] h = ap at_end e
no_byte p f e g (b ∷ s) h = no_step p b s (g b h)

accept_with : (is : List Item) (k : Separator) (w : Written) → accept (Whole (with is k w)) ≡ Some (with is k w)
accept_with [] k w = refl
accept_with (i ∷ is) k w = refl

head_of : (f : ℕ → Bool) {s : List ℕ} (b : ℕ) (t : List ℕ) → heads f s ≡ false → s ≡ b ∷ t → f b ≡ false
head_of f b t h e = sym (ap (heads f) e) ∙ h

-- a byte that f holds of is no byte that it does not hold of
pub unlike : (f : ℕ → Bool) (b c : ℕ) → f b ≡ true → f c ≡ false → eqb b c ≡ false
unlike f b c h n = ne_eqb b c (λ e. let g = ap f e in cc)

module _ (is : List Item) (k : Separator) where
  pub one_dot : (s : List ℕ) → heads (λ b. eqb b 46) s ≡ false → scan (Want is k) (46 ∷ s) ≡ scan (Whole (with is k Dot)) s
  one_dot s h =
      same_scan (OneDot is k) (Whole (with is k Dot)) s (sym (accept_with is k Dot)) (λ b t e. cond-false (eqb b 46) _ _ (head_of (λ b. eqb b 46) b t h e))

  -- a name that has ended
  by_mark : (a : Option (List ℕ)) (n : List ℕ) (b : ℕ) → (a ≡ None → eqb b 58 ≡ false) → (eqb b 40 ≡ false) ⊎ (kind_test n ≡ None)
      → named is k a n b ≡ ended (with is k (tested a (Named n))) b
  by_mark a n b c p = go a (eqb b 58) (eqb b 40) refl refl c p
    where
      go : (a : Option (List ℕ)) (x y : Bool) → eqb b 58 ≡ x → eqb b 40 ≡ y → (a ≡ None → x ≡ false) → (y ≡ false) ⊎ (kind_test n ≡ None)
          → cond x (colon is k a n) (cond y (paren_by is k a (kind_test n)) (ended (with is k (tested a (Named n))) b)) ≡ ended (with is k (tested a (Named n))) b
      go None true y ex ey c p = let z = c refl in cc
      go (Some a) true y ex ey c p = sym (ap (ended (with is k (Along a (Named n)))) (eqb-true b 58 ex))
      go a false true ex ey c (inl h) = cc
      go a false true ex ey c (inr h) = ap (paren_by is k a) h ∙ sym (ap (ended (with is k (tested a (Named n)))) (eqb-true b 40 ey))
      go a false false ex ey c p = refl

  pub name_ends : (a : Option (List ℕ)) (n s : List ℕ) → heads goes s ≡ false → (a ≡ None → heads (λ b. eqb b 58) s ≡ false)
      → (heads (λ b. eqb b 40) s ≡ false) ⊎ (kind_test n ≡ None)
      → scan (InName is k a n) s ≡ scan (Whole (with is k (tested a (Named n)))) s
  name_ends a n s g c p =
      same_scan (InName is k a n) (Whole (with is k (tested a (Named n)))) s (sym (accept_with is k (tested a (Named n))))
      (λ b t e. cond-false (goes b) _ _ (head_of goes b t g e) ∙ by_mark a n b (λ z. head_of (λ b. eqb b 58) b t (c z) e) (⊎_elim (λ h. inl (head_of (λ b. eqb b 40) b t h e)) (λ h. inr h) p))

  goes_through : (a : Option (List ℕ)) (n m s : List ℕ) → all_go m ≡ true → scan (InName is k a n) (m ++ s) ≡ scan (InName is k a (n ++ m)) s
  goes_through a n [] s h = ap (λ l. scan (InName is k a l) s) (sym (append-nil n))
  goes_through a n (b ∷ m) s h =
      let p = and_parts (goes b) (all_go m) h in
      take_step (InName is k a n) (InName is k a (n ++ b ∷ [])) b (m ++ s) (cond-true (goes b) _ _ p.0)
      ∙ goes_through a (n ++ b ∷ []) m s p.1
      ∙ ap (λ l. scan (InName is k a l) s) (append_assoc n (b ∷ []) m)

  test_begins : (a : Option (List ℕ)) (b : ℕ) → begins b ≡ true → test is k a b ≡ Some (InName is k a (b ∷ []))
  unfolding class_of
  test_begins a b h = cond-false (eqb b 42) _ _ (unlike begins b 42 h refl) ∙ cond-true (begins b) _ _ h

  from_state : (p : State) (a : Option (List ℕ)) → ((b : ℕ) → begins b ≡ true → step p b ≡ Some (InName is k a (b ∷ []))) → (n s : List ℕ) → is_name n ≡ true → scan p (n ++ s) ≡ scan (InName is k a n) s
  from_state p a f [] s h = cc
  from_state p a f (b ∷ n) s h =
      let q = and_parts (begins b) (all_go n) h in
      take_step p (InName is k a (b ∷ [])) b (n ++ s) (f b q.0) ∙ goes_through a (b ∷ []) n s q.1

  -- a name where a step or a test is wanted
  pub plain_name : (n s : List ℕ) → is_name n ≡ true → scan (Want is k) (n ++ s) ≡ scan (InName is k None n) s
  unfolding class_of
  plain_name = from_state (Want is k) None (λ b h. cond-false (eqb b 46) _ _ (unlike begins b 46 h refl) ∙ test_begins None b h)

  pub axis_name : (a n s : List ℕ) → is_name n ≡ true → scan (AxisWord is k a) (n ++ s) ≡ scan (InName is k (Some a) n) s
  axis_name a = from_state (AxisWord is k a) (Some a) (test_begins (Some a))

  -- what follows a name
  pub axis_ends : (n s : List ℕ) → scan (InName is k None n) (58 ∷ 58 ∷ s) ≡ scan (AxisWord is k n) s
  unfolding class_of
  axis_ends n s = refl

  pub half_axis : (n s : List ℕ) → heads (λ b. eqb b 58) s ≡ false → scan (InName is k None n) (58 ∷ s) ≡ Err s
  unfolding class_of
  half_axis n s h = no_byte (Colon is k n) (λ b. eqb b 58) refl (λ b. cond-false (eqb b 58) _ _) s h

  pub kind_ends : (a : Option (List ℕ)) (n s : List ℕ) (t : Tested) → kind_test n ≡ Some t → scan (InName is k a n) (40 ∷ 41 ∷ s) ≡ scan (Whole (with is k (tested a t))) s
  unfolding class_of
  kind_ends a n s t e = take_step (InName is k a n) (Paren is k a t) 40 (41 ∷ s) (ap (paren_by is k a) e)

  pub half_kind : (a : Option (List ℕ)) (n s : List ℕ) (t : Tested) → kind_test n ≡ Some t → heads (λ b. eqb b 41) s ≡ false → scan (InName is k a n) (40 ∷ s) ≡ Err s
  unfolding class_of
  half_kind a n s t e h = take_step (InName is k a n) (Paren is k a t) 40 s (ap (paren_by is k a) e) ∙ no_byte (Paren is k a t) (λ b. eqb b 41) refl (λ b. cond-false (eqb b 41) _ _) s h

  -- where no test begins
  pub no_test : (a : List ℕ) (s : List ℕ) → heads (λ b. eqb b 42) s ≡ false → heads begins s ≡ false → scan (AxisWord is k a) s ≡ Err s
  no_test a [] m n = refl
  no_test a (b ∷ s) m n = no_step (AxisWord is k a) b s (cond-false (eqb b 42) _ _ m ∙ cond-false (begins b) _ _ n)

-- separators
pub slash_want : (is : List Item) (s : List ℕ) → heads (λ b. eqb b 47) s ≡ false → scan (Whole is) (47 ∷ s) ≡ scan (Want is Slash) s
slash_want is s h = same_scan (Half is) (Want is Slash) s refl (λ b t e. cond-false (eqb b 47) _ _ (head_of (λ b. eqb b 47) b t h e))

pub slashes_want : (is : List Item) (s : List ℕ) → scan (Whole is) (47 ∷ 47 ∷ s) ≡ scan (Want is Slashes) s
slashes_want is s = refl

pub no_separator : (is : List Item) (b : ℕ) (s : List ℕ) → eqb b 47 ≡ false → scan (Whole is) (b ∷ s) ≡ Err (b ∷ s)
no_separator is b s h = no_step (Whole is) b s (cond-false (eqb b 47) _ _ h)
