-- A name's number and a number's name.
use Rattle.std.proofs.Common.{◌≡◌, ◌≢◌, ℕ, zero, suc, ◌+◌, ◌-◌, ◌<◌, ◌≤◌, ◌&&◌, ltb, leb, List, [], ◌∷◌, length, get_or, Some, None, Option, sym, refl, ap, ◌∙◌, subst, inl, inr, arith}
use Rattle.std.specs.Str.{bytes_eq}
use Rattle.std.specs.List.{HoldsAt, AllWithin}
use Rattle.std.proofs.lemmas.Slice.Eq.{bytes_eq-Decides}
use Rattle.std.proofs.lemmas.Bool.{cond-true, cond-false, cases_Bool, and_from, and_parts, lt-ltb, le-leb, ltb-true, leb-true}
use Rattle.std.proofs.lemmas.Bool.Decides.{not_from_Decides}
use Rattle.names.specs.Lists.{number_from, number_of, name_of, Proper, NumbersAre}

-- where a name is found, or that it is nowhere
abbrev Found : ℕ → List (List ℕ) → List ℕ → Option ℕ → Type 0
Found k xs n None = (i : ℕ) → i < length xs → get_or xs i [] ≡ n → ⊥
Found k xs n (Some m) = (i : ℕ) × (i < length xs) × (m ≡ k + i) × (get_or xs i [] ≡ n)

further : (k : ℕ) (x : List ℕ) (xs : List (List ℕ)) (n : List ℕ) → (x ≡ n → ⊥) → (o : Option ℕ) → Found (k + 1) xs n o → Found k (x ∷ xs) n o
further k x xs n other None f = λ i. elim i as (λ j. j < length (x ∷ xs) → get_or (x ∷ xs) j [] ≡ n → ⊥) [ zero ↦ λ lt e. other e | suc j ↦ λ lt e. f j (omega arith) e ]
further k x xs n other (Some m) f = (suc f.0, omega arith, omega arith, f.3)

found : (k : ℕ) (xs : List (List ℕ)) (n : List ℕ) → Found k xs n (number_from k xs n)
found k [] n = λ i lt e. absurd (omega arith)
found k (x ∷ xs) n =
    elim (cases_Bool (bytes_eq x n)) [
      | inl y ↦ subst (Found k (x ∷ xs) n) (sym (cond-true _ _ _ y)) (0, omega arith, omega arith, (bytes_eq-Decides x n).0 y)
      | inr no_one ↦
          subst (Found k (x ∷ xs) n) (sym (cond-false _ _ _ no_one))
          (further k x xs n (not_from_Decides (bytes_eq x n) (bytes_eq-Decides x n) no_one) (number_from (k + 1) xs n) (found (k + 1) xs n))
    ]

-- what name_of says
named : (names : List (List ℕ)) (k : ℕ) → 0 < k → k ≤ length names → name_of names k ≡ Some (get_or names (k - 1) [])
named names k lo hi = cond-true _ _ _ (and_from _ _ (lt-ltb 0 k lo) (le-leb k (length names) hi))

record Named (names : List (List ℕ)) (k : ℕ) (n : List ℕ) : Type 0 where
  low : 0 < k
  high : k ≤ length names
  is : get_or names (k - 1) [] ≡ n

named_parts : (names : List (List ℕ)) (k : ℕ) (n : List ℕ) → name_of names k ≡ Some n → Named names k n
named_parts names k n e =
    elim (cases_Bool (ltb 0 k && leb k (length names))) [
      | inl y ↦
          let p = and_parts (ltb 0 k) _ y in
          let same : Some (get_or names (k - 1) []) ≡ Some n = sym (cond-true _ _ _ y) ∙ e in
          record { low = ltb-true 0 k p.0; high = leb-true k (length names) p.1; is = cc }
      | inr f ↦ let z : ◌≡◌ {A = ℕ} 0 1 = cc (cond-false _ (Some (get_or names (k - 1) [])) None f) in absurd (omega arith)
    ]

pub name_of_number : (names : List (List ℕ)) (n : List ℕ) (k : ℕ) → number_of names n ≡ Some k → name_of names k ≡ Some n
name_of_number names n k e =
    let f : Found 1 names n (Some k) = subst (Found 1 names n) e (found 1 names n) in
    named names k (omega arith) (omega arith) ∙ ap Some (ap (λ i. get_or names i []) (omega arith) ∙ f.3)

number_is : (names : List (List ℕ)) → Proper names → (n : List ℕ) (k : ℕ) → Named names k n → (o : Option ℕ) → Found 1 names n o → o ≡ Some k
number_is names p n k h None f = absurd (f (k - 1) (omega arith) h.is)
number_is names p n k h (Some m) f =
    let same = p.once f.0 (k - 1) f.1 (omega arith) (f.3 ∙ sym h.is) in
    ap Some (omega arith)

pub number_of_name : (names : List (List ℕ)) → Proper names → (n : List ℕ) (k : ℕ) → name_of names k ≡ Some n → number_of names n ≡ Some k
number_of_name names p n k e = number_is names p n k (named_parts names k n e) (number_of names n) (found 1 names n)

-- what a search by place says of the number
pub number_at : (names : List (List ℕ)) → Proper names → (n : List ℕ) (i : ℕ) → i < length names → HoldsAt (λ l. l ≡ n) names i → Some (i + 1) ≡ number_of names n
number_at names p n i lt here = sym (number_of_name names p n (i + 1) (named names (i + 1) (omega arith) (omega arith) ∙ ap Some (ap (λ j. get_or names j []) (omega arith) ∙ here [])))

none_found : (names : List (List ℕ)) (n : List ℕ) → AllWithin (λ l. l ≢ n) names 0 (length names) → (o : Option ℕ) → Found 1 names n o → None ≡ o
none_found names n none None f = refl
none_found names n none (Some m) f = absurd (none f.0 [] (omega arith) f.1 f.3)

pub number_nowhere : (names : List (List ℕ)) (n : List ℕ) → AllWithin (λ l. l ≢ n) names 0 (length names) → None ≡ number_of names n
number_nowhere names n none = none_found names n none (number_of names n) (found 1 names n)

pub numbers_are : NumbersAre
numbers_are names p n k = (name_of_number names n k, number_of_name names p n k)
