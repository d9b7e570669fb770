-- How a text is cut into lines.
use Rattle.std.proofs.Common.{◌≡◌, ◌≢◌, ℕ, ◌+◌, ◌-◌, ◌<◌, true, ◌&&◌, ◌||◌, eqb, List, [], ◌∷◌, ◌++◌, length, get_or, take, drop, sym, refl, ap, ◌∙◌, subst, inl, inr, arith, take-append-drop}
use Rattle.std.specs.List.{AllByRecursion, AllWithin, HoldsAt}
use Rattle.std.proofs.ByRecursion.{all_from_every}
use Rattle.std.proofs.lemmas.List.{append_assoc, drop_more, take_rest, length-take, get_or-take}
use Rattle.std.proofs.lemmas.Bool.{cond-true, cond-false, ne_eqb, eq-eqb, and_parts, cases_eq, false≢true}
use Rattle.names.specs.Classes.{class_of, begins, goes}
use Rattle.names.specs.Names.{is_name, all_go}
use Rattle.names.specs.Lists.{Plain, onto, lines, ended}

-- the byte at n ends the line
pub cut_at : (s : List ℕ) (n : ℕ) → n < length s → get_or s n 0 ≡ 10 → s ≡ take n s ++ 10 ∷ drop (n + 1) s
cut_at s n lt e = sym (take-append-drop n s) ∙ ap (λ l. take n s ++ l) (drop_more s n 0 lt ∙ ap (λ b. b ∷ drop (n + 1) s) e)

pub one_line : (l r : List ℕ) → Plain l → lines (l ++ 10 ∷ r) ≡ l ∷ lines r
one_line [] r h = refl
one_line (x ∷ l) r h = cond-false _ _ _ (ne_eqb x 10 h.0) ∙ ap (onto x) (one_line l r h.1)

pub no_line : (l : List ℕ) → Plain l → lines l ≡ []
no_line [] h = refl
no_line (x ∷ l) h = cond-false _ _ _ (ne_eqb x 10 h.0) ∙ ap (onto x) (no_line l h.1)

pub first_line : {s : List ℕ} (l r : List ℕ) → Plain l → s ≡ l ++ 10 ∷ r → lines s ≡ l ∷ lines r
first_line l r h e = ap lines e ∙ one_line l r h

-- the first byte 10 ends the first line
pub cut_first : (s : List ℕ) (i : ℕ) → i < length s → HoldsAt (λ b. b ≡ 10) s i → AllWithin (λ b. b ≢ 10) s 0 i → lines s ≡ take i s ∷ lines (drop (i + 1) s)
cut_first s i lt here before =
    let plain = all_from_every (λ b. b ≢ 10) (take i s) (λ k d lo hi. let lt' : k < i = omega (arith, length-take i s) in rw (get_or-take i s k d lt') (before k d lo lt')) in
    first_line (take i s) (drop (i + 1) s) plain (cut_at s i lt (here 0))

pub uncut : (s : List ℕ) → AllWithin (λ b. b ≢ 10) s 0 (length s) → lines s ≡ []
uncut s none = no_line s (all_from_every (λ b. b ≢ 10) s none)

-- the text of names, and what follows it
pub ended_append : (xs ys : List (List ℕ)) → ended (xs ++ ys) ≡ ended xs ++ ended ys
ended_append [] ys = refl
ended_append (x ∷ xs) ys = ap (λ l. x ++ 10 ∷ l) (ended_append xs ys) ∙ sym (append_assoc x (10 ∷ ended xs) (ended ys))

pub ended_lines : (xs : List (List ℕ)) (r : List ℕ) → AllByRecursion Plain xs → lines (ended xs ++ r) ≡ xs ++ lines r
ended_lines [] r h = refl
ended_lines (x ∷ xs) r h =
    ap lines (append_assoc x (10 ∷ ended xs) r) ∙ one_line x (ended xs ++ r) h.0 ∙ ap (λ l. x ∷ l) (ended_lines xs r h.1)

-- a text by its lines
pub record Cut (s l : List ℕ) (ls : List (List ℕ)) : Type 0 where
  pub after : List ℕ
  pub plain : Plain l
  pub split : s ≡ l ++ 10 ∷ after
  pub left : lines after ≡ ls

abbrev pub Cuts : List ℕ → List (List ℕ) → Type 0
Cuts s [] = Plain s
Cuts s (l ∷ ls) = Cut s l ls

longer : (b : ℕ) → (b ≡ 10 → ⊥) → (s : List ℕ) (ls : List (List ℕ)) → Cuts s ls → Cuts (b ∷ s) (onto b ls)
longer b n s [] h = (n, h)
longer b n s (l ∷ ls) h = record { after = h.after; plain = (n, h.plain); split = ap (λ r. b ∷ r) h.split; left = h.left }

pub cuts : (s : List ℕ) → Cuts s (lines s)
cuts [] = tt
cuts (b ∷ s) =
    elim (cases_eq b 10) [
      | inl e ↦ subst (Cuts (b ∷ s)) (sym (cond-true _ _ _ (eq-eqb b 10 e))) (record { after = s; plain = tt; split = ap (λ x. x ∷ s) e; left = refl })
      | inr n ↦ subst (Cuts (b ∷ s)) (sym (cond-false _ _ _ (ne_eqb b 10 n))) (longer b n s (lines s) (cuts s))
    ]

-- a name by its first byte and the others
pub named : (l : List ℕ) → is_name l ≡ (begins (get_or l 0 0) && all_go (take (length l - 1) (drop 1 l)))
unfolding class_of
named [] = refl
named (x ∷ l) = ap (λ r. begins x && all_go r) (sym (take_rest (x ∷ l) 1))

-- no name has a line's end in it
goes_plain : (b : ℕ) → goes b ≡ true → b ≡ 10 → ⊥
unfolding class_of
goes_plain b g e = false≢true (sym (ap goes e) ∙ g)

all_plain : (l : List ℕ) → all_go l ≡ true → Plain l
all_plain [] h = tt
all_plain (b ∷ l) h = let p = and_parts (goes b) (all_go l) h in (goes_plain b p.0, all_plain l p.1)

pub plain_name : (l : List ℕ) → is_name l ≡ true → Plain l
plain_name [] h = tt
plain_name (b ∷ l) h =
    let p = and_parts (begins b) (all_go l) h in
    (goes_plain b (ap (λ x. x || eqb (class_of b) 2) p.0), all_plain l p.1)
