-- A text with no bad line is the text of names that a list may hold, and the other way round; and what a bad line is.
use Rattle.std.proofs.Common.{◌≡◌, ℕ, suc, ◌+◌, ◌<◌, ◌≤◌, true, false, not, ltb, leb, List, [], ◌∷◌, ◌++◌, length, get_or, Some, None, Option, sym, refl, ap, ◌∙◌, subst, inl, inr, not-suc-le-zero, arith}
use Rattle.std.specs.Str.{bytes_eq}
use Rattle.std.proofs.lemmas.List.{append-nil, nil_from_length, append_assoc, length-append, length_push, get_or_append_left, get_or_at, get_or_push}
use Rattle.std.proofs.ByRecursion.{All-get_or, All-push, All-weaker}
use Rattle.std.proofs.lemmas.List.Recursion.{or_at, or_from_places}
use Rattle.std.proofs.lemmas.Slice.Eq.{bytes_eq-Decides}
use Rattle.std.proofs.lemmas.Bool.{cond-true, cond-false, cases_Bool, cases_lt, and_from, and_parts, lt-ltb, le-ltb, le-leb, ltb-true, leb-true, false≢true}
use Rattle.names.specs.Names.{is_name, member}
use Rattle.names.specs.Lists.{Plain, lines, good, bad_from, first_bad, ended, Proper, IsBadLine, ListsExact}
use Rattle.names.specs.Listed.{listed}
use Rattle.names.specs.declared.list.NameList.{NameList}
use Rattle.names.proofs.Cuts.{Cut, Cuts, cuts, first_line, ended_append, ended_lines, plain_name}

pub none_proper : Proper []
none_proper = record { few = omega arith; named = tt; once = λ i j hi hj e. absurd (not-suc-le-zero hi) }

record Good (seen : List (List ℕ)) (l : List ℕ) : Type 0 where
  few : length seen < 1024
  name : is_name l ≡ true
  short : length l ≤ 32
  new : (k : ℕ) → k < length seen → get_or seen k [] ≡ l → ⊥

parts : (seen : List (List ℕ)) (l : List ℕ) → good seen l ≡ true → Good seen l
parts seen l g =
    let p = and_parts (ltb (length seen) 1024) _ g in
    let q = and_parts (is_name l) _ p.1 in
    let r = and_parts (leb (length l) 32) _ q.1 in
    record {
      few = ltb-true (length seen) 1024 p.0;
      name = q.0;
      short = leb-true (length l) 32 r.0;
      new = λ k lt e. false≢true (sym (ap not (or_at (member l) (λ x. bytes_eq x l) refl (λ _ _. refl) seen k [] lt ((bytes_eq-Decides _ l).1 e))) ∙ r.1);
    }

-- a good line makes a longer list
module _ (seen : List (List ℕ)) (l : List ℕ) (p : Proper seen) (g : good seen l ≡ true) where
  once : (i j : ℕ) → i < length (seen ++ l ∷ []) → j < length (seen ++ l ∷ []) → get_or (seen ++ l ∷ []) i [] ≡ get_or (seen ++ l ∷ []) j [] → i ≡ j
  once i j hi hj e =
      let long = length_push seen l in
      elim (cases_lt i (length seen)) [
        | inl li ↦ elim (cases_lt j (length seen)) [
          | inl lj ↦ p.once i j li lj (sym (get_or_append_left seen (l ∷ []) [] i li) ∙ e ∙ get_or_append_left seen (l ∷ []) [] j lj)
          | inr gj ↦ absurd ((parts seen l g).new i li (sym (get_or_append_left seen (l ∷ []) [] i li) ∙ e ∙ get_or_push seen l [] j (omega arith)))
        ]
        | inr gi ↦ elim (cases_lt j (length seen)) [
          | inl lj ↦ absurd ((parts seen l g).new j lj (sym (get_or_append_left seen (l ∷ []) [] j lj) ∙ sym e ∙ get_or_push seen l [] i (omega arith)))
          | inr gj ↦ omega arith
        ]
      ]

  pub good_proper : Proper (seen ++ l ∷ [])
  good_proper =
      let h = parts seen l g in
      record {
        few = omega (arith, length_push seen l);
        named = All-push (λ n. (is_name n ≡ true) × (length n ≤ 32)) seen l p.named (h.name, h.short);
        once = once;
      }

-- and each line of a list is good after those before it
pub good_of : (seen : List (List ℕ)) (l : List ℕ) (ls : List (List ℕ)) → Proper (seen ++ l ∷ ls) → good seen l ≡ true
good_of seen l ls p =
    let long = length-append seen (l ∷ ls) in
    let lt : length seen < length (seen ++ l ∷ ls) = omega arith in
    let here : get_or (seen ++ l ∷ ls) (length seen) [] ≡ l = get_or_at seen l ls [] (length seen) refl in
    let ok : (is_name l ≡ true) × (length l ≤ 32) = subst (λ (n : List ℕ). (is_name n ≡ true) × (length n ≤ 32)) here (All-get_or (λ n. (is_name n ≡ true) × (length n ≤ 32)) (seen ++ l ∷ ls) (length seen) [] lt p.named) in
    let other : (k : ℕ) → k < length seen → bytes_eq (get_or seen k []) l ≡ false = λ k lt'. elim (cases_Bool (bytes_eq (get_or seen k []) l)) [
      | inl e ↦
          let same = p.once k (length seen) (omega arith) lt (get_or_append_left seen (l ∷ ls) [] k lt' ∙ (bytes_eq-Decides _ l).0 e ∙ sym here) in
          absurd (omega arith)
      | inr e ↦ e
    ] in
    let fresh : not (member l seen) ≡ true = ap not (or_from_places (member l) (λ x. bytes_eq x l) refl (λ _ _. refl) seen [] other) in
    and_from _ _ (lt-ltb (length seen) 1024 (omega (arith, p.few))) (and_from _ _ ok.0 (and_from _ _ (le-leb (length l) 32 ok.1) fresh))

pub ended_push : (seen : List (List ℕ)) (l : List ℕ) → length (ended (seen ++ l ∷ [])) ≡ length (ended seen) + (length l + 1)
ended_push seen l = ap length (ended_append seen (l ∷ [])) ∙ length-append (ended seen) (l ++ 10 ∷ []) ∙ ap (λ n. length (ended seen) + n) (length_push l 10)

pub ended_more : (seen : List (List ℕ)) (l rest after : List ℕ) → rest ≡ l ++ 10 ∷ after → ended seen ++ rest ≡ ended (seen ++ l ∷ []) ++ after
ended_more seen l rest after e =
    ap (λ r. ended seen ++ r) (e ∙ sym (append_assoc l (10 ∷ []) after))
    ∙ sym (append_assoc (ended seen) (l ++ 10 ∷ []) after)
    ∙ ap (λ r. r ++ after) (sym (ended_append seen (l ∷ [])))

abbrev Judged : List ℕ → List (List ℕ) → Option ℕ → Type 0
Judged text names None = Proper names × (text ≡ ended names)
Judged text names (Some p) = IsBadLine text p

judge : (text : List ℕ) (seen ls : List (List ℕ)) (rest : List ℕ) → lines rest ≡ ls → text ≡ ended seen ++ rest → Proper seen → Judged text (seen ++ ls) (bad_from (length text) seen (length (ended seen)) ls)
judge text seen [] rest e s p =
    let long = ap length s ∙ length-append (ended seen) rest in
    elim (cases_lt (length (ended seen)) (length text)) [
      | inl lt ↦
          subst (Judged text (seen ++ [])) (sym (cond-true _ _ _ (lt-ltb (length (ended seen)) (length text) lt)))
          (record {
            before = seen;
            rest = rest;
            split = s;
            proper = p;
            place = refl;
            something = omega arith;
            bad = λ l more h is q. let z : 0 ≡ suc (length (lines more)) = ap length (sym e ∙ first_line l more h is) in omega arith;
          })
      | inr ge ↦
          subst (Judged text (seen ++ [])) (sym (cond-false _ _ _ (le-ltb (length (ended seen)) (length text) ge)))
          (subst (λ (ns : List (List ℕ)). Proper ns × (text ≡ ended ns)) (sym (append-nil seen))
          (p, s ∙ ap (λ r. ended seen ++ r) (nil_from_length rest (omega arith)) ∙ append-nil (ended seen)))
    ]
judge text seen (l ∷ ls) rest e s p =
    let cut : Cut rest l ls = subst (Cuts rest) e (cuts rest) in
    elim (cases_Bool (good seen l)) [
      | inl g ↦
          subst (Judged text (seen ++ l ∷ ls)) (sym (cond-true _ _ _ g))
          (subst (λ (n : ℕ). Judged text (seen ++ l ∷ ls) (bad_from (length text) (seen ++ l ∷ []) n ls)) (ended_push seen l)
          (subst (λ (ns : List (List ℕ)). Judged text ns (bad_from (length text) (seen ++ l ∷ []) (length (ended (seen ++ l ∷ []))) ls)) (append_assoc seen (l ∷ []) ls)
          (judge text (seen ++ l ∷ []) ls cut.after cut.left (s ∙ ended_more seen l rest cut.after cut.split) (good_proper seen l p g))))
      | inr b ↦
          subst (Judged text (seen ++ l ∷ ls)) (sym (cond-false _ _ _ b))
          (record {
            before = seen;
            rest = rest;
            split = s;
            proper = p;
            place = refl;
            something = omega (arith, ap length cut.split, length-append l (10 ∷ cut.after));
            bad = λ l' more h is q.
                let same : l' ≡ l = cc (first_line l' more h is) in
                false≢true (sym b ∙ ap (good seen) (sym same) ∙ good_of seen l' [] q);
          })
    ]

judged : (text : List ℕ) → Judged text (lines text) (first_bad text)
judged text = judge text [] (lines text) text refl refl none_proper

pub proper_of : (text : List ℕ) → first_bad text ≡ None → Proper (lines text)
proper_of text e = let j : Judged text (lines text) None = subst (Judged text (lines text)) e (judged text) in j.0

pub text_of : (text : List ℕ) → first_bad text ≡ None → text ≡ ended (lines text)
text_of text e = let j : Judged text (lines text) None = subst (Judged text (lines text)) e (judged text) in j.1

pub bad_of : (text : List ℕ) (p : ℕ) → first_bad text ≡ Some p → IsBadLine text p
bad_of text p e = subst (Judged text (lines text)) e (judged text)

pub listed_proper : (list : NameList) → Proper (listed list)
listed_proper list = proper_of list.bytes.now list.good

-- the other way round
pub lines_of : (names : List (List ℕ)) → Proper names → lines (ended names) ≡ names
lines_of names p = ap lines (sym (append-nil (ended names))) ∙ ended_lines names [] (All-weaker (λ n. (is_name n ≡ true) × (length n ≤ 32)) Plain (λ n h. plain_name n h.0) names p.named) ∙ append-nil names

none_bad : (names seen ls : List (List ℕ)) → names ≡ seen ++ ls → Proper names → bad_from (length (ended names)) seen (length (ended seen)) ls ≡ None
none_bad names seen [] e p = cond-false _ _ _ (le-ltb (length (ended seen)) (length (ended names)) (omega (arith, ap (λ ns. length (ended ns)) (e ∙ append-nil seen))))
none_bad names seen (l ∷ ls) e p =
    cond-true _ _ _ (good_of seen l ls (subst Proper e p))
    ∙ ap (λ n. bad_from (length (ended names)) (seen ++ l ∷ []) n ls) (sym (ended_push seen l))
    ∙ none_bad names (seen ++ l ∷ []) ls (e ∙ sym (append_assoc seen (l ∷ []) ls)) p

pub lists_exact : ListsExact
lists_exact names p = (ap (bad_from (length (ended names)) [] 0) (lines_of names p) ∙ none_bad names [] names refl p, lines_of names p)
