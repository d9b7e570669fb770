-- The search for the first bad line.
use Rattle.std.proofs.Common.{◌≡◌, ℕ, ◌+◌, ◌≤◌, true, false, List, [], ◌∷◌, ◌++◌, length, take, Some, sym, refl, ap, ◌∙◌, subst, inl, inr, arith}
use Rattle.std.proofs.lemmas.List.{append_assoc, length-append, length_push, take_at}
use Rattle.std.proofs.lemmas.Bool.{cond-true, cond-false, cases_eq, ne_eqb, eq-eqb}
use Rattle.names.specs.Lists.{lines, onto, good, bad_from, first_bad, ended, Proper}
use Rattle.names.proofs.Cuts.{Cut, Cuts, cuts}
use Rattle.names.proofs.Laws.{none_proper, good_proper, ended_push, lines_of}

-- a text begins with its first lines
begun : (seen ls : List (List ℕ)) (text : List ℕ) → lines text ≡ seen ++ ls → (rest : List ℕ) × (text ≡ ended seen ++ rest)
begun [] ls text e = (text, refl)
begun (n ∷ ns) ls text e =
    let cut : Cut text n (ns ++ ls) = subst (Cuts text) e (cuts text) in
    let more = begun ns ls cut.after cut.left in
    (more.0, cut.split ∙ ap (λ r. n ++ 10 ∷ r) more.1 ∙ sym (append_assoc n (10 ∷ ended ns) more.0))

length-onto : (b : ℕ) (ls : List (List ℕ)) → length (onto b ls) ≡ length ls
length-onto b [] = refl
length-onto b (l ∷ ls) = refl

-- no more lines than bytes
pub few_lines : (text : List ℕ) → length (lines text) ≤ length text
few_lines [] = omega arith
few_lines (b ∷ bs) =
    elim (cases_eq b 10) [
      | inl e ↦ omega (arith, few_lines bs, ap length (cond-true _ ([] ∷ lines bs) (onto b (lines bs)) (eq-eqb b 10 e)))
      | inr n ↦ omega (arith, few_lines bs, ap length (cond-false _ ([] ∷ lines bs) (onto b (lines bs)) (ne_eqb b 10 n)), length-onto b (lines bs))
    ]

-- the lines before are good, `count` of them in `at` bytes, and the first bad line is sought among those left
pub record Sofar (text : List ℕ) (left : List (List ℕ)) (count at : ℕ) : Type 0 where
  pub seen : List (List ℕ)
  pub split : lines text ≡ seen ++ left
  pub proper : Proper seen
  pub many : count ≡ length seen
  pub place : at ≡ length (ended seen)
  pub same : bad_from (length text) seen at left ≡ first_bad text

pub start : (text : List ℕ) (left : List (List ℕ)) (count : ℕ) → left ≡ lines text → count ≡ 0 → Sofar text left count 0
start text left count e z = record { seen = []; split = sym e; proper = none_proper; many = z; place = refl; same = ap (bad_from (length text) [] 0) e }

module _ {text : List ℕ} {left : List (List ℕ)} {count at : ℕ} (h : Sofar text left count at) where
  pub counted : count + length left ≤ length text
  counted = omega (arith, ap length h.split, length-append h.seen left, few_lines text, h.many)

  pub inside : at ≤ length text
  inside = let b = begun h.seen left text h.split in omega (arith, ap length b.1, length-append (ended h.seen) b.0, h.place)

  pub lines_before : lines (take at text) ≡ h.seen
  lines_before =
      let b = begun h.seen left text h.split in
      ap lines (ap (take at) b.1 ∙ take_at (ended h.seen) b.0 at (sym h.place)) ∙ lines_of h.seen h.proper

  module _ (line : List ℕ) (more : List (List ℕ)) (e : left ≡ line ∷ more) where
    next : bad_from (length text) h.seen at (line ∷ more) ≡ first_bad text
    next = sym (ap (bad_from (length text) h.seen at) e) ∙ h.same

    pub stops : good (lines (take at text)) line ≡ false → Some at ≡ first_bad text
    stops bad = sym (cond-false _ _ _ (sym (ap (λ ls. good ls line) lines_before) ∙ bad)) ∙ next

    pub goes_on : good (lines (take at text)) line ≡ true → (n : ℕ) → n ≡ count + 1 → Sofar text more n (at + (length line + 1))
    goes_on good_line n one_more =
        let ok = sym (ap (λ ls. good ls line) lines_before) ∙ good_line in
        record {
          seen = h.seen ++ line ∷ [];
          split = h.split ∙ ap (λ ls. h.seen ++ ls) e ∙ sym (append_assoc h.seen (line ∷ []) more);
          proper = good_proper h.seen line h.proper ok;
          many = omega (arith, h.many, length_push h.seen line);
          place = omega (arith, h.place, ended_push h.seen line);
          same = sym (cond-true _ _ _ ok) ∙ next;
        }
