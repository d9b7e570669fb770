-- How parts are cut off the front of a text.
use Rattle.std.proofs.Common.{◌≡◌, ℕ, ◌-◌, ◌<◌, ◌≤◌, Bool, true, false, eqb, List, [], ◌∷◌, ◌++◌, length, get_or, take, drop, IsErrAnd, Some, Ok, Err, codes, sym, refl, ap, ◌∙◌, subst, ⊎_elim, append_assoc, arith, take-append-drop, Bor}
use Rattle.std.specs.List.{prefix_len, take_while}
use Rattle.std.specs.Prelude.{◌==◌, ◌||◌}
use Rattle.std.proofs.lemmas.List.Sums.{prefix_len_stops, take_while-cons}
use Rattle.std.proofs.lemmas.Slice.Eq.{bytes_eq-Decides}
use Rattle.std.proofs.lemmas.List.{take_rest, drop_more, length-drop}
use Rattle.std.proofs.lemmas.Bool.{cond-true, and_from, false≢true, cases_lt}
use Rattle.names.specs.Classes.{class_of, begins, goes}
use Rattle.names.specs.Names.{is_name, all_go}
use Rattle.grammar.specs.Grammar.{Tested}
use Rattle.grammar.specs.Scanner.{Want, InName, AxisWord, scan, heads, kind_test}
use Rattle.grammar.specs.Texts.{test_text}
use Rattle.grammar.proofs.Onward.{kind_ends, half_kind, axis_name, plain_name}
use Rattle.paths.specs.Cuts.{Cut, NameCut, NameTests, NameStuck, NameTested, TestSplit, NameStepped, StepSplit}
use Rattle.paths.specs.declared.parts.Tested as test
use Rattle.paths.specs.declared.parts.Written as step

-- what a text begins with
pub heads_at : (f : ℕ → Bool) (s : List ℕ) (i : ℕ) → i < length s → heads f (drop i s) ≡ f (get_or s i 0)
heads_at f s i lt = ap (heads f) (drop_more s i 0 lt)

pub heads_first : (f : ℕ → Bool) (s : List ℕ) → 0 < length s → heads f s ≡ f (get_or s 0 0)
heads_first f s lt = heads_at f s 0 lt

pub heads_none : (f : ℕ → Bool) (s : List ℕ) → length s ≡ 0 → heads f s ≡ false
heads_none f [] e = refl
heads_none f (b ∷ s) e = absurd (omega arith)

-- the bytes at the front that a name goes on with
front_goes : (s : List ℕ) → all_go (take_while goes s) ≡ true
front_goes [] = refl
front_goes (b ∷ s) = ap all_go (take_while-cons goes b s) ∙ grind (arith, front_goes s)

rest_stops : (s : List ℕ) → heads goes (drop (prefix_len goes s) s) ≡ false
rest_stops s =
    ⊎_elim
    (λ lt. heads_at goes s (prefix_len goes s) lt ∙ prefix_len_stops goes s 0 lt)
    (λ ge. heads_none goes (drop (prefix_len goes s) s) (omega (arith, length-drop (prefix_len goes s) s)))
    (cases_lt (prefix_len goes s) (length s))

pub name_cut : (text : List ℕ) → heads begins text ≡ true → NameCut text (take (prefix_len goes text) text) (drop (prefix_len goes text) text)
name_cut [] h = absurd (false≢true h)
name_cut (b ∷ s) h = record {
  split = sym (take-append-drop (prefix_len goes (b ∷ s)) (b ∷ s));
  named = ap is_name (take_while-cons goes b s ∙ cond-true _ _ _ (ap (λ t. t || (class_of b == 2)) h)) ∙ and_from (begins b) (all_go (take_while goes s)) h (front_goes s);
  stops = rest_stops (b ∷ s);
}

-- a text by its first bytes
pub one_front : (s : List ℕ) (a : ℕ) → 1 ≤ length s → get_or s 0 0 ≡ a → s ≡ a ∷ drop 1 s
one_front [] a h e = absurd (omega arith)
one_front (x ∷ s) a h e = ap (λ y. y ∷ s) e

pub one_byte : (s : List ℕ) (a : ℕ) → length s ≡ 1 → get_or s 0 0 ≡ a → s ≡ a ∷ []
one_byte [] a h e = grind arith
one_byte (x ∷ []) a h e = grind arith
one_byte (x ∷ y ∷ s) a h e = grind arith

kind_word : (w : List ℕ) (t : Tested) → kind_test w ≡ Some t → w ++ codes "()" ≡ test_text t
kind_word w t e = grind (arith, bytes_eq-Decides w (codes "text"), bytes_eq-Decides w (codes "node"))

pub kind_cut : (word text inside rest : List ℕ) (t : Tested) → text ≡ 40 ∷ inside → inside ≡ 41 ∷ rest → kind_test word ≡ Some t → NameTests word text t rest
kind_cut word text inside rest t e f h =
    let whole : text ≡ 40 ∷ 41 ∷ rest = e ∙ ap (λ l. 40 ∷ l) f in
    record {
      split = ap (λ l. word ++ l) whole ∙ sym (append_assoc word (codes "()") rest) ∙ ap (λ l. l ++ rest) (kind_word word t h);
      on = λ is k a g c. ap (scan (InName is k a word)) whole ∙ kind_ends is k a word rest t h;
    }

pub kind_stuck : (word text inside : List ℕ) (t : Tested) → text ≡ 40 ∷ inside → heads (λ b. eqb b 41) inside ≡ false → kind_test word ≡ Some t → NameStuck word text inside
kind_stuck word text inside t e n h is k a = ap (scan (InName is k a word)) e ∙ half_kind is k a word inside t h n

-- what follows the first byte
pub behind_one : (s : List ℕ) (a : ℕ) → 1 ≤ length s → get_or s 0 0 ≡ a → s ≡ a ∷ take (length s - 1) (drop 1 s)
behind_one s a l e = one_front s a l e ∙ ap (λ r. a ∷ r) (sym (take_rest s 1))

pub name_broken : (word text : List ℕ) (r : Cut test.Tested) (x : Bor (List ℕ)) → IsErrAnd r (λ y. y ≡ x) → NameStuck word text x.now → NameTested word text r
name_broken word text (Ok p) x e h = absurd e
name_broken word text (Err y) x e h = subst (λ (z : Bor (List ℕ)). NameStuck word text z.now) (sym e) h

pub named_test : (text word behind : List ℕ) → NameCut text word behind → (r : Cut test.Tested) → NameTested word behind r → TestSplit text r
named_test text word behind c (Ok p) h = record {
  split = c.split ∙ h.split;
  on = λ is k a. ap (scan (AxisWord is k a)) c.split ∙ axis_name is k a word behind c.named ∙ h.on is k (Some a) c.stops (λ z. grind arith);
}
named_test text word behind c (Err s) h = λ is k a. ap (scan (AxisWord is k a)) c.split ∙ axis_name is k a word behind c.named ∙ h is k (Some a)

pub named_step : (text word behind : List ℕ) → NameCut text word behind → (r : Cut step.Written) → NameStepped word behind r → StepSplit text r
named_step text word behind c (Ok p) h = record {
  split = c.split ∙ h.split;
  on = λ is k. ap (scan (Want is k)) c.split ∙ plain_name is k word behind c.named ∙ h.on is k c.stops;
}
named_step text word behind c (Err s) h = λ is k. ap (scan (Want is k)) c.split ∙ plain_name is k word behind c.named ∙ h is k c.stops
