-- How far a text of items has been read.
use Rattle.std.proofs.Common.{◌≡◌, ℕ, ◌+◌, ◌-◌, ◌<◌, ◌≤◌, false, eqb, List, [], ◌∷◌, ◌++◌, length, Ok, Err, Result, sym, refl, ap, ◌∙◌, subst, append_assoc, arith}
use Rattle.std.proofs.lemmas.List.{length-append}
use Rattle.refusal.specs.declared.Refusal.{Refusal}
use Rattle.refusal.specs.declared.Ground.TheVariants.{NotPath}
use Rattle.refusal.specs.Refusals.{refusal}
use Rattle.chain.specs.declared.chain.Chain.{Chain}
use Rattle.grammar.specs.Grammar.{Separator, Written, Item}
use Rattle.grammar.specs.Texts.{separator_text, step_text, item_text, items_text}
use Rattle.grammar.specs.Readings.{Reads}
use Rattle.grammar.specs.Scanner.{Whole, scan, begin, heads}
use Rattle.grammar.specs.Verdicts.{go_on, judged, chained}
use Rattle.grammar.proofs.Yields.{items_snoc}
use Rattle.grammar.proofs.Onward.{no_separator}
use Rattle.grammar.proofs.Reports.{left}
use Rattle.grammar.proofs.Judging.{judged_snoc}
use Rattle.grammar.proofs.Reading.{reads_stuck, reads_items}
use Rattle.paths.specs.Cuts.{StepCut, StepStuck, SeparatorCut}

pub record Sofar (names : List (List ℕ)) (text rest : List ℕ) (sofar : Result Chain Refusal) : Type 0 where
  pub items : List Item
  pub split : text ≡ items_text items ++ rest
  pub on : scan begin text ≡ scan (Whole items) rest
  pub is : chained sofar ≡ judged names items

module _ {names : List (List ℕ)} {text rest : List ℕ} {sofar : Result Chain Refusal} (h : Sofar names text rest sofar) where
  lengths : length text ≡ length (items_text h.items) + length rest
  lengths = ap length h.split ∙ length-append (items_text h.items) rest

  place : length text - length rest ≡ length (items_text h.items)
  place = omega (arith, lengths)

  module _ (k : Separator) (behind : List ℕ) (s : SeparatorCut rest k behind) where
    pub no_step : (stuck : List ℕ) → StepStuck behind stuck → scan begin text ≡ Err stuck
    no_step stuck n = h.on ∙ s.on h.items ∙ n h.items k

    module _ (w : Written) (after : List ℕ) (c : StepCut behind w after) where
      abbrev next : Item
      next = record { separator = k; step = w }

      cut : rest ≡ item_text next ++ after
      cut = s.split ∙ ap (λ l. separator_text k ++ l) c.split ∙ sym (append_assoc (separator_text k) (step_text w) after)

      pub further : (new : Result Chain Refusal) → chained new ≡ go_on names (chained sofar) (length text - length rest) next → Sofar names text after new
      further new e = record {
        items = h.items ++ next ∷ [];
        split = h.split ∙ ap (λ l. items_text h.items ++ l) cut ∙ sym (append_assoc (items_text h.items) (item_text next) after) ∙ ap (λ l. l ++ after) (sym (items_snoc h.items next));
        on = h.on ∙ s.on h.items ∙ c.on h.items k;
        is = e ∙ ap (λ o. go_on names o (length text - length rest) next) h.is ∙ ap (λ n. go_on names (judged names h.items) n next) place ∙ sym (judged_snoc names h.items next);
      }

  whole : (is : List Item) → 0 < length (items_text is) → scan (Whole is) [] ≡ Ok is
  whole [] p = absurd (omega arith)
  whole (i ∷ is) p = refl

  pub all_read : length text ≤ 1024 → length rest ≡ 0 → 0 < length text → Reads names text sofar
  all_read le z p = reads_items names text le h.items sofar (h.on ∙ ended rest z ∙ whole h.items (omega (arith, lengths))) h.is
    where
      ended : (r : List ℕ) → length r ≡ 0 → scan (Whole h.items) r ≡ scan (Whole h.items) []
      ended [] e = refl
      ended (b ∷ r) e = absurd (omega arith)

  pub no_more : heads (λ b. eqb b 47) rest ≡ false → 0 < length rest → scan begin text ≡ Err rest
  no_more n p = h.on ∙ stuck rest n p
    where
      stuck : (r : List ℕ) → heads (λ b. eqb b 47) r ≡ false → 0 < length r → scan (Whole h.items) r ≡ Err r
      stuck [] n p = absurd (omega arith)
      stuck (b ∷ r) n p = no_separator h.items b r n

pub nothing : (text : List ℕ) → length text ≡ 0 → scan begin text ≡ Err []
nothing [] e = refl
nothing (b ∷ s) e = absurd (omega arith)

pub stuck_inside : (text rest : List ℕ) → scan begin text ≡ Err rest → length rest ≤ length text
stuck_inside text rest e = let l = left text rest e in omega (arith, ap length l.split, length-append l.front rest)

pub refused_as : {names : List (List ℕ)} {text : List ℕ} {q : Refusal} (r : Refusal) → r ≡ q → Reads names text (Err q) → Reads names text (Err r)
refused_as {names} {text} r e h = subst (λ (x : Refusal). Reads names text (Err x)) (sym e) h

pub reads_nothing : (names : List (List ℕ)) (text : List ℕ) → length text ≡ 0 → Reads names text (Err (refusal NotPath 0))
reads_nothing names text e =
    let none : length text - 0 ≡ 0 = omega arith in
    subst (λ (n : ℕ). Reads names text (Err (refusal NotPath n))) none
    (reads_stuck names text (omega arith) [] (λ s. omega (arith, ap length s)) (nothing text e))
