-- From the scanner's and the judge's answers to what reading a text answers; and that it is one answer.
use Rattle.std.proofs.Common.{◌≡◌, ℕ, ◌-◌, ◌<◌, ◌≤◌, cond, eqb, List, [], length, Ok, Err, codes, Result, sym, refl, ap, ◌∙◌, subst, arith}
use Rattle.refusal.specs.declared.Ground.{Ground}
use Rattle.refusal.specs.declared.Ground.TheVariants.{NotPath, UnknownAxis, LongName, UnknownName, TooManySteps}
use Rattle.refusal.specs.declared.Refusal.{Refusal}
use Rattle.refusal.specs.Refusals.{refusal, number_of as ground_number}
use Rattle.chain.specs.declared.Test.{Test}
use Rattle.chain.specs.declared.Step.{Step}
use Rattle.chain.specs.declared.chain.Chain.{Chain}
use Rattle.chain.specs.Chains.{steps_of}
use Rattle.chain.proofs.Steps.{chains_same}
use Rattle.grammar.specs.Grammar.{Tested, Written, Item, IsPath, root, items, IsNotPath}
use Rattle.grammar.specs.Readings.{MeansTest, means_name, means_star, means_text, means_node, MeansStep, means_dot, means_dots, means_plain, means_along, Means, means_none, means_item, ItemFault, unknown_axis, Fault, here, there, NoLater, FirstFault, Reads, too_long, no_path, faulty, accepted, ReadAs, ReadsOnce}
use Rattle.grammar.specs.Scanner.{scan, begin}
use Rattle.grammar.specs.Verdicts.{judged, chained}
use Rattle.grammar.proofs.Yields.{yield_items}
use Rattle.grammar.proofs.Reports.{found, not_path, paths_once}
use Rattle.grammar.proofs.Judging.{Outcome, judged_is}

module _ (names : List (List ℕ)) (text : List ℕ) (short : length text ≤ 1024) where
  pub reads_root : (c : Chain) → text ≡ codes "/" → steps_of c ≡ [] → Reads names text (Ok c)
  reads_root c e s = accepted short (subst (λ t. IsPath t []) (sym e) root) (λ q h. elim h [ ]) (subst (Means names []) (sym s) means_none)

  pub reads_stuck : (rest : List ℕ) → (text ≡ codes "/" → ⊥) → scan begin text ≡ Err rest → Reads names text (Err (refusal NotPath (length text - length rest)))
  reads_stuck rest n e = no_path short (not_path text rest n e)

  pub reads_items : (is : List Item) (r : Result Chain Refusal) → scan begin text ≡ Ok is → chained r ≡ judged names is → Reads names text r
  reads_items is r e j = go r (subst (Outcome names [] 0 is) (sym j) (judged_is names is (yield_items (found text is e)).1))
    where
      go : (r : Result Chain Refusal) → Outcome names [] 0 is (chained r) → Reads names text r
      go (Ok c) v = accepted short (items (found text is e)) v.none (subst (Means names is) (sym v.out_is) v.means)
      go (Err q) v = faulty short (items (found text is e)) (record { is_fault = v.fault; first = v.first })

-- what items mean is one thing
one_test : {names : List (List ℕ)} {t : Tested} {u v : Test} → MeansTest names t u → MeansTest names t v → u ≡ v
one_test (means_name h) (means_name l) = cc
one_test means_star means_star = refl
one_test means_text means_text = refl
one_test means_node means_node = refl

one_step : {names : List (List ℕ)} {w : Written} {s t : Step} → MeansStep names w s → MeansStep names w t → s ≡ t
one_step means_dot means_dot = refl
one_step means_dots means_dots = refl
one_step (means_plain h) (means_plain l) = let e = one_test h l in cc
one_step (means_along a h) (means_along b l) = let e = one_test h l in cc

one_meaning : {names : List (List ℕ)} {is : List Item} {ss tt : List Step} → Means names is ss → Means names is tt → ss ≡ tt
one_meaning means_none means_none = refl
one_meaning (means_item h l) (means_item k m) = let e = one_step h k in let f = one_meaning l m in cc

-- a fault's number tells its ground
by_number : ℕ → Ground
by_number n = cond (eqb n 13) UnknownAxis (cond (eqb n 14) LongName (cond (eqb n 15) UnknownName TooManySteps))

item_ground : {names : List (List ℕ)} {count at : ℕ} {i : Item} {q : Refusal} → ItemFault names count at i q → by_number (ground_number q.ground) ≡ q.ground
unfolding by_number
item_ground (unknown_axis e n) = refl
item_ground _ = refl

ground : {names : List (List ℕ)} {count at : ℕ} {is : List Item} {q : Refusal} → Fault names count at is q → by_number (ground_number q.ground) ≡ q.ground
ground (here f) = item_ground f
ground (there f) = ground f

same_places : (a b : Refusal) → NoLater a b → NoLater b a → (a.place ≡ b.place) × (ground_number a.ground ≡ ground_number b.ground)
same_places a b h l = grind arith

one_fault : {names : List (List ℕ)} {is : List Item} {a b : Refusal} → FirstFault names is a → FirstFault names is b → a ≡ b
one_fault {a = a} {b = b} h l =
    let s = same_places a b (h.first b l.is_fault) (l.first a h.is_fault) in
    let g : a.ground ≡ b.ground = sym (ground h.is_fault) ∙ ap by_number s.1 ∙ ground l.is_fault in
    λ i. record { ground = g i; place = s.0 i }

one_place : (text : List ℕ) (k j : ℕ) → IsNotPath text k → IsNotPath text j → k ≡ j
one_place text k j h l = grind (arith, λ (a : k < j). h.longest j a l.within l.viable, λ (a : j < k). l.longest k a h.within h.viable)

no_both : {names : List (List ℕ)} {text : List ℕ} {is js : List Item} {r : Refusal} → IsPath text is → IsPath text js → FirstFault names is r → ((q : Refusal) → Fault names 0 0 js q → ⊥) → ⊥
no_both {names} {text} {is} {js} {r} s t f n = n r (subst (λ (y : List Item). Fault names 0 0 y r) (paths_once text is js s t) f.is_fault)

pub reads_once : ReadsOnce
reads_once names text r q (too_long h) (too_long l) = refl
reads_once names text r q (too_long h) (no_path l p) = absurd (omega arith)
reads_once names text r q (too_long h) (faulty l p f) = absurd (omega arith)
reads_once names text r q (too_long h) (accepted l p n m) = absurd (omega arith)
reads_once names text r q (no_path h p) (too_long l) = absurd (omega arith)
reads_once names text r q (no_path {k} h p) (no_path {k = j} l s) = ap (λ n. Err (refusal NotPath n)) (one_place text k j p s)
reads_once names text r q (no_path h p) (faulty l s f) = absurd (p.none _ s)
reads_once names text r q (no_path h p) (accepted l s n m) = absurd (p.none _ s)
reads_once names text r q (faulty h s f) (too_long l) = absurd (omega arith)
reads_once names text r q (faulty h s f) (no_path l p) = absurd (p.none _ s)
reads_once names text r q (faulty {is} h s f) (faulty {is = js} {r = x} l t g) = let e = paths_once text is js s t in ap (λ (y : Refusal). Err y) (one_fault f (subst (λ (y : List Item). FirstFault names y x) (sym e) g))
reads_once names text r q (faulty h s f) (accepted l t n m) = absurd (no_both s t f n)
reads_once names text r q (accepted h s n m) (too_long l) = absurd (omega arith)
reads_once names text r q (accepted h s n m) (no_path l p) = absurd (p.none _ s)
reads_once names text r q (accepted h s n m) (faulty l t f) = absurd (no_both t s f n)
reads_once names text r q (accepted {is} {c} h s n m) (accepted {is = js} {c = d} l t n' m') =
    let e = paths_once text is js s t in
    ap (λ (x : Chain). Ok x) (chains_same c d (one_meaning m (subst (λ (y : List Item). Means names y (steps_of d)) (sym e) m')))

pub read_as : {names : List (List ℕ)} {text : List ℕ} {r : Result Chain Refusal} → Reads names text r → ReadAs names text r
read_as {names} {text} {r} h = record { reads = h; only = λ q l. reads_once names text q r l h }
