-- Items judged one after the other: the steps that they mean, or the first of their faults.
use Rattle.std.proofs.Common.{◌≡◌, ℕ, ◌+◌, ◌<◌, ◌≤◌, Bool, true, false, cond, ltb, List, [], ◌∷◌, ◌++◌, length, Some, None, Ok, Err, Option, Result, sym, refl, ap, ◌∙◌, subst, inl, inr, append_assoc, append-nil, arith}
use Rattle.std.proofs.lemmas.List.{length-append}
use Rattle.std.proofs.lemmas.Bool.{cond_both, ltb-true, ltb-false}
use Rattle.refusal.specs.declared.Ground.TheVariants.{UnknownAxis, LongName, UnknownName, TooManySteps}
use Rattle.refusal.specs.declared.Refusal.{Refusal}
use Rattle.refusal.specs.Refusals.{refusal}
use Rattle.chain.specs.declared.Axis.{Axis}
use Rattle.chain.specs.declared.Axis.TheVariants.{Child}
use Rattle.chain.specs.declared.Test.{Test}
use Rattle.chain.specs.declared.Step.{Step}
use Rattle.chain.specs.Axes.{axis_of}
use Rattle.names.specs.Names.{is_name}
use Rattle.names.specs.Lists.{number_of}
use Rattle.grammar.specs.Grammar.{Separator, Slash, Slashes, Tested, Named, Star, Texts, Nodes, Written, Dot, Dots, Plain, Along, Item}
use Rattle.grammar.specs.Texts.{separator_text, test_text, step_text, item_text, items_text}
use Rattle.grammar.specs.Readings.{MeansTest, means_name, means_star, means_text, means_node, MeansStep, means_dot, means_dots, means_plain, means_along, Means, means_none, means_item, hidden, step_count, after_separator, TestsName, tests_plain, tests_along, ItemFault, unknown_axis, long_name, unknown_name, too_many, Fault, here, there, NoLater}
use Rattle.grammar.specs.Verdicts.{numbered, test_at, step_by, along_by, step_at, pushed, extended, go_on, judged_by, judged}
use Rattle.grammar.proofs.Yields.{FineStep, FineItems}

-- the name of a test, where it has one, is short enough and in the list
pub record Fit (names : List (List ℕ)) (n : List ℕ) : Type 0 where
  pub short : length n ≤ 32
  pub listed : number_of names n ≡ None → ⊥

pub data Unfit (names : List (List ℕ)) (at : ℕ) (n : List ℕ) : Refusal → Type 0 where
  long : 32 < length n → Unfit names at n (refusal LongName at)
  unlisted : length n ≤ 32 → number_of names n ≡ None → Unfit names at n (refusal UnknownName at)

module _ (names : List (List ℕ)) where
  -- what is answered for a test, a step and an item, and what that says of it
  abbrev TestVerdict : ℕ → Tested → Result Test Refusal → Type 0
  TestVerdict at t (Ok u) = MeansTest names t u × ((n : List ℕ) → t ≡ Named n → Fit names n)
  TestVerdict at t (Err r) = (n : List ℕ) × (t ≡ Named n) × Unfit names at n r

  test_verdict : (at : ℕ) (t : Tested) → TestVerdict at t (test_at names at t)
  test_verdict at (Named n) = go (ltb 32 (length n)) (number_of names n) refl refl
    where
      go : (x : Bool) (o : Option ℕ) → ltb 32 (length n) ≡ x → number_of names n ≡ o → TestVerdict at (Named n) (cond x (Err (refusal LongName at)) (numbered at o))
      go true o e h = (n, refl, long (ltb-true 32 (length n) e))
      go false None e h = (n, refl, unlisted (ltb-false 32 (length n) e) h)
      go false (Some k) e h = (means_name h, λ m same. let eq : n ≡ m = cc in subst (Fit names) eq (record { short = ltb-false 32 (length n) e; listed = λ z. cc }))
  test_verdict at Star = (means_star, λ m same. cc)
  test_verdict at Texts = (means_text, λ m same. cc)
  test_verdict at Nodes = (means_node, λ m same. cc)

  -- the axis word of a step, where it has one, is an axis
  abbrev Known : Written → Type 0
  Known w = (a : List ℕ) (t : Tested) → w ≡ Along a t → axis_of a ≡ None → ⊥

  -- a step without a fault
  pub record Faultless (w : Written) : Type 0 where
    pub known : Known w
    pub fit : (n : List ℕ) (d : ℕ) → TestsName w n d → Fit names n

  pub no_item_fault : {count at : ℕ} {i : Item} {q : Refusal} → Faultless i.step → count + step_count i ≤ 15 → ItemFault names count at i q → ⊥
  no_item_fault f le (unknown_axis e n) = f.known _ _ e n
  no_item_fault f le (long_name h l) = let k = (f.fit _ _ h).short in omega arith
  no_item_fault f le (unknown_name h l) = (f.fit _ _ h).listed l
  no_item_fault f le (too_many l) = omega arith

  -- the first fault of a step at a place
  pub data Faulty (at : ℕ) (w : Written) : Refusal → Type 0 where
    by_axis : {a : List ℕ} {t : Tested} → w ≡ Along a t → axis_of a ≡ None → Faulty at w (refusal UnknownAxis at)
    by_name : {n : List ℕ} {d : ℕ} {r : Refusal} → TestsName w n d → Known w → Unfit names (at + d) n r → Faulty at w r

  abbrev StepVerdict : ℕ → Written → Result Step Refusal → Type 0
  StepVerdict at w (Ok s) = MeansStep names w s × Faultless w
  StepVerdict at w (Err r) = Faulty at w r

  in_plain : {t : Tested} {n : List ℕ} {d : ℕ} → TestsName (Plain t) n d → t ≡ Named n
  in_plain tests_plain = refl

  in_along : {a : List ℕ} {t : Tested} {n : List ℕ} {d : ℕ} → TestsName (Along a t) n d → t ≡ Named n
  in_along tests_along = refl

  step_verdict : (at : ℕ) (w : Written) → StepVerdict at w (step_at names at w)
  step_verdict at Dot = (means_dot, record { known = λ a t e n. cc; fit = λ n d h. elim h [ ] })
  step_verdict at Dots = (means_dots, record { known = λ a t e n. cc; fit = λ n d h. elim h [ ] })
  step_verdict at (Plain t) = go (test_at names at t) (test_verdict at t)
    where
      go : (o : Result Test Refusal) → TestVerdict at t o → StepVerdict at (Plain t) (step_by Child o)
      go (Ok u) v = (means_plain v.0, record { known = λ a t e n. cc; fit = λ n d h. v.1 n (in_plain h) })
      go (Err r) v = by_name (subst (λ (x : Tested). TestsName (Plain x) v.0 0) (sym v.1) tests_plain) (λ a t e n. cc) (subst (λ (k : ℕ). Unfit names k v.0 r) (omega arith) v.2)
  step_verdict at (Along a t) = go (axis_of a) refl (test_at names (at + (length a + 2)) t) (test_verdict (at + (length a + 2)) t)
    where
      go : (x : Option Axis) → axis_of a ≡ x → (o : Result Test Refusal) → TestVerdict (at + (length a + 2)) t o → StepVerdict at (Along a t) (along_by x at o)
      go None e o v = by_axis refl e
      go (Some x) e (Ok u) v = (means_along e v.0, record { known = λ b s same n. cc; fit = λ n d h. v.1 n (in_along h) })
      go (Some x) e (Err r) v = by_name (subst (λ (y : Tested). TestsName (Along a y) v.0 (length a + 2)) (sym v.1) tests_along) (λ b s same n. cc) v.2

  same_name : {w : Written} {n m : List ℕ} {d e : ℕ} → TestsName w n d → TestsName w m e → (n ≡ m) × (d ≡ e)
  same_name tests_plain tests_plain = (refl, refl)
  same_name tests_along tests_along = (refl, refl)

  past_axis : {w : Written} {n : List ℕ} {d : ℕ} → TestsName w n d → (a : List ℕ) (t : Tested) → w ≡ Along a t → 0 < d
  past_axis tests_plain a t e = cc
  past_axis tests_along a t e = omega arith

  separator_long : (k : Separator) → 0 < length (separator_text k)
  separator_long Slash = omega arith
  separator_long Slashes = omega arith

  name_long : (n : List ℕ) → is_name n ≡ true → 0 < length n
  name_long [] h = cc
  name_long (b ∷ n) h = omega arith

  inside : {w : Written} {n : List ℕ} {d : ℕ} → TestsName w n d → FineStep w → d < length (step_text w)
  inside (tests_plain {n}) f = name_long n f
  inside (tests_along {w} {n}) f = let p = name_long n f.1 in omega (arith, length-append w (58 ∷ 58 ∷ n))

  axis_inside : {w : Written} (a : List ℕ) (t : Tested) → w ≡ Along a t → 0 < length (step_text w)
  axis_inside {w} a t e = subst (λ (v : Written). 0 < length (step_text v)) (sym e) (omega (arith, length-append a (58 ∷ 58 ∷ test_text t)))

  module _ (ss : List Step) (at : ℕ) (i : Item) where
    pub record ItemFine (out : List Step) : Type 0 where
      pub step : Step
      pub means : MeansStep names i.step step
      pub is : out ≡ ss ++ (hidden i.separator ++ step ∷ [])
      pub few : length out ≤ 15
      pub none : (q : Refusal) → ItemFault names (length ss) at i q → ⊥

    pub record ItemBad (r : Refusal) : Type 0 where
      pub fault : ItemFault names (length ss) at i r
      pub first : (q : Refusal) → ItemFault names (length ss) at i q → NoLater r q
      pub before : FineStep i.step → r.place < at + length (item_text i)

    width : length (item_text i) ≡ length (separator_text i.separator) + length (step_text i.step)
    width = length-append (separator_text i.separator) (step_text i.step)

    abbrev ItemVerdict : Result (List Step) Refusal → Type 0
    ItemVerdict (Ok out) = ItemFine out
    ItemVerdict (Err r) = ItemBad r

    crowded : 15 < length ss + step_count i → ItemBad (refusal TooManySteps at)
    crowded h =
        let p = separator_long i.separator in
        record {
          fault = too_many h;
          first = later;
          before = λ f. omega (arith, width);
        }
      where
        later : (q : Refusal) → ItemFault names (length ss) at i q → NoLater (refusal TooManySteps at) q
        later q (too_many l) = inr (refl, omega arith)
        later q _ = inl (omega (arith, separator_long i.separator))

    module _ (roomy : length ss + step_count i ≤ 15) where
      axis_bad : (a : List ℕ) (t : Tested) → i.step ≡ Along a t → axis_of a ≡ None → ItemBad (refusal UnknownAxis (after_separator at i))
      axis_bad a t e n = record {
        fault = unknown_axis e n;
        first = later;
        before = λ f. omega (arith, width, axis_inside a t e);
      }
        where
          later : (q : Refusal) → ItemFault names (length ss) at i q → NoLater (refusal UnknownAxis (after_separator at i)) q
          later q (unknown_axis e n) = inr (refl, omega arith)
          later q (long_name h l) = inl (omega (arith, past_axis h a t e))
          later q (unknown_name h l) = inl (omega (arith, past_axis h a t e))
          later q (too_many l) = absurd (omega arith)

      module _ {n : List ℕ} {d : ℕ} (t : TestsName i.step n d) (known : Known i.step) where
        name_first : {r : Refusal} → Unfit names (after_separator at i + d) n r → (q : Refusal) → ItemFault names (length ss) at i q → NoLater r q
        name_first u q (unknown_axis e n) = absurd (known _ _ e n)
        name_first (long l) q (long_name h k) = inr (omega (arith, (same_name t h).1), omega arith)
        name_first (unlisted s l) q (long_name h k) = absurd (omega (arith, ap length (same_name t h).0))
        name_first (long l) q (unknown_name h k) = inr (omega (arith, (same_name t h).1), omega arith)
        name_first (unlisted s l) q (unknown_name h k) = inr (omega (arith, (same_name t h).1), omega arith)
        name_first u q (too_many l) = absurd (omega arith)

        name_bad : {r : Refusal} → Unfit names (after_separator at i + d) n r → ItemBad r
        name_bad (long l) = record { fault = long_name t l; first = name_first (long l); before = λ f. omega (arith, width, inside t f) }
        name_bad (unlisted s l) = record { fault = unknown_name t l; first = name_first (unlisted s l); before = λ f. omega (arith, width, inside t f) }

      faulty_bad : (r : Refusal) → Faulty (after_separator at i) i.step r → ItemBad r
      faulty_bad r (by_axis {a} {t} e n) = axis_bad a t e n
      faulty_bad r (by_name t known u) = name_bad t known u

      all_fine : (s : Step) → MeansStep names i.step s → Faultless i.step → ItemFine ((ss ++ hidden i.separator) ++ s ∷ [])
      all_fine s m f = record {
        step = s;
        means = m;
        is = append_assoc ss (hidden i.separator) (s ∷ []);
        few = omega (arith, length-append (ss ++ hidden i.separator) (s ∷ []), length-append ss (hidden i.separator));
        none = λ q h. no_item_fault f roomy h;
      }

    item_verdict : ItemVerdict (extended names ss at i)
    item_verdict =
        cond_both (ltb 15 (length ss + step_count i)) _ _ ItemVerdict
        (λ e. crowded (ltb-true 15 _ e))
        (λ e. go (ltb-false 15 _ e) (step_at names (after_separator at i) i.step) (step_verdict (after_separator at i) i.step))
      where
        go : length ss + step_count i ≤ 15 → (o : Result Step Refusal) → StepVerdict (after_separator at i) i.step o → ItemVerdict (pushed (ss ++ hidden i.separator) o)
        go roomy (Ok s) v = all_fine roomy s v.0 v.1
        go roomy (Err r) v = faulty_bad roomy r v

  item_from : {count at : ℕ} {i : Item} {q : Refusal} → ItemFault names count at i q → at ≤ q.place
  item_from (unknown_axis e n) = omega arith
  item_from _ = omega arith

  fault_from : {count at : ℕ} {is : List Item} {q : Refusal} → Fault names count at is q → at ≤ q.place
  fault_from (here f) = item_from f
  fault_from (there f) = let p = fault_from f in omega arith

  -- the items of a list, where these steps and this place come before them
  pub record AllFine (ss : List Step) (at : ℕ) (is : List Item) (out : List Step) : Type 0 where
    pub steps : List Step
    pub means : Means names is steps
    pub out_is : out ≡ ss ++ steps
    pub few : length out ≤ 15
    pub none : (q : Refusal) → Fault names (length ss) at is q → ⊥

  pub record SomeBad (ss : List Step) (at : ℕ) (is : List Item) (r : Refusal) : Type 0 where
    pub fault : Fault names (length ss) at is r
    pub first : (q : Refusal) → Fault names (length ss) at is q → NoLater r q

  abbrev pub Outcome : List Step → ℕ → List Item → Result (List Step) Refusal → Type 0
  Outcome ss at is (Ok out) = AllFine ss at is out
  Outcome ss at is (Err r) = SomeBad ss at is r

  stays_bad : (r : Refusal) (at : ℕ) (is : List Item) → judged_by names (Err r) at is ≡ Err r
  stays_bad r at [] = refl
  stays_bad r at (i ∷ is) = stays_bad r (at + length (item_text i)) is

  module _ (ss : List Step) (at : ℕ) (i : Item) (is : List Item) where
    bad_here : (r : Refusal) → FineStep i.step → ItemBad ss at i r → SomeBad ss at (i ∷ is) r
    bad_here r f b = record { fault = here b.fault; first = later }
      where
        later : (q : Refusal) → Fault names (length ss) at (i ∷ is) q → NoLater r q
        later q (here h) = b.first q h
        later q (there h) = inl (omega (arith, b.before f, fault_from h))

    module _ (mid : List Step) (g : ItemFine ss at i mid) where
      count : length mid ≡ length ss + step_count i
      count = ap length g.is ∙ omega (arith, length-append ss (hidden i.separator ++ g.step ∷ []), length-append (hidden i.separator) (g.step ∷ []))

      on : {q : Refusal} → Fault names (length ss + step_count i) (at + length (item_text i)) is q → Fault names (length mid) (at + length (item_text i)) is q
      on {q} h = subst (λ (c : ℕ). Fault names c (at + length (item_text i)) is q) (sym count) h

      fine_there : (out : List Step) → AllFine mid (at + length (item_text i)) is out → AllFine ss at (i ∷ is) out
      fine_there out a = record {
        steps = hidden i.separator ++ g.step ∷ a.steps;
        means = means_item g.means a.means;
        out_is = a.out_is ∙ ap (λ l. l ++ a.steps) g.is ∙ simp append_assoc;
        few = a.few;
        none = never;
      }
        where
          never : (q : Refusal) → Fault names (length ss) at (i ∷ is) q → ⊥
          never q (here h) = g.none q h
          never q (there h) = a.none q (on h)

      bad_there : (r : Refusal) → SomeBad mid (at + length (item_text i)) is r → SomeBad ss at (i ∷ is) r
      bad_there r b = record {
        fault = there (subst (λ (c : ℕ). Fault names c (at + length (item_text i)) is r) count b.fault);
        first = later;
      }
        where
          later : (q : Refusal) → Fault names (length ss) at (i ∷ is) q → NoLater r q
          later q (here h) = absurd (g.none q h)
          later q (there h) = b.first q (on h)

  judge : (ss : List Step) (at : ℕ) (is : List Item) → FineItems is → length ss ≤ 15 → Outcome ss at is (judged_by names (Ok ss) at is)
  judge ss at [] f le = record { steps = []; means = means_none; out_is = sym (append-nil ss); few = le; none = λ q h. elim h [ ] }
  judge ss at (i ∷ is) f le = go (extended names ss at i) (item_verdict ss at i) (λ mid g. judge mid (at + length (item_text i)) is f.1 g.few)
    where
      on : (mid : List Step) → ItemFine ss at i mid → (o : Result (List Step) Refusal) → Outcome mid (at + length (item_text i)) is o → Outcome ss at (i ∷ is) o
      on mid g (Ok out) v = fine_there ss at i is mid g out v
      on mid g (Err r) v = bad_there ss at i is mid g r v

      go : (o : Result (List Step) Refusal) → ItemVerdict ss at i o
          → ((mid : List Step) → ItemFine ss at i mid → Outcome mid (at + length (item_text i)) is (judged_by names (Ok mid) (at + length (item_text i)) is))
          → Outcome ss at (i ∷ is) (judged_by names o (at + length (item_text i)) is)
      go (Ok mid) v rec = on mid v (judged_by names (Ok mid) (at + length (item_text i)) is) (rec mid v)
      go (Err r) v rec = subst (Outcome ss at (i ∷ is)) (sym (stays_bad r (at + length (item_text i)) is)) (bad_here ss at i is r f.0 v)

  pub judged_is : (is : List Item) → FineItems is → Outcome [] 0 is (judged names is)
  judged_is is f = judge [] 0 is f (omega arith)

  -- one item more
  judged_more : (o : Result (List Step) Refusal) (at : ℕ) (is : List Item) (i : Item) → judged_by names o at (is ++ i ∷ []) ≡ go_on names (judged_by names o at is) (at + length (items_text is)) i
  judged_more o at [] i = ap (λ k. go_on names o k i) (omega arith)
  judged_more o at (j ∷ is) i =
      judged_more (go_on names o at j) (at + length (item_text j)) is i
      ∙ ap (λ k. go_on names (judged_by names (go_on names o at j) (at + length (item_text j)) is) k i) (omega (arith, length-append (item_text j) (items_text is)))

  pub judged_snoc : (is : List Item) (i : Item) → judged names (is ++ i ∷ []) ≡ go_on names (judged names is) (length (items_text is)) i
  judged_snoc is i = judged_more (Ok []) 0 is i ∙ ap (λ k. go_on names (judged names is) k i) (omega arith)
