-- The long form of a chain is a path, and reads back as the chain.
use Rattle.std.proofs.Common.{◌≡◌, ℕ, ◌+◌, ◌-◌, ◌*◌, ◌<◌, ◌≤◌, true, false, ◌&&◌, ltb, leb, List, [], ◌∷◌, length, get_or, Some, None, Ok, Option, refl, subst, inl, inr, arith}
use Rattle.std.proofs.lemmas.List.{length-append}
use Rattle.std.proofs.ByRecursion.{All-get_or}
use Rattle.std.proofs.lemmas.Bool.{cases_Bool, and_parts, ltb-true, leb-true}
use Rattle.std.proofs.lemmas.Option.{cond_some}
use Rattle.refusal.specs.declared.Refusal.{Refusal}
use Rattle.chain.specs.declared.Axis.{Axis}
use Rattle.chain.specs.declared.Axis.TheVariants.{Child}
use Rattle.chain.specs.declared.Test.{Test}
use Rattle.chain.specs.declared.Test.TheVariants.{Name, AnyElement, AnyText, AnyNode}
use Rattle.chain.specs.declared.Step.{Step}
use Rattle.chain.specs.declared.chain.Chain.{Chain}
use Rattle.chain.specs.Axes.{word_of, axis_of}
use Rattle.chain.specs.Chains.{steps_of}
use Rattle.chain.proofs.Steps.{few_steps}
use Rattle.chain.proofs.Words.{word_back}
use Rattle.names.specs.Classes.{class_of}
use Rattle.names.specs.Names.{is_name}
use Rattle.names.specs.Lists.{number_of, name_of, Proper}
use Rattle.names.proofs.Numbers.{number_of_name, name_of_number}
use Rattle.grammar.specs.Grammar.{Slash, Tested, Named, Star, Texts, Nodes, Written, Along, Item, IsItems, IsPath, root, items}
use Rattle.grammar.specs.Texts.{test_text, item_text, items_text}
use Rattle.grammar.specs.Readings.{MeansTest, means_name, means_star, means_text, means_node, MeansStep, means_dot, means_dots, means_plain, means_along, Means, means_none, means_item, hidden, step_count, TestsName, tests_plain, tests_along, Fault, here, there, Reads, accepted}
use Rattle.grammar.specs.LongForm.{or_nothing, long_test, long_step, long_steps, long_form, is_none, unlisted, unlisted_from, first_unlisted, ReadsBack}
use Rattle.grammar.proofs.Yields.{FineTest, FineItems, derive_items}
use Rattle.grammar.proofs.Judging.{Fit, Faultless, no_item_fault}

word_name : (a : Axis) → is_name (word_of a) ≡ true
unfolding class_of
word_name Child = refl
word_name _ = refl

pub word_short : (a : Axis) → length (word_of a) ≤ 18
word_short Child = omega arith
word_short _ = omega arith

module _ (names : List (List ℕ)) (proper : Proper names) where
  -- a name that has a number
  pub record Listed (k : ℕ) (n : List ℕ) : Type 0 where
    pub number : number_of names n ≡ Some k
    pub fits_name : is_name n ≡ true
    pub short : length n ≤ 32

  listed : (k : ℕ) (n : List ℕ) → name_of names k ≡ Some n → Listed k n
  listed k n e =
      let c = cond_some (ltb 0 k && leb k (length names)) (get_or names (k - 1) []) n e in
      let p = and_parts (ltb 0 k) (leb k (length names)) c.0 in
      let in_list : k - 1 < length names = omega (arith, ltb-true 0 k p.0, leb-true k (length names) p.1) in
      let both = All-get_or (λ m. (is_name m ≡ true) × (length m ≤ 32)) names (k - 1) [] in_list proper.named in
      record { number = number_of_name names proper n k e; fits_name = rw (← c.1) both.0; short = rw (← c.1) both.1 }

  abbrev test_for : Test → Tested
  test_for (Name k) = Named (or_nothing (name_of names k))
  test_for AnyElement = Star
  test_for AnyText = Texts
  test_for AnyNode = Nodes

  abbrev item_for : Step → Item
  item_for s = record { separator = Slash; step = Along (word_of s.axis) (test_for s.test) }

  abbrev items_for : List Step → List Item
  items_for [] = []
  items_for (s ∷ ss) = item_for s ∷ items_for ss

  test_same : (t : Test) → test_text (test_for t) ≡ long_test names t
  test_same (Name k) = refl
  test_same _ = refl

  text_same : (ss : List Step) → items_text (items_for ss) ≡ long_steps names ss
  text_same [] = refl
  text_same (s ∷ ss) = rw (test_same s.test, text_same ss)

  -- a test whose name is in the list
  pub record Known (t : Test) : Type 0 where
    pub fine : FineTest (test_for t)
    pub means : MeansTest names (test_for t) t
    pub short : length (long_test names t) ≤ 32

  pub known : (t : Test) → unlisted names t ≡ false → Known t
  known (Name k) h = go (name_of names k) refl h
    where
      go : (o : Option (List ℕ)) → name_of names k ≡ o → is_none o ≡ false → Known (Name k)
      go None e h = cc
      go (Some n) e h =
          let l = listed k n e in
          record { fine = rw e l.fits_name; means = rw e (means_name l.number); short = rw e l.short }
  known AnyElement h = record { fine = tt; means = means_star; short = omega arith }
  known AnyText h = record { fine = tt; means = means_text; short = omega arith }
  known AnyNode h = record { fine = tt; means = means_node; short = omega arith }

  -- steps whose names are all in the list
  pub record AllKnown (ss : List Step) : Type 0 where
    pub fine : FineItems (items_for ss)
    pub means : Means names (items_for ss) ss
    pub short : length (long_steps names ss) ≤ 53 * length ss

  all_known : (k : ℕ) (ss : List Step) → unlisted_from names k ss ≡ None → AllKnown ss
  all_known k [] h = record { fine = tt; means = means_none; short = omega arith }
  all_known k (s ∷ ss) h = elim (cases_Bool (unlisted names s.test)) [
    | inl e ↦ let z = rw e at h in cc
    | inr e ↦
        let t = known s.test e in
        let r = all_known (k + 1) ss (rw e at h) in
        let w = word_short s.axis in
        record {
          fine = ((word_name s.axis, t.fine), r.fine);
          means = means_item (means_along (word_back s.axis) t.means) r.means;
          short = omega (arith, t.short, r.short, length-append (word_of s.axis) (58 ∷ 58 ∷ long_test names s.test), length-append (long_step names s) (long_steps names ss));
        }
  ]

  -- what is understood and has no more than fifteen steps has no fault
  in_test : {n : List ℕ} {u : Test} → MeansTest names (Named n) u → Fit names n
  in_test (means_name {n} {k} h) = record { short = (listed k n (name_of_number names n k h)).short; listed = λ z. cc }

  in_step : {w : Written} {s : Step} {n : List ℕ} {d : ℕ} → MeansStep names w s → TestsName w n d → Fit names n
  in_step means_dot t = elim t [ ]
  in_step means_dots t = elim t [ ]
  in_step (means_plain h) tests_plain = in_test h
  in_step (means_along a h) tests_along = in_test h

  in_axis : {w : Written} {s : Step} {a : List ℕ} {t : Tested} → MeansStep names w s → w ≡ Along a t → axis_of a ≡ None → ⊥
  in_axis (means_along k h) e n = cc
  in_axis _ e n = cc

  faultless : {w : Written} {s : Step} → MeansStep names w s → Faultless names w
  faultless m = record { known = λ a t. in_axis m; fit = λ n d. in_step m }

  no_faults : {is : List Item} {ss : List Step} → Means names is ss → (count at : ℕ) (q : Refusal) → count + length ss ≤ 15 → Fault names count at is q → ⊥
  no_faults means_none count at q le f = elim f [ ]
  no_faults (means_item {i = i} {s = s} {ss = ss} m ms) count at q le (here f) = no_item_fault names (faultless m) (omega (arith, length-append (hidden i.separator) (s ∷ ss))) f
  no_faults (means_item {i = i} {s = s} {ss = ss} m ms) count at q le (there f) =
      no_faults ms (count + step_count i) (at + length (item_text i)) q (omega (arith, length-append (hidden i.separator) (s ∷ ss))) f

  long_path : (ss : List Step) → AllKnown ss → IsPath (long_form names ss) (items_for ss)
  long_path [] k = root
  long_path (s ∷ ss) k = items (subst (λ l. IsItems l (items_for (s ∷ ss))) (text_same (s ∷ ss)) (derive_items (item_for s) (items_for ss) k.fine))

  long_short : (ss : List Step) → AllKnown ss → length ss ≤ 15 → length (long_form names ss) ≤ 1024
  long_short [] k le = omega arith
  long_short (s ∷ ss) k le = omega (arith, k.short)

  back : (c : Chain) → first_unlisted names (steps_of c) ≡ None → Reads names (long_form names (steps_of c)) (Ok c)
  back c h =
      let k = all_known 0 (steps_of c) h in
      accepted (long_short (steps_of c) k (few_steps c)) (long_path (steps_of c) k) (λ q f. no_faults k.means 0 0 q (omega (arith, few_steps c)) f) k.means

pub reads_back : ReadsBack
reads_back = back
