-- How the long form grows, step by step.
use Rattle.std.proofs.Common.{◌≡◌, ℕ, ◌+◌, ◌*◌, ◌<◌, ◌≤◌, List, [], ◌∷◌, ◌++◌, length, get_or, take, drop, None, Ok, codes, sym, ap, ◌∙◌, subst, append_assoc, append-nil, arith}
use Rattle.std.proofs.lemmas.List.{take_more, drop_more, take_at}
use Rattle.std.proofs.lemmas.Bool.Decides.{nat_tests}
use Rattle.std.proofs.lemmas.Bool.{cond-false}
use Rattle.chain.specs.declared.Step.{Step}
use Rattle.chain.specs.declared.chain.Chain.{Chain}
use Rattle.chain.specs.Axes.{word_of}
use Rattle.chain.specs.Chains.{steps_of}
use Rattle.names.specs.Lists.{Proper}
use Rattle.grammar.specs.LongForm.{long_test, long_step, long_steps, long_form, unlisted_from, first_unlisted, written, over_by, Writes}
use Rattle.grammar.specs.Readings.{Reads}
use Rattle.grammar.proofs.Writing.{reads_back}
use Rattle.paths.specs.Forms.{StepPut}

pub step_put : (names : List (List ℕ)) (s : Step) (was word test t₁ t₂ t₃ t₄ : List ℕ)
    → word ≡ word_of s.axis → test ≡ long_test names s.test
    → t₁ ≡ was ++ codes "/" → t₂ ≡ t₁ ++ word → t₃ ≡ t₂ ++ codes "::" → t₄ ≡ t₃ ++ test
    → t₄ ≡ was ++ long_step names s
step_put names s was word test t₁ t₂ t₃ t₄ w t a b c d =
    let grouped : (((was ++ codes "/") ++ word) ++ codes "::") ++ test ≡ was ++ (codes "/" ++ (word ++ (codes "::" ++ test))) = simp append_assoc in
    d ∙ ap (λ l. l ++ test) (c ∙ ap (λ l. l ++ codes "::") (b ∙ ap (λ l. l ++ word) a)) ∙ grouped
    ∙ (λ i. was ++ (codes "/" ++ (w i ++ (codes "::" ++ t i))))

-- the form is that of the first i steps, with at most 53 bytes for each
pub record Formed (names : List (List ℕ)) (ss : List Step) (i : ℕ) (form : List ℕ) : Type 0 where
  pub is : form ≡ long_steps names (take i ss)
  pub near : length form ≤ 53 * i
  pub on : unlisted_from names 0 ss ≡ unlisted_from names i (drop i ss)

long_snoc : (names : List (List ℕ)) (ss : List Step) (s : Step) → long_steps names (ss ++ s ∷ []) ≡ long_steps names ss ++ long_step names s
long_snoc names [] s = append-nil (long_step names s)
long_snoc names (x ∷ ss) s = ap (λ l. long_step names x ++ l) (long_snoc names ss s) ∙ sym (append_assoc (long_step names x) (long_steps names ss) (long_step names s))

pub formed_more : {names : List (List ℕ)} {ss : List Step} {i : ℕ} {form : List ℕ} (d : Step) (new : List ℕ) → Formed names ss i form → i < length ss → StepPut names (get_or ss i d) form new → Formed names ss (i + 1) new
formed_more {names} {ss} {i} {form} d new h lt p = record {
  is = p.is ∙ ap (λ l. l ++ long_step names (get_or ss i d)) h.is ∙ sym (ap (long_steps names) (take_more ss i d lt) ∙ long_snoc names (take i ss) (get_or ss i d));
  near = omega (arith, h.near, p.near);
  on = h.on ∙ ap (unlisted_from names i) (drop_more ss i d lt) ∙ cond-false _ _ _ p.listed;
}

-- from the form to the caller's bytes
pub all_written : (names : List (List ℕ)) (c : Chain) (was out form : List ℕ) (n : ℕ)
    → Proper names → first_unlisted names (steps_of c) ≡ None → form ≡ long_form names (steps_of c)
    → n ≡ length form → n ≤ length was → out ≡ form ++ drop n was → Writes names c was (Ok n) out
all_written names c was out form n p f is len le o =
    let long : n ≡ length (long_form names (steps_of c)) = len ∙ ap length is in
    let a : Ok n ≡ written names (steps_of c) (length was) = grind (arith, nat_tests) in
    let whole : out ≡ long_form names (steps_of c) ++ drop n was = o ∙ ap (λ l. l ++ drop n was) is in
    record {
      answer = a;
      memory = whole ∙ ap (λ r. over_by r (long_form names (steps_of c)) was) a;
      back = subst (λ l. Reads names l (Ok c)) (sym (ap (take n) whole ∙ take_at (long_form names (steps_of c)) (drop n was) n (sym long))) (reads_back names p c f);
    }
