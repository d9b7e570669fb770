-- A chain's steps: how many they are, one more of them, and that they tell chains apart.
use mathlib.Core.HLevel.{is_prop→PathP}
use Rattle.std.proofs.Common.{◌≡◌, ◌+◌, ◌-◌, ◌≤◌, ◌++◌, length, drop, set, replicate, sym, ap, ◌∙◌, ap₂, arith, take-append-drop}
use mathlib.Core.List.{is_set}
use base.Stored.{Coded-set, coded_ℕ}
use native.Mathlib.Bridge.{le_prop}
use Rattle.std.proofs.lemmas.List.{length-take-le, drop-set-lt, drop-drop, drop-replicate}
use Rattle.chain.specs.contracts.Step.{the_row}
use Rattle.chain.specs.declared.Step.{Step}
use Rattle.chain.specs.declared.chain.Chain.{Chain}
use Rattle.chain.specs.Chains.{steps_of}
use Rattle.chain.specs.Laws.{ChainsSame, FewSteps}
use Rattle.chain.specs.Steps.{blank}

pub length-steps : (c : Chain) → length (steps_of c) ≡ c.len
length-steps c = length-take-le c.len c.steps (omega (arith, c.few, c.whole))

pub few_steps : FewSteps
few_steps c = omega (arith, c.few, length-steps c)

-- One more step leaves blanks past it.
pub rest_more : (c : Chain) (s : Step) → drop (c.len + 1) (set c.steps c.len s) ≡ replicate (15 - (c.len + 1)) blank
rest_more c s =
    drop-set-lt (c.len + 1) c.steps c.len s (omega arith)
    ∙ sym (drop-drop 1 c.len c.steps)
    ∙ ap (drop 1) c.rest
    ∙ drop-replicate 1 (15 - c.len) blank
    ∙ ap (λ n. replicate n blank) (omega arith)

step_set : IsSet Step
step_set = Coded-set the_row.coded

-- The invariants have one proof at most, so that the fields alone make a chain.
fields_same : (a b : Chain) → a.len ≡ b.len → a.steps ≡ b.steps → a ≡ b
fields_same a b lens lists = λ i. record {
  steps = lists i;
  len = lens i;
  few = is_prop→PathP (λ j. lens j ≤ 15) (λ j. le_prop) a.few b.few i;
  whole = is_prop→PathP (λ j. length (lists j) ≡ 15) (λ j. Coded-set coded_ℕ (length (lists j)) 15) a.whole b.whole i;
  rest = is_prop→PathP (λ j. drop (lens j) (lists j) ≡ replicate (15 - lens j) blank) (λ j. is_set step_set (drop (lens j) (lists j)) (replicate (15 - lens j) blank)) a.rest b.rest i;
}

-- Chains with the same steps are the same.
pub chains_same : ChainsSame
chains_same a b e =
    let lens = sym (length-steps a) ∙ ap length e ∙ length-steps b in
    let blanks = a.rest ∙ ap (λ n. replicate (15 - n) blank) lens ∙ sym b.rest in
    fields_same a b lens (sym (take-append-drop a.len a.steps) ∙ ap₂ ◌++◌ e blanks ∙ take-append-drop b.len b.steps)
