-- What `==` says of tests, steps and lists of steps: that they are the same.
use Rattle.std.proofs.Common.{◌≡◌, Bool, List, Decides, ap, arith}
use Rattle.std.specs.Cmp.Lexicographic.{pointwise}
use Rattle.std.proofs.lemmas.Slice.Eq.{slice_eq-Decides}
use Rattle.chain.specs.declared.Step.{Step}
use Rattle.chain.specs.declared.Test.{Test}
use Rattle.chain.specs.contracts.StepPartialEq as step
use Rattle.chain.specs.contracts.TestPartialEq as test
use Rattle.chain.specs.contracts.AxisPartialEq as axis
use Rattle.chain.specs.declared.Axis.{Axis}
use Rattle.chain.specs.contracts.Axis.{the_type}
use denote.Enum.Bare.{same_true, true_same}
use Rattle.std.proofs.lemmas.Bool.Decides.{Decides-and, Decides-like, nat_tests}

pub test_decides : (a b : Test) → Decides ((test.TheImpl.ghosts).eq a b) (a ≡ b)
test_decides a b = grind (arith, nat_tests)

axis_decides : (a b : Axis) → Decides ((axis.TheImpl.ghosts).eq a b) (a ≡ b)
axis_decides a b = (same_true the_type tt a b, true_same the_type a b)

pub step_decides : (a b : Step) → Decides ((step.TheImpl.ghosts).eq a b) (a ≡ b)
step_decides a b =
    let fields = Decides-and _ _ (axis_decides a.axis b.axis) (test_decides a.test b.test) in
    Decides-like _ (λ w. λ i. record { axis = w.0 i; test = w.1 i }) (λ e. (ap (λ (s : Step). s.axis) e, ap (λ (s : Step). s.test) e)) fields

pub steps_decides : (xs ys : List Step) (r : Bool) → (r ≡ pointwise (step.TheImpl.ghosts).eq xs ys) → Decides r (xs ≡ ys)
steps_decides = slice_eq-Decides step_decides
