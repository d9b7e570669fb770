use Rattle.std.proofs.Common.{◌≡◌, ◌≢◌, ◌+◌, length, ap, rules, arith}
use borrow.Author.Tests.{tests}
use Rattle.std.proofs.lemmas.List.{take_rest}
use Rattle.std.proofs.lemmas.Iterator.{YieldsList-from_slice, IsFirst-from_position}
use Rattle.names.proofs.Cuts.{cut_first, uncut}
use Rattle.names.proofs.lines.LinesIterator.next.Goals as goal

pub returns-in_err-end-clause-steps : goal.returns-in_err-end-clause-steps
returns-in_err-end-clause-steps c =
    let none = IsFirst-from_position _ _ _ (λ b. b ≡ 10) (λ b. b ≢ 10) c.in_err-end.ensures.ran (YieldsList-from_slice c.args.self.now.0.now cc) (λ x q k. search (rules, tests)) (λ x q k. search (rules, tests)) in
    let e = uncut c.args.self.now.0.now none in
    search rules

pub returns-clause-steps : goal.returns-clause-steps
returns-clause-steps c =
    let s = c.args.self.now.0.now in
    let i = c.in_ok-end.end in
    let p = IsFirst-from_position _ _ _ (λ b. b ≡ 10) (λ b. b ≢ 10) c.in_ok-end.ensures.ran (YieldsList-from_slice s cc) (λ x q k. search (rules, tests)) (λ x q k. search (rules, tests)) in
    rw (take_rest s (i + 1)) (cut_first s i p.0 p.1 p.2)

pub returns-clause-goes : goal.returns-clause-goes
returns-clause-goes c =
    let e = ap length (returns-clause-steps c) in
    record { on = λ _. (tt, tt, omega (arith, e)); keeps = tt; rests = λ _. tt }
