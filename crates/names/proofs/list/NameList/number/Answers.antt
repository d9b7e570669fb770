use Rattle.std.proofs.Common.{◌≡◌, ◌≢◌, refl, inl, rules, arith}
use borrow.Author.Tests.{tests}
use Rattle.std.proofs.lemmas.Iterator.{IsFirst-from_position}
use Rattle.std.proofs.lemmas.Iterator.Consumers.{YieldsList-from_first}
use Rattle.names.specs.Lists.{lines}
use Rattle.names.specs.Listed.{listed}
use Rattle.names.proofs.Laws.{listed_proper}
use Rattle.names.proofs.Numbers.{number_at, number_nowhere}
use Rattle.names.proofs.list.NameList.number.Goals as goal

pub position-requires-clause-fits : goal.position-requires-clause-fits
position-requires-clause-fits c = inl (omega (arith, (listed_proper c.args.self.now).few))

pub returns-in_err-index : goal.returns-in_err-index
returns-in_err-index c =
    let word = c.args.word.now in
    let names = listed c.args.self.now in
    let none = IsFirst-from_position c.position.new.self _ _ (λ l. l ≡ word) (λ l. l ≢ word) c.in_err-index.ensures.ran (YieldsList-from_first (λ x. x.now) (λ s. lines s.0.now) names refl) (λ x q k. search (rules, tests)) (λ x q k. search (rules, tests)) in
    let e = number_nowhere names word none in
    search rules

pub overflow_cast-result : goal.overflow_cast-result
overflow_cast-result c = omega (arith, (listed_proper c.args.self.now).few, c.in_ok-index.ensures.bound)

pub overflow_add-result : goal.overflow_add-result
overflow_add-result c = omega (arith, (listed_proper c.args.self.now).few, c.in_ok-index.ensures.bound)

pub returns : goal.returns
returns c =
    let word = c.args.word.now in
    let names = listed c.args.self.now in
    let p = IsFirst-from_position c.position.new.self _ _ (λ l. l ≡ word) (λ l. l ≢ word) c.in_ok-index.ensures.ran (YieldsList-from_first (λ x. x.now) (λ s. lines s.0.now) names refl) (λ x q k. search (rules, tests)) (λ x q k. search (rules, tests)) in
    number_at names (listed_proper c.args.self.now) word c.in_ok-index.index p.0 p.1
