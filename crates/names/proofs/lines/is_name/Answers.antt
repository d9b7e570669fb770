use Rattle.std.proofs.Common.{◌-◌, ◌&&◌, length, take, drop, refl, rules, arith}
use borrow.Author.Tests.{tests}
use Rattle.std.specs.List.{list_all}
use Rattle.std.proofs.lemmas.Bool.Decides.{nat_tests}
use Rattle.std.proofs.lemmas.Iterator.{YieldsList-from_slice}
use Rattle.std.proofs.lemmas.Iterator.Search.{all_from_yields_List}
use Rattle.std.proofs.lemmas.List.Recursion.{same_from_clauses}
use Rattle.names.specs.Classes.{goes}
use Rattle.names.specs.Names.{all_go}
use Rattle.names.proofs.Cuts.{named}
use Rattle.names.proofs.lines.is_name.Goals as goal

pub returns-then-begins_name : goal.returns-then-begins_name
returns-then-begins_name c =
    let rest = take (length c.args.line.now - 1) (drop 1 c.args.line.now) in
    let all = all_from_yields_List goes _ _ _ c.all.ensures.ran (YieldsList-from_slice rest cc) (λ x b q k. search (rules, tests)) in
    let go = same_from_clauses (list_all goes) all_go (λ b r. goes b && r) refl (λ _ _. refl) (λ _ _. refl) rest in
    let n = named c.args.line.now in
    let b = c.begins_name.ensures in
    let e = c.if-begins_name.true in
    grind (arith, nat_tests)
