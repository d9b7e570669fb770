use Rattle.std.proofs.Common.{sym, subst, arith}
use Rattle.std.proofs.lemmas.Bool.Decides.{nat_tests}
use Rattle.paths.specs.Cuts.{NameStuck}
use Rattle.paths.proofs.Cutting.{kind_cut, kind_stuck, name_broken, behind_one}
use Rattle.paths.proofs.split.test_of_name.Goals as goal

pub returns-in_err-rest-in-Some : goal.returns-in_err-rest-in-Some
returns-in_err-rest-in-Some c =
    let p = c.in_err-rest-in-Some.ensures in
    name_broken c.args.word.now c.args.text.now c.from_residual.result c.in_err-rest-in-Some.field-0.0 c.from_residual.ensures.1
    (subst (NameStuck c.args.word.now c.args.text.now) (sym p.0) (kind_stuck _ _ _ _ (behind_one c.args.text.now 40 (grind (arith, nat_tests)) (grind (arith, nat_tests))) p.1 (sym c.in-Some.ensures)))

pub returns-in_ok-rest-in-Some : goal.returns-in_ok-rest-in-Some
returns-in_ok-rest-in-Some c = kind_cut _ _ _ _ _ (behind_one c.args.text.now 40 (grind (arith, nat_tests)) (grind (arith, nat_tests))) c.in_ok-rest-in-Some.ensures (sym c.in-Some.ensures)
