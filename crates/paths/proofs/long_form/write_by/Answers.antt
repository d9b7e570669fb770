use Rattle.std.proofs.Common.{◌++◌, drop, ap, ◌∙◌}
use Rattle.names.specs.Listed.{listed}
use Rattle.names.proofs.Laws.{listed_proper}
use Rattle.paths.proofs.Forming.{all_written}
use Rattle.paths.proofs.long_form.write_by.Goals as goal

pub returns : goal.returns
returns c =
    let names = listed c.args.names.now in
    let made = rw c.steps.ensures at c.in_ok-compose.ensures in
    all_written names c.args.chain.now c.args.out.now _ _ _ (listed_proper c.args.names.now) made.0 made.1 c.len-len.ensures.value c.if-len-out.false
    (ap (λ l. l ++ drop c.len-len.result c.args.out.now) (c.copy_from_slice.ensures.after ∙ c.as_slice.ensures.value))
