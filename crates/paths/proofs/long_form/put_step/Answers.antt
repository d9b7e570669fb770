use Rattle.std.proofs.Common.{length, ap, arith}
use Rattle.names.specs.Listed.{listed}
use Rattle.names.proofs.Laws.{listed_proper}
use Rattle.grammar.proofs.Writing.{word_short, known}
use Rattle.paths.proofs.Forming.{step_put}
use Rattle.paths.proofs.long_form.put_step.Goals as goal

pub put-requires-4 : goal.put-requires-4
put-requires-4 c =
    let names = c.args.names.now in
    let t = c.in_ok-test.ensures in
    let short = (known (listed names) (listed_proper names) c.args.step.test t.0).short in
    omega (arith, short, word_short c.args.step.axis, ap length t.1, ap length c.word.ensures, c.put.ensures.len, c.put-2.ensures.len, c.put-3.ensures.len)

pub returns : goal.returns
returns c =
    let names = c.args.names.now in
    let t = c.in_ok-test.ensures in
    let short = (known (listed names) (listed_proper names) c.args.step.test t.0).short in
    record {
      listed = t.0;
      is = step_put (listed names) c.args.step c.args.form.now.items _ _ _ _ _ _ c.word.ensures t.1 c.put.ensures.items c.put-2.ensures.items c.put-3.ensures.items c.put-4.ensures.items;
      near = omega (arith, short, word_short c.args.step.axis, ap length t.1, ap length c.word.ensures, c.put.ensures.len, c.put-2.ensures.len, c.put-3.ensures.len, c.put-4.ensures.len);
    }
