use Rattle.std.proofs.Common.{None, rules, ◌∙◌}
use Rattle.std.proofs.lemmas.Iterator.{YieldsList-from_slice}
use Rattle.std.proofs.lemmas.Iterator.Search.{find_from_yields_List}
use Rattle.std.specs.Str.{bytes_eq}
use borrow.Author.Tests.{tests}
use Rattle.chain.specs.Axes.{word_of, axes}
use Rattle.chain.proofs.Axis.of_word.Goals as goal

pub returns-in_err-axis : goal.returns-in_err-axis
returns-in_err-axis c =
    let none = find_from_yields_List (λ a. bytes_eq (word_of a) c.args.word.now) c.find.new.self _ None c.in_err-axis.ensures.ran (YieldsList-from_slice axes cc) (λ x b q k. search (rules, tests)) in
    c.from_residual.ensures ∙ none
