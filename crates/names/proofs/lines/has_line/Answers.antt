use Rattle.std.proofs.Common.{◌||◌, refl, ◌∙◌, rules}
use borrow.Author.Tests.{tests}
use Rattle.std.specs.Str.{bytes_eq}
use Rattle.std.specs.List.{list_any}
use Rattle.std.proofs.lemmas.Iterator.Consumers.{YieldsList-from_first}
use Rattle.std.proofs.lemmas.Iterator.Search.{any_from_yields_List}
use Rattle.std.proofs.lemmas.List.Recursion.{same_from_clauses}
use Rattle.names.specs.Names.{member}
use Rattle.names.specs.Lists.{lines}
use Rattle.names.proofs.lines.has_line.Goals as goal

pub returns : goal.returns
returns c =
    let word = c.args.word.now in
    let some = any_from_yields_List (λ l. bytes_eq l word) c.any.new.self _ _ c.any.ensures.ran (YieldsList-from_first (λ x. x.now) (λ s. lines s.0.now) (lines c.args.text.now) refl) (λ x b q k. search (rules, tests)) in
    some ∙ same_from_clauses (list_any (λ l. bytes_eq l word)) (member word) (λ l b. bytes_eq l word || b) refl (λ _ _. refl) (λ _ _. refl) (lines c.args.text.now)
