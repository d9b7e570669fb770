use Rattle.std.proofs.Common.{take, drop, sym, subst₂, ap, ◌∙◌, arith}
use Rattle.std.proofs.lemmas.List.Sums.{prefix_len-le-length}
use Rattle.names.specs.Classes.{begins, goes}
use Rattle.paths.specs.Cuts.{NameCut}
use Rattle.paths.proofs.Cutting.{name_cut, heads_first}
use Rattle.paths.proofs.split.split_name.Goals as goal

pub split_at-requires : goal.split_at-requires
split_at-requires c = omega (arith, c.name_len.ensures, prefix_len-le-length goes c.args.text.now)

pub returns-in-len1-up : goal.returns-in-len1-up
returns-in-len1-up c =
    let text = c.args.text.now in
    let cut = name_cut text (heads_first begins text (omega (arith, c.in-len1-up.len_at_least)) ∙ sym c.if-begins_name.ensures) in
    subst₂ (NameCut text) (sym (c.split_at.ensures.front ∙ ap (λ n. take n text) c.name_len.ensures)) (sym (c.split_at.ensures.back ∙ ap (λ n. drop n text) c.name_len.ensures)) cut
