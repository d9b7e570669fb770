use Rattle.std.proofs.Common.{◌+◌, length, inl, sym, ap, ◌∙◌, arith}
use Rattle.std.proofs.lemmas.List.{length-take-le}
use Rattle.names.specs.Lists.{lines}
use Rattle.names.proofs.Search.{Sofar, start, counted, inside, lines_before, stops, goes_on}
use Rattle.names.proofs.lines.first_bad.Goals as goal

pub loop-count-init : goal.loop-count-init
loop-count-init c =
    let it = c.into_iter-count-iterator.result in
    let same = c.into_iter-count-iterator.ensures.into_iter_gives in
    let whole = ap (λ e. lines e.iter.0.now) same ∙ ap (λ s. lines s.0.now) c.enumerate-count-items.ensures.source in
    let h = start c.args.text.now (lines it.iter.0.now) it.count whole (ap (λ e. e.count) same ∙ c.enumerate-count-items.ensures.count) in
    ((tt, tt, inl (omega (arith, counted h))), tt, h)

pub slice_bounds-may_follow-end : goal.slice_bounds-may_follow-end
slice_bounds-may_follow-end c = sym (length-take-le c.loop-count.at c.args.text.now (inside c.loop-count.invariant.2))

pub may_follow-requires : goal.may_follow-requires
may_follow-requires c = omega (arith, ap length (lines_before c.loop-count.invariant.2), c.in-Some.ensures.steps.1)

pub returns-then-not-may_follow : goal.returns-then-not-may_follow
returns-then-not-may_follow c = stops c.loop-count.invariant.2 c.in-Some.line.now _ c.in-Some.ensures.steps.0 (sym c.if-not-may_follow.ensures)

-- what holds after a good line
after : (c : goal.Else-not-may_follow) → Sofar c.args.text.now (lines c.next.new.self.iter.0.now) c.next.new.self.count (c.loop-count.at + (length c.in-Some.line.now + 1))
after c = goes_on c.loop-count.invariant.2 c.in-Some.line.now _ c.in-Some.ensures.steps.0 (sym c.if-not-may_follow.ensures) c.next.new.self.count (omega (arith, c.in-Some.ensures.steps.2))

pub overflow_add-at-in-loop-count : goal.overflow_add-at-in-loop-count
overflow_add-at-in-loop-count c = omega (arith, inside (after c))

pub loop-count-preserved : goal.loop-count-preserved
loop-count-preserved c = ((tt, tt, inl (omega (arith, counted (after c)))), tt, after c)
