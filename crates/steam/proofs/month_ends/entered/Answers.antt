-- `month_ends::entered` lets the run enter that the rules enter. Assumes nothing.
use Rattle.std.specs.Prelude.{ℕ, pos, Option}
use Rattle.std.proofs.Common.{sym, ap, ◌∙◌}
use Rattle.ints.specs.Bound.{bounds, fits64}
use Rattle.ints.specs.Exact.{exacts, exact}
use Rattle.amounts.specs.Amounts.{cents}
use Rattle.steam_rules.specs.Next.{entered}
use Rattle.steam_rules.specs.Fours.{at}
use Rattle.steam.proofs.MonthEnds.{run_enters, placed_as}
use Rattle.steam.proofs.month_ends.entered.Goals as goal

pub overflow_add-next : goal.overflow_add-next
overflow_add-next c =
    let carried = c.requires.0.carried in
    let place = placed_as (sym c.in-Some.is) c.requires.1 in
    let due = at (cents (pos 0)) c.requires.0.runs.dues c.in-Some.place place in
    fits64 (search (bounds, carried, due) depth 30) tt

pub returns : goal.returns
returns c =
    let carried = c.requires.0.carried in
    let place = placed_as (sym c.in-Some.is) c.requires.1 in
    let due = at (cents (pos 0)) c.requires.0.runs.dues c.in-Some.place place in
    run_enters c.in-Some.place c.args.book (exact (search (exacts, carried, due) depth 30) tt) c.none.ensures
    ∙ ap (λ (run : Option ℕ). entered run c.args.book) (sym c.in-Some.is)
