-- `LevelInLimits::billed` is a bill's line, and the level with the runs' parts of it taken from their due cents. Assumes nothing.
use mathlib.Core.Path.{◌≡◌, ap, ◌∙◌}
use lib.IntN.{ℤ, pos, ◌-ℤ◌}
use mir.Syntax.{w64}
use mir.Val.{to_z, of_z}
use Rattle.ints.specs.Bound.{bounds, fits64}
use Rattle.ints.specs.Exact.{exacts, e_eq, exact}
use Rattle.ints.specs.Range.{Within, between_same}
use Rattle.rounding.specs.Round.{round}
use Rattle.amounts.specs.Amounts.{cents}
use Rattle.riders.specs.Lines.{part_of}
use Rattle.riders.specs.Runs.{due_less}
use Rattle.electric_rules.specs.Levels.{factors_of, level_line}
use Rattle.electric.proofs.Bills.{factor_read, line_is, first_is, second_is, line_within, first_within, second_within}
use Rattle.electric.proofs.levels.LevelInLimits.billed.Goals as goal
use Rattle.electric.proofs.levels.LevelInLimits.billed.Goals.{After-to_cents-first}

line_sent : (c : After-to_cents-first) → c.to_cents-line.result ≡ cents (level_line c.args.posting.second c.args.self.level)
line_sent c =
    let l = c.args.self in
    let u = c.args.posting.second in
    c.to_cents-line.ensures ∙ ap (λ (z : ℤ). cents (round z (pos 100))) (exact (search (exacts, e_eq, l.within, c.requires) depth 30) tt) ∙ ap cents (line_is u l.level)

first_sent : (c : After-to_cents-first) → c.to_cents-first.result ≡ cents (part_of c.args.posting.second (factors_of c.args.self.level) 0)
first_sent c =
    let l = c.args.self in
    let u = c.args.posting.second in
    c.to_cents-first.ensures ∙ ap (λ (z : ℤ). cents (round z (pos 100))) (exact (search (exacts, e_eq, l.within, c.requires) depth 30) tt) ∙ ap cents (first_is u l.level)

line_small : (c : After-to_cents-first) → Within 5000000000000 c.to_cents-line.result.0
line_small c = between_same (λ i. (line_sent c i).0) (line_within c.args.posting.second c.args.self.level c.requires.1.0 c.args.self.within)

first_small : (c : After-to_cents-first) → Within 5000000000000 c.to_cents-first.result.0
first_small c = between_same (λ i. (first_sent c i).0) (first_within c.args.posting.second c.args.self.level c.requires.1.0 c.args.self.within)

second_sent : (c : After-to_cents-first) → to_z w64 (of_z w64 (to_z w64 (of_z w64 c.to_cents-line.result.0) -ℤ to_z w64 (of_z w64 c.to_cents-first.result.0))) ≡ part_of c.args.posting.second (factors_of c.args.self.level) 1
second_sent c =
    let line = line_small c in
    let first = first_small c in
    let e : to_z w64 (of_z w64 (to_z w64 (of_z w64 c.to_cents-line.result.0) -ℤ to_z w64 (of_z w64 c.to_cents-first.result.0))) ≡ c.to_cents-line.result.0 -ℤ c.to_cents-first.result.0 = exact (search (exacts, line, first) depth 30) tt in
    e ∙ (λ i. (line_sent c i).0 -ℤ (first_sent c i).0) ∙ second_is c.args.posting.second c.args.self.level

pub overflow_mul-posting : goal.overflow_mul-posting
overflow_mul-posting c =
    let w = c.args.self.within in
    let usage = c.requires.1.0 in
    let first = factor_read c.from-factor.ensures w.first.factor in
    let second = factor_read c.from.ensures w.second.factor in
    fits64 (search (bounds, usage, first, second) depth 30) tt

pub overflow_mul-posting-2 : goal.overflow_mul-posting-2
overflow_mul-posting-2 c =
    let usage = c.requires.1.0 in
    let first = factor_read c.from-factor.ensures c.args.self.within.first.factor in
    fits64 (search (bounds, usage, first) depth 30) tt

pub overflow_sub-second : goal.overflow_sub-second
overflow_sub-second c =
    let k = (goal.at.overflow_sub-second c).After-to_cents-first in
    let line = line_small k in
    let first = first_small k in
    fits64 (search (bounds, line, first) depth 30) tt

pub due_less-requires : goal.due_less-requires
due_less-requires c =
    (first_small (goal.at.due_less-requires c).After-to_cents-first, c.args.self.within.first)

pub due_less-requires-2 : goal.due_less-requires-2
due_less-requires-2 c =
    let k = (goal.at.due_less-requires-2 c).After-to_cents-first in
    let l = c.args.self in
    (between_same (second_sent k) (second_within c.args.posting.second l.level c.requires.1.0 l.within), l.within.second)

pub returns : goal.returns
returns c =
    let k = (goal.at.returns c).After-to_cents-first in
    let l = c.args.self.level in
    let first = c.due_less.ensures ∙ (λ i. due_less (first_sent k i).0 l.first) in
    let second = c.due_less-2.ensures ∙ (λ i. due_less (second_sent k i) l.second) in
    λ i. (line_sent k i, record { carried = l.carried; interest = l.interest; pending = l.pending; first = first i; second = second i })
