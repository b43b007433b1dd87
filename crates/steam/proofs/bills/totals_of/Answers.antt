-- `bills::totals_of` gives the factors up to each run together, each sum by the one before it. Assumes nothing.
use native.Mathlib.Omega.{arith}
use lib.IntN.{pos}
use Rattle.ints.specs.Order.{signed}
use Rattle.ints.specs.Range.{Within, between_same}
use Rattle.ints.specs.Bound.{b_add, b_between, within_by}
use Rattle.amounts.specs.Amounts.{points}
use Rattle.steam_rules.specs.Fours.{at}
use Rattle.steam.proofs.BillLines.{totals_are}
use Rattle.steam.proofs.bills.totals_of.Goals as goal

pub with_run-requires : goal.with_run-requires
with_run-requires c =
    let one : Within 100000 c.with_run-first.result.0 = let h : Within 0 (pos 0) = omega signed in
    between_same (λ i. (c.with_run-first.ensures i).0) (within_by (b_add (b_between h) (b_between (at (points (pos 0)) c.requires.0 0 (omega arith)))) tt) in
    let two : Within 200000 c.with_run-second.result.0 = between_same (λ i. (c.with_run-second.ensures i).0) (within_by (b_add (b_between (one)) (b_between (at (points (pos 0)) c.requires.0 1 (omega arith)))) tt) in
    let three : Within 300000 c.with_run-third.result.0 = between_same (λ i. (c.with_run-third.ensures i).0) (within_by (b_add (b_between (two)) (b_between (at (points (pos 0)) c.requires.0 2 (omega arith)))) tt) in
    let four : Within 400000 c.with_run-fourth.result.0 = between_same (λ i. (c.with_run-fourth.ensures i).0) (within_by (b_add (b_between (three)) (b_between (at (points (pos 0)) c.requires.0 3 (omega arith)))) tt) in
    let h = four in (omega signed, c.requires.1)

pub returns : goal.returns
returns c =
    let s = c in
    totals_are s.args.factors s.args.last s.requires.0.count c.with_run-first.ensures c.with_run-second.ensures c.with_run-third.ensures c.with_run-fourth.ensures c.with_run.ensures
