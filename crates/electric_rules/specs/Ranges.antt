-- What the limits tell of a book: a range for every amount that it stores, in records nested like the book. Assumes nothing.
use Rattle.std.specs.Prelude.{◌≡◌, true, ◌≤◌, leb, pos, neg_ℤ}
use Rattle.std.proofs.Common.{leb-true}
use Rattle.ints.specs.Flags.{both}
use Rattle.ints.specs.Range.{Between, Within, in_range_true, in_range_yes}
use Rattle.amounts.specs.Amounts.{cents_in_limits, cents_within}
use Rattle.riders.specs.Runs.{run_in_limits, RunWithin, run_within}
use Rattle.electric_rules.specs.declared.Kwh.{Kwh}
use Rattle.electric_rules.specs.declared.Remainder.{Remainder}
use Rattle.electric_rules.specs.declared.Level.{Level}
use Rattle.electric_rules.specs.declared.Period.{Period}
use Rattle.electric_rules.specs.declared.ElectricBook.{ElectricBook}
use Rattle.electric_rules.specs.Limits.{kwh_in_limits, remainder_in_limits, level_in_limits, period_in_limits, dates_in_limits, in_limits}

pub record LevelWithin (l : Level) : Type 0 where
  pub carried : Within 1000000000000 l.carried.0
  pub interest : Within 1000000000000 l.interest.0
  pub pending : RunWithin l.pending
  pub first : RunWithin l.first
  pub second : RunWithin l.second

pub record PeriodWithin (p : Period) : Type 0 where
  pub cost : Within 1000000000000 p.cost.0
  pub secondary : Between (pos 0) (pos 10000000000) p.sales.secondary.0
  pub primary : Between (pos 0) (pos 10000000000) p.sales.primary.0
  pub remainder : Within 50000 p.remainder.0

pub record BookWithin (b : ElectricBook) : Type 0 where
  pub division : b.division ≤ 1
  pub period : PeriodWithin b.period
  pub secondary : LevelWithin b.secondary
  pub primary : LevelWithin b.primary

kwh_within : (sales : Kwh) → kwh_in_limits sales ≡ true → Between (pos 0) (pos 10000000000) sales.0
kwh_within sales e = in_range_true (pos 0) (pos 10000000000) sales.0 e

remainder_within : (rem : Remainder) → remainder_in_limits rem ≡ true → Within 50000 rem.0
remainder_within rem e = in_range_true (neg_ℤ (pos 50000)) (pos 50000) rem.0 e

pub level_within : (l : Level) → level_in_limits l ≡ true → LevelWithin l
level_within l e =
    let c = both (cents_in_limits l.carried) _ e in
    let i = both (cents_in_limits l.interest) _ c.1 in
    let q = both (run_in_limits l.pending) _ i.1 in
    let d = both (run_in_limits l.first) _ q.1 in
    record {
      carried = cents_within l.carried c.0;
      interest = cents_within l.interest i.0;
      pending = run_within l.pending q.0;
      first = run_within l.first d.0;
      second = run_within l.second d.1;
    }

pub period_within : (p : Period) → period_in_limits p ≡ true → PeriodWithin p
period_within p e =
    let k = both (cents_in_limits p.cost) _ e in
    let s = both (kwh_in_limits p.sales.secondary) _ k.1 in
    let t = both (kwh_in_limits p.sales.primary) _ s.1 in
    record {
      cost = cents_within p.cost k.0;
      secondary = kwh_within p.sales.secondary s.0;
      primary = kwh_within p.sales.primary t.0;
      remainder = remainder_within p.remainder t.1;
    }

pub period_yes : (p : Period) → PeriodWithin p → period_in_limits p ≡ true
unfolding cents_in_limits
period_yes p h = simp (in_range_yes _ _ _ h.cost, in_range_yes _ _ _ h.secondary, in_range_yes _ _ _ h.primary, in_range_yes _ _ _ h.remainder)

division_within : (b : ElectricBook) → dates_in_limits b ≡ true → b.division ≤ 1
division_within b e = leb-true _ _ (both (leb b.division 1) _ e).0

pub book_within : (b : ElectricBook) → in_limits b ≡ true → BookWithin b
book_within b e =
    let d = both (dates_in_limits b) _ e in
    let p = both (period_in_limits b.period) _ d.1 in
    let l = both (level_in_limits b.secondary) _ p.1 in
    record {
      division = division_within b d.0;
      period = period_within b.period p.0;
      secondary = level_within b.secondary l.0;
      primary = level_within b.primary l.1;
    }
