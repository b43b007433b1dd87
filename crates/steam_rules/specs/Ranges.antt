-- What the limits tell of a book: each of their tests, and a range for every amount that it stores, in records nested like the book. Assumes
-- nothing.
use Rattle.std.specs.Prelude.{◌≡◌, true, List, leb, pos, neg_ℤ}
use Rattle.std.proofs.Props.{props}
use Rattle.ints.specs.Flags.{both}
use Rattle.ints.specs.Range.{Between, Within, in_range_true, in_range_yes}
use Rattle.amounts.specs.Amounts.{cents_in_limits, points_in_limits, cents_within, points_within}
use Rattle.amounts.specs.declared.Cents.{Cents}
use Rattle.amounts.specs.declared.Points.{Points}
use Rattle.riders.specs.Months.{month_in_limits}
use Rattle.riders.specs.Runs.{run_in_limits, RunWithin, run_within}
use Rattle.steam_rules.specs.declared.Mmbtu.{Mmbtu}
use Rattle.steam_rules.specs.declared.Remainder.{Remainder}
use Rattle.steam_rules.specs.declared.Period.{Period}
use Rattle.steam_rules.specs.declared.Reconciliation.{Reconciliation}
use Rattle.steam_rules.specs.declared.SteamBook.{SteamBook}
use Rattle.steam_rules.specs.Calendar.{settles}
use Rattle.steam_rules.specs.Limits.{mmbtu_in_limits, remainder_in_limits, period_in_limits, quarters_in_limits, factors_in_limits, dues_in_limits, reconciliation_in_limits, runs_in_limits, in_limits}
use Rattle.steam_rules.specs.Fours.{Four, four_prop, four_tested, four_yes}

-- ---- each test of the limits, the account's apart

pub record Others (b : SteamBook) : Type 0 where
  pub month : month_in_limits b.month (settles b.month) b.settled ≡ true
  pub period : period_in_limits b.period ≡ true
  pub quarters : quarters_in_limits b.quarters ≡ true
  pub pending : run_in_limits b.pending ≡ true
  pub factors : factors_in_limits b.factors ≡ true
  pub dues : dues_in_limits b.dues ≡ true
  pub reconciliation : reconciliation_in_limits b.reconciliation ≡ true

pub tested : (b : SteamBook) → in_limits b ≡ true → Others b × (cents_in_limits b.carried ≡ true)
unfolding in_limits runs_in_limits
tested b e =
    let m = both (month_in_limits b.month (settles b.month) b.settled) _ e in
    let p = both (period_in_limits b.period) _ m.1 in
    let q = both (quarters_in_limits b.quarters) _ p.1 in
    let c = both (cents_in_limits b.carried) _ q.1 in
    let r = both (run_in_limits b.pending) _ c.1 in
    let f = both (factors_in_limits b.factors) _ r.1 in
    let d = both (dues_in_limits b.dues) _ f.1 in
    (record { month = m.0; period = p.0; quarters = q.0; pending = r.0; factors = f.0; dues = d.0; reconciliation = d.1 }, c.0)

-- ---- the ranges

abbrev pub MmbtuWithin : Mmbtu → Type 0
MmbtuWithin sales = Between (pos 0) (pos 100000000) sales.0

abbrev pub PointsWithin : Points → Type 0
PointsWithin factor = Within 99999 factor.0

abbrev pub CentsWithin : Cents → Type 0
CentsWithin amount = Within 1000000000000 amount.0

pub record PeriodWithin (p : Period) : Type 0 where
  pub cost : Within 1000000000000 p.cost.0
  pub sales : Between (pos 0) (pos 100000000) p.sales.0
  pub remainder : Within 5000 p.remainder.0

-- the four runs and the reconciliation's
pub record RunsWithin (b : SteamBook) : Type 0 where
  pub pending : RunWithin b.pending
  pub factors : Four PointsWithin b.factors
  pub dues : Four CentsWithin b.dues
  pub reconciliation : RunWithin b.reconciliation.run

pub record BookWithin (b : SteamBook) : Type 0 where
  pub period : PeriodWithin b.period
  pub quarters : Four MmbtuWithin b.quarters
  pub carried : Within 1000000000000 b.carried.0
  pub runs : RunsWithin b

pub mmbtu_within : (sales : Mmbtu) → mmbtu_in_limits sales ≡ true → MmbtuWithin sales
unfolding mmbtu_in_limits
mmbtu_within sales e = in_range_true (pos 0) (pos 100000000) sales.0 e

pub mmbtu_yes : (sales : Mmbtu) → MmbtuWithin sales → mmbtu_in_limits sales ≡ true
unfolding mmbtu_in_limits
mmbtu_yes sales h = in_range_yes (pos 0) (pos 100000000) sales.0 h

pub quarters_yes : (quarters : List Mmbtu) → Four MmbtuWithin quarters → quarters_in_limits quarters ≡ true
unfolding quarters_in_limits
quarters_yes quarters qs = four_yes mmbtu_in_limits MmbtuWithin mmbtu_yes quarters qs

pub quarters_within : (quarters : List Mmbtu) → quarters_in_limits quarters ≡ true → Four MmbtuWithin quarters
unfolding quarters_in_limits
quarters_within quarters e = four_tested mmbtu_in_limits MmbtuWithin mmbtu_within quarters e

remainder_within : (rem : Remainder) → remainder_in_limits rem ≡ true → Within 5000 rem.0
unfolding remainder_in_limits
remainder_within rem e = in_range_true (neg_ℤ (pos 5000)) (pos 5000) rem.0 e

pub period_within : (p : Period) → period_in_limits p ≡ true → PeriodWithin p
unfolding period_in_limits
period_within p e =
    let k = both (cents_in_limits p.cost) _ e in
    let s = both (mmbtu_in_limits p.sales) _ k.1 in
    record { cost = cents_within p.cost k.0; sales = mmbtu_within p.sales s.0; remainder = remainder_within p.remainder s.1 }

pub period_yes : (p : Period) → PeriodWithin p → period_in_limits p ≡ true
unfolding period_in_limits cents_in_limits remainder_in_limits
period_yes p h =
    let c = in_range_yes (neg_ℤ (pos 1000000000000)) (pos 1000000000000) p.cost.0 h.cost in
    simp (c, mmbtu_yes p.sales h.sales, in_range_yes (neg_ℤ (pos 5000)) (pos 5000) p.remainder.0 h.remainder)

reconciliation_within : (r : Reconciliation) → reconciliation_in_limits r ≡ true → RunWithin r.run
unfolding reconciliation_in_limits
reconciliation_within r e = run_within r.run (both (run_in_limits r.run) _ (both (leb r.months 24) _ e).1).0

pub book_within : (b : SteamBook) → in_limits b ≡ true → BookWithin b
unfolding factors_in_limits dues_in_limits
book_within b e =
    let t = tested b e in
    let o = t.0 in
    record {
      period = period_within b.period o.period;
      quarters = quarters_within b.quarters o.quarters;
      carried = cents_within b.carried t.1;
      runs = record {
        pending = run_within b.pending o.pending;
        factors = four_tested points_in_limits PointsWithin points_within b.factors o.factors;
        dues = four_tested cents_in_limits CentsWithin cents_within b.dues o.dues;
        reconciliation = reconciliation_within b.reconciliation o.reconciliation;
      };
    }

-- a book is within its limits in one way alone
pub book_within_prop : (b : SteamBook) → IsProp (BookWithin b)
book_within_prop b =
    let quarters = four_prop MmbtuWithin (λ sales. hlevel props) b.quarters in
    let factors = four_prop PointsWithin (λ factor. hlevel props) b.factors in
    let dues = four_prop CentsWithin (λ amount. hlevel props) b.dues in
    hlevel (props, quarters, factors, dues)
