-- The months of both books (01, Electric book and Steam book, Settle and Month end; Refusals, 6 and 8), by whether a month settles, which
-- each book says for itself. Laws: which months are within the limits, and what an accepted settlement
-- or month end finds. Assumes nothing.
use Rattle.std.specs.Prelude.{◌≡◌, Bool, cond, ◌&&◌, ◌||◌, ℕ, ◌+◌, ◌≤◌, leb, ltb}
use Rattle.std.proofs.Math.Path.{refl, sym}
use Rattle.std.proofs.Math.Bool.{true, false, not}
use Rattle.std.proofs.Common.{arith, true≢false}
use borrow.Author.Tests.{not-false, leb-true, ltb-true, le-leb}
use Rattle.ints.specs.Flags.{both}
use Rattle.postings.specs.declared.kinds.Kind.{Kind}
use Rattle.postings.specs.declared.kinds.Kind.TheVariants.{Cost, Sales, Bill, Settle, MonthEnd, Adjust, Reconcile, Unknown}

-- the month moves on, December to January
unfoldable pub month_after : ℕ → ℕ
month_after month = cond (ltb month 12) (month + 1) 1

-- month 1 to 12, settled only in a month that settles
unfoldable pub month_in_limits : ℕ → Bool → Bool → Bool
month_in_limits month settles settled = leb 1 month && (leb month 12 && (not settled || settles))

-- 8: month or settled state forbids it
abbrev pub forbidden : Kind → Bool → Bool → Bool
forbidden Cost settles settled = settled
forbidden Sales settles settled = settled
forbidden Bill settles settled = false
forbidden Settle settles settled = settled || not settles
forbidden MonthEnd settles settled = settles && not settled
forbidden Adjust settles settled = false
forbidden Reconcile settles settled = false
forbidden Unknown settles settled = false

-- ---- which months are within the limits

-- the month after any other, not settled
pub next_month : (month : ℕ) (settles : Bool) → month_in_limits (month_after month) settles false ≡ true
unfolding month_in_limits month_after
next_month month settles = go (ltb month 12) refl
  where
    go : (t : Bool) → ltb month 12 ≡ t → leb 1 (cond t (month + 1) 1) && (leb (cond t (month + 1) 1) 12 && true) ≡ true
    go true e =
        let l = ltb-true month 12 e in
        simp (le-leb 1 (month + 1) (omega arith), le-leb (month + 1) 12 (omega arith))
    go false e = refl

-- a month that settles, settled
pub settled_month : (month : ℕ) (settles settled : Bool) → month_in_limits month settles settled ≡ true → settles ≡ true → month_in_limits month settles true ≡ true
unfolding month_in_limits
settled_month month settles settled e s =
    let from = both (leb 1 month) _ e in
    simp (from.0, (both (leb month 12) _ from.1).0, s)

-- ---- what an accepted posting finds

module _ (settles settled : Bool) where
  -- a settlement finds an unsettled month that settles
  pub settle_allowed : forbidden Settle settles settled ≡ false → (settled ≡ false) × (settles ≡ true)
  settle_allowed e = go settled settles e
    where
      go : (settled settles : Bool) → settled || not settles ≡ false → (settled ≡ false) × (settles ≡ true)
      go true settles e = absurd (true≢false e)
      go false settles e = (refl, not-false settles e)

  module _ (month : ℕ) (limits : month_in_limits month settles settled ≡ true) where
    pub month_to : month ≤ 12
    unfolding month_in_limits
    month_to = leb-true month 12 (both (leb month 12) _ (both (leb 1 month) _ limits).1).0

    -- a month ends settled if it settles, and unsettled if not
    pub month_settled : forbidden MonthEnd settles settled ≡ false → settled ≡ settles
    unfolding month_in_limits
    month_settled f = go settled settles (both (leb month 12) _ (both (leb 1 month) _ limits).1).1 f
      where
        go : (settled settles : Bool) → not settled || settles ≡ true → settles && not settled ≡ false → settled ≡ settles
        go true true e f = refl
        go true false e f = sym e
        go false true e f = absurd (true≢false f)
        go false false e f = refl
