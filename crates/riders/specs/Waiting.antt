-- When nothing can be pending, by a book's calendar: in a clear month, which is not settled and from which on a settlement comes before a
-- run enters. Each book shows, by a test that computes of every month up to December, that no month's end leads from a pending amount to a
-- clear month. Assumes nothing.
use Rattle.std.specs.Prelude.{◌≡◌, refl, Bool, true, false, cond, not, ◌&&◌, ◌||◌, ℕ, zero, suc, ◌<◌, T, pos, Option, is_some, is_none}
use Rattle.std.proofs.Common.{sym, subst, true≢false, arith}
use Rattle.ints.specs.Flags.{T_true, all_below, all_below_lem}
use Rattle.postings.specs.declared.kinds.Kind.TheVariants.{Settle, MonthEnd}
use Rattle.riders.specs.declared.Run.{Run}
use Rattle.riders.specs.Runs.{no_run}
use Rattle.riders.specs.Months.{month_after, month_in_limits, forbidden, settle_allowed, month_to, month_settled}

-- the months that settle, and the run of the book that enters at a month's end, none in most
module _ {R : Type 0} (settles : ℕ → Bool) (entering : ℕ → Option R) where
  -- within n months, from this one on, a settlement comes before a run enters
  abbrev settles_first : ℕ → ℕ → Bool
  settles_first zero month = false
  settles_first (suc n) month = settles month || (is_none (entering month) && settles_first n (month_after month))

  unfoldable pub clear : ℕ → Bool → Bool
  clear month settled = not settled && settles_first 12 month

  -- a settlement that is not forbidden finds nothing pending
  pub settle_clear : (month : ℕ) (settled : Bool) → forbidden Settle (settles month) settled ≡ false → clear month settled ≡ true
  unfolding clear
  settle_clear month settled allowed = let now = settle_allowed (settles month) settled allowed in simp (now.0, now.1)

  -- where the month after it is clear, a run enters at its end, or it is clear itself
  abbrev pub turns : ℕ → Bool → Bool
  turns month settled = not (clear (month_after month) false) || (is_some (entering month) || clear month settled)

  -- a month that may end is settled if it settles, and unsettled if not: so much is to be tested of every month
  abbrev pub all_turn : Bool
  all_turn = all_below 13 (λ (month : ℕ). turns month (settles month))

  pub month_turns :
      T all_turn → (month : ℕ) (settled : Bool) → month_in_limits month (settles month) settled ≡ true → forbidden MonthEnd (settles month) settled ≡ false →
      T (turns month settled)
  month_turns all month settled limits allowed =
      let to = month_to (settles month) settled month limits in
      let below : month < 13 = omega arith in
      subst (λ (settled : Bool). T (turns month settled)) (sym (month_settled (settles month) settled month limits allowed))
      (all_below_lem 13 (λ (month : ℕ). turns month (settles month)) all month below)

-- a month's end leads to a clear month only by way of a run that enters, or from a clear month: either way nothing is pending after it
pub none_pending :
    (after entered before : Bool) (pending : Run) → T (not after || (entered || before)) → (before ≡ true → pending.due.0 ≡ pos 0) →
    after ≡ true → (cond entered no_run pending).due.0 ≡ pos 0
none_pending true true before pending h k c = refl
none_pending true false before pending h k c = k (T_true before h)
none_pending false entered before pending h k c = absurd (true≢false (sym c))
