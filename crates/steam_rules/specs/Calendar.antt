-- The year of the steam book (01, Steam book, Settle and Month end). No other definition says which months settle, or which run a month's
-- end lets enter. Law: there are four runs. Assumes nothing.
use Rattle.std.specs.Prelude.{Bool, true, false, cond, ◌||◌, ℕ, ◌<◌, eqb, Option, Some, None, IfSome}
use Rattle.std.proofs.Common.{rules}

-- March, June, September and December settle
unfoldable pub settles : ℕ → Bool
settles month = eqb month 3 || (eqb month 6 || (eqb month 9 || eqb month 12))

-- the run that pending enters at the month's end, by its place among the four: run 1 in February, 2 in May, 3 in August, 4 in November
unfoldable pub entering : ℕ → Option ℕ
entering month = cond (eqb month 2) (Some 0) (cond (eqb month 5) (Some 1) (cond (eqb month 8) (Some 2) (cond (eqb month 11) (Some 3) None)))

-- ---- there are four runs

abbrev OfFour : Option ℕ → Type 0
OfFour run = IfSome run (λ (place : ℕ). place < 4)

of_four : (t : Bool) (run other : Option ℕ) → OfFour run → OfFour other → OfFour (cond t run other)
of_four true run other h l = h
of_four false run other h l = l

pub entering_one : (month : ℕ) → OfFour (entering month)
unfolding entering
entering_one month = search (rules, of_four)
