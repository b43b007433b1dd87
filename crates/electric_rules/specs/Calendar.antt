-- The year of the electric book (01, Electric book, Settle and Month end). No other definition says which months settle, or which run a
-- month's end lets enter.
use Rattle.std.specs.Prelude.{Bool, cond, ◌||◌, ℕ, eqb, Option, Some, None}
use Rattle.electric_rules.specs.declared.EnteringRun.{EnteringRun}
use Rattle.electric_rules.specs.declared.EnteringRun.TheVariants.{First, Second}

-- November and May settle
abbrev pub settles : ℕ → Bool
settles month = eqb month 11 || eqb month 5

-- the run that pending enters at the month's end: run 1 in February, run 2 in August, none in any other
abbrev pub entering : ℕ → Option EnteringRun
entering month = cond (eqb month 2) (Some First) (cond (eqb month 8) (Some Second) None)
