-- The factors up to each run together, and their lines, as the code passes them on.
use Rattle.std.specs.Prelude.{List, ℤ, take}
use Rattle.amounts.specs.Amounts.{cents}
use Rattle.amounts.specs.declared.Cents.{Cents}
use Rattle.amounts.specs.declared.Points.{Points}
use Rattle.riders.specs.Lines.{together, line_of}
use Rattle.steam.specs.declared.bills.Factors.{Factors}
use Rattle.steam.specs.declared.bills.UpTo.{UpTo}

abbrev pub as_factors : ℤ → Factors
as_factors z = record { 0 = z }

abbrev pub totals_of : List Points → UpTo Factors
totals_of factors =
    record {
      first = as_factors (together (take 1 factors));
      second = as_factors (together (take 2 factors));
      third = as_factors (together (take 3 factors));
      fourth = as_factors (together (take 4 factors));
      all = as_factors (together factors);
    }

abbrev pub lines_of : ℤ → List Points → UpTo Cents
lines_of u factors =
    record {
      first = cents (line_of u (take 1 factors));
      second = cents (line_of u (take 2 factors));
      third = cents (line_of u (take 3 factors));
      fourth = cents (line_of u (take 4 factors));
      all = cents (line_of u factors);
    }
