-- The rates of a division (01, Electric book, Opening; sheets 125 to 127), and which a sheet may state. No other definition names one.
use Rattle.std.specs.Prelude.{Bool, cond, ◌&&◌, ℕ, eqb, pos}
use Rattle.ints.specs.Range.{in_range}
use Rattle.electric_rules.specs.declared.Rates.{Rates}

-- 0 L&P
abbrev pub rates_lp : Rates
rates_lp = record { percentage = pos 95; base = pos 1799; secondary = pos 108443; primary = pos 106231 }

-- 1 MPS
abbrev pub rates_mps : Rates
rates_mps = record { percentage = pos 95; base = pos 2538; secondary = pos 107433; primary = pos 104187 }

abbrev pub rates_of : ℕ → Rates
rates_of division = cond (eqb division 0) rates_lp rates_mps

-- what a sheet may state: a percentage of 1 to 100, a base under a dollar, loss factors of 1 to under 2
abbrev pub rates_in_range : Rates → Bool
rates_in_range r =
    in_range (pos 1) (pos 100) r.percentage
    && (in_range (pos 0) (pos 99999) r.base
    && (in_range (pos 100000) (pos 199999) r.secondary && in_range (pos 100000) (pos 199999) r.primary))
