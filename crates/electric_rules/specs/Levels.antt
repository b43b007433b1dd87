-- A level (01, Electric book): the cents that it holds, those that bear interest, and what each kind of posting makes of it.
use Rattle.std.specs.Prelude.{List, [], ◌∷◌, ℤ, pos, ◌+ℤ◌, ◌*ℤ◌, Option, Some, None}
use Rattle.rounding.specs.Round.{round}
use Rattle.amounts.specs.Amounts.{cents}
use Rattle.amounts.specs.declared.Points.{Points}
use Rattle.riders.specs.Lines.{line_of, part_of}
use Rattle.riders.specs.declared.Run.{Run}
use Rattle.riders.specs.Runs.{no_run, due_less, filed_run}
use Rattle.electric_rules.specs.declared.EnteringRun.{EnteringRun}
use Rattle.electric_rules.specs.declared.EnteringRun.TheVariants.{First, Second}
use Rattle.electric_rules.specs.declared.Level.{Level}
use Rattle.electric_rules.specs.Book.{level_of}

-- cents held: C + I + Q + d1 + d2
unfoldable pub held_by : Level → ℤ
held_by l = l.carried.0 +ℤ l.interest.0 +ℤ l.pending.due.0 +ℤ l.first.due.0 +ℤ l.second.due.0

-- ---- bill: each d falls by its part

abbrev pub factors_of : Level → List Points
factors_of l = l.first.factor ∷ l.second.factor ∷ []

unfoldable pub level_line : ℤ → Level → ℤ
level_line u l = line_of u (factors_of l)

abbrev pub billed_level : ℤ → Level → Level
billed_level u l =
    record {
      carried = l.carried;
      interest = l.interest;
      pending = l.pending;
      first = due_less (part_of u (factors_of l) 0) l.first;
      second = due_less (part_of u (factors_of l) 1) l.second;
    }

-- ---- adjust: C grows by the amount

abbrev pub adjusted_level : ℤ → Level → Level
adjusted_level amount l =
    record { carried = cents (l.carried.0 +ℤ amount); interest = l.interest; pending = l.pending; first = l.first; second = l.second }

-- ---- settle, by the level's share and its estimated sales

-- Q = share + C + I
unfoldable pub owed_by : ℤ → Level → ℤ
owed_by share l = share +ℤ l.carried.0 +ℤ l.interest.0

-- what was filed is pending; C and I become 0
abbrev pub filed_level : Run → Level → Level
filed_level filed l = level_of (pos 0) (pos 0) filed l.first l.second

-- q = round(100 × Q / estimated sales)
abbrev pub settled_level : ℤ → ℤ → Level → Level
settled_level share estimate l = filed_level (filed_run (owed_by share l) estimate) l

-- ---- month end, at a yearly rate in millionths

-- the balance that bears interest (02, b): C + Q + d1 + d2 and the provisional share. Accrued interest bears none
unfoldable pub bearing_of : ℤ → Level → ℤ
bearing_of provisional l = l.carried.0 +ℤ l.pending.due.0 +ℤ l.first.due.0 +ℤ l.second.due.0 +ℤ provisional

-- round(r × balance / 12000000)
unfoldable pub interest_on : ℤ → ℤ → ℤ
interest_on rate balance = round (rate *ℤ balance) (pos 12000000)

-- I grows by it
abbrev pub accrued_level : ℤ → Level → Level
accrued_level interest l =
    record { carried = l.carried; interest = cents (l.interest.0 +ℤ interest); pending = l.pending; first = l.first; second = l.second }

-- run 1 adds its d to C and becomes (q, Q); Q and q become 0
abbrev pub into_first : Level → Level
into_first l =
    record { carried = cents (l.carried.0 +ℤ l.first.due.0); interest = l.interest; pending = no_run; first = l.pending; second = l.second }

-- run 2 does likewise
abbrev pub into_second : Level → Level
into_second l =
    record { carried = cents (l.carried.0 +ℤ l.second.due.0); interest = l.interest; pending = no_run; first = l.first; second = l.pending }

-- the run that enters, if one does
abbrev pub handed_over : Option EnteringRun → Level → Level
handed_over None l = l
handed_over (Some First) l = into_first l
handed_over (Some Second) l = into_second l
