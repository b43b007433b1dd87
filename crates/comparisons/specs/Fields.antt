-- The fields of a book as numbers, in the book's order (01, Electric book; Steam book).
use Rattle.std.specs.Prelude.{Bool, cond, List, [], ◌∷◌, ◌++◌, ℤ, pos, get_or}
use Rattle.amounts.specs.Amounts.{cents, points}
use Rattle.amounts.specs.declared.Cents.{Cents}
use Rattle.amounts.specs.declared.Points.{Points}
use Rattle.riders.specs.declared.Run.{Run}
use Rattle.electric_rules.specs.declared.Level.{Level}
use Rattle.electric_rules.specs.declared.ElectricBook.{ElectricBook}
use Rattle.steam_rules.specs.Book.{mmbtu}
use Rattle.steam_rules.specs.declared.Mmbtu.{Mmbtu}
use Rattle.steam_rules.specs.declared.Reconciliation.{Reconciliation}
use Rattle.steam_rules.specs.declared.SteamBook.{SteamBook}
use Rattle.electric_rules.specs.declared.Period as electric
use Rattle.steam_rules.specs.declared.Period as steam

-- no is 0, and yes is 1
abbrev pub flag_number : Bool → ℤ
flag_number flag = cond flag (pos 1) (pos 0)

abbrev pub run_fields : Run → List ℤ
run_fields run = run.factor.0 ∷ run.due.0 ∷ []

-- ---- the electric book's 23

abbrev pub electric_period_fields : electric.Period → List ℤ
electric_period_fields period = period.cost.0 ∷ period.sales.secondary.0 ∷ period.sales.primary.0 ∷ period.remainder.0 ∷ []

abbrev pub level_fields : Level → List ℤ
level_fields level =
    level.carried.0 ∷ level.interest.0 ∷ (run_fields level.pending ++ run_fields level.first ++ run_fields level.second)

abbrev pub electric_fields : ElectricBook → List ℤ
electric_fields book =
    pos book.division ∷ pos book.month ∷ flag_number book.settled
    ∷ (electric_period_fields book.period ++ level_fields book.secondary ++ level_fields book.primary)

-- ---- the steam book's 23

abbrev pub steam_period_fields : steam.Period → List ℤ
steam_period_fields period = period.cost.0 ∷ period.sales.0 ∷ period.remainder.0 ∷ []

-- an array's four, each as its number
abbrev pub four_of : {A : Type 0} → (A → ℤ) → A → List A → List ℤ
four_of number none xs = number (get_or xs 0 none) ∷ number (get_or xs 1 none) ∷ number (get_or xs 2 none) ∷ number (get_or xs 3 none) ∷ []

abbrev pub quarter_fields : List Mmbtu → List ℤ
quarter_fields = four_of (λ (quarter : Mmbtu). quarter.0) (mmbtu (pos 0))

abbrev pub factor_fields : List Points → List ℤ
factor_fields = four_of (λ (factor : Points). factor.0) (points (pos 0))

abbrev pub due_fields : List Cents → List ℤ
due_fields = four_of (λ (due : Cents). due.0) (cents (pos 0))

abbrev pub reconciliation_fields : Reconciliation → List ℤ
reconciliation_fields reconciliation = run_fields reconciliation.run ++ (pos reconciliation.months ∷ [])

abbrev pub steam_fields : SteamBook → List ℤ
steam_fields book =
    pos book.month ∷ flag_number book.settled
    ∷ (steam_period_fields book.period ++ quarter_fields book.quarters
    ++ (book.carried.0 ∷ (run_fields book.pending ++ factor_fields book.factors ++ due_fields book.dues ++ reconciliation_fields book.reconciliation)))
