-- The steam book (01, Steam book): amounts put together, and the fresh book.
use Rattle.std.specs.Prelude.{◌≡◌, false, List, [], ◌∷◌, ℕ, ℤ, pos}
use Rattle.amounts.specs.Amounts.{cents, points}
use Rattle.riders.specs.Runs.{no_run}
use Rattle.riders.specs.declared.Run.{Run}
use Rattle.steam_rules.specs.declared.Mmbtu.{Mmbtu}
use Rattle.steam_rules.specs.declared.Remainder.{Remainder}
use Rattle.steam_rules.specs.declared.Period.{Period}
use Rattle.steam_rules.specs.declared.Reconciliation.{Reconciliation}
use Rattle.steam_rules.specs.declared.SteamBook.{SteamBook}

abbrev pub mmbtu : ℤ → Mmbtu
mmbtu z = record { 0 = z }

abbrev pub remainder : ℤ → Remainder
remainder z = record { 0 = z }

abbrev pub period_of : ℤ → ℤ → ℤ → Period
period_of cost sales rem = record { cost = cents cost; sales = mmbtu sales; remainder = remainder rem }

-- a run with months left
abbrev pub reconciliation_of : Run → ℕ → Reconciliation
reconciliation_of run months = record { run = run; months = months }

abbrev pub no_reconciliation : Reconciliation
no_reconciliation = reconciliation_of no_run 0

-- ---- fresh: month January, all else zero

abbrev pub no_period : Period
no_period = period_of (pos 0) (pos 0) (pos 0)

abbrev pub four : {A : Type 0} → A → List A
four x = x ∷ x ∷ x ∷ x ∷ []

-- after these past quarters, oldest first
abbrev pub fresh_of : List Mmbtu → SteamBook
fresh_of quarters =
    record {
      month = 1;
      settled = false;
      period = no_period;
      quarters = quarters;
      carried = cents (pos 0);
      pending = no_run;
      factors = four (points (pos 0));
      dues = four (cents (pos 0));
      reconciliation = no_reconciliation;
    }

-- sales are the same where their number is
pub same_mmbtu : {a b : ℤ} → a ≡ b → mmbtu a ≡ mmbtu b
same_mmbtu e = λ i. mmbtu (e i)

pub same_remainder : {a b : ℤ} → a ≡ b → remainder a ≡ remainder b
same_remainder e = λ i. remainder (e i)
