-- `Filing::rows` is the sheet's rows. Assumes nothing.
use Rattle.std.proofs.Common.{◌≡◌, ◌∙◌, sym, ap, map, List, [], ◌∷◌, ℕ, get_or}
use Rattle.std.proofs.Math.ListN.{get_or-map}
use Rattle.electric_rules.specs.Ranges.{period_yes}
use Rattle.electric_rules.specs.Sizes.{rates_yes}
use Rattle.electric_settlement.specs.Shares.{shares_of, shares_or0_is}
use Rattle.sheet_rows.specs.declared.cells.Cell.TheVariants.{Blank}
use Rattle.sheet_rows.specs.Rows.{Row, shown}
use Rattle.sheet.specs.Sheet.{sheet_by}
use Rattle.sheet_rows.specs.declared.Row as code
use Rattle.sheet.proofs.filing.Filing.rows.Goals as goal
use Rattle.sheet.proofs.filing.Filing.rows.Goals.{After-shares_of-shares}

shares_are : (c : After-shares_of-shares) → c.shares_of-shares.result ≡ shares_of c.args.self.rates c.args.self.found.period
shares_are c =
    let s = c.args.self in
    c.shares_of-shares.ensures ∙ shares_or0_is s.rates s.found.period (rates_yes s.rates s.rates_within) (period_yes s.found.period s.found_within.period)

-- what is shown of a row is the row of what is shown, by its place
abbrev none : code.Row
none = record { number = record { ref_ptr = (0, 0); now = [] }; label = record { ref_ptr = (0, 0); now = [] }; total = Blank; secondary = Blank; primary = Blank }

at : (n : ℕ) (rows : List code.Row) {sheet : List Row} → map shown rows ≡ sheet → shown (get_or rows n none) ≡ get_or sheet n (shown none)
at n rows e = sym (get_or-map shown rows n none) ∙ ap (λ (l : List Row). get_or l n (shown none)) e

pub energy_rows-requires : goal.energy_rows-requires
energy_rows-requires c = λ i. (shares_are (goal.at.energy_rows-requires c).After-shares_of-shares i).weight

pub share_rows-requires : goal.share_rows-requires
share_rows-requires c = shares_are (goal.at.share_rows-requires c).After-shares_of-shares

pub returns : goal.returns
unfolding sheet_by
returns c =
    let a = c.cost_rows.ensures in
    let b = c.energy_rows.ensures in
    let d = c.share_rows.ensures in
    let e = c.owed_rows.ensures in
    let f = c.factor_rows.ensures in
    λ i. at 0 _ a i ∷ at 1 _ a i ∷ at 2 _ a i ∷ at 0 _ b i ∷ at 1 _ b i ∷ at 2 _ b i ∷ at 3 _ b i ∷ at 0 _ d i ∷ at 1 _ d i
    ∷ at 0 _ e i ∷ at 1 _ e i ∷ at 2 _ e i ∷ at 3 _ e i ∷ at 0 _ f i ∷ at 1 _ f i ∷ at 2 _ f i ∷ []
