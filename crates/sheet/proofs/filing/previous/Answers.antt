-- `previous` is the factor of the run beside the one that enters. Assumes nothing.
use Rattle.std.proofs.Common.{◌≡◌, sym, ap, ◌∙◌, Option, Some}
use Rattle.riders.specs.Months.{month_after}
use Rattle.electric_rules.specs.declared.EnteringRun.{EnteringRun}
use Rattle.electric_rules.specs.Calendar.{entering}
use Rattle.sheet.specs.Figures.{factor_beside, previous_factor}
use Rattle.sheet.proofs.filing.previous.Goals as goal
use Rattle.sheet.proofs.filing.previous.Goals.{After-entering}

-- the run that the code finds is the one that enters three months on
entered_is : (c : After-entering) → c.entering.result ≡ entering (month_after (month_after (month_after c.args.month)))
entered_is c =
    c.entering.ensures
    ∙ ap entering (c.month_after-third.ensures ∙ ap month_after (c.month_after-2.ensures ∙ ap month_after c.month_after.ensures))

beside : (c : After-entering) {entered : Option EnteringRun} → c.entering.result ≡ entered → factor_beside entered c.args.level ≡ previous_factor c.args.month c.args.level
unfolding previous_factor
beside c e = ap (λ (o : Option EnteringRun). factor_beside o c.args.level) (sym e ∙ entered_is c)

pub returns-in-Some-First : goal.returns-in-Some-First
returns-in-Some-First c = beside (goal.at.returns-in-Some-First c).After-entering (c.in-Some-First.is ∙ ap Some c.in-Some-First.field-0-is)

pub returns-in-Some-Second : goal.returns-in-Some-Second
returns-in-Some-Second c = beside (goal.at.returns-in-Some-Second c).After-entering (c.in-Some-Second.is ∙ ap Some c.in-Some-Second.field-0-is)

pub returns-in-None : goal.returns-in-None
returns-in-None c = beside (goal.at.returns-in-None c).After-entering c.in-None.is
