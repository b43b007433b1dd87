-- `effects::bill` bills the level that the posting names. Assumes nothing.
use Rattle.std.proofs.Common.{rules, ◌≡◌, true, false}
use Rattle.amounts.specs.Amounts.{cents}
use Rattle.postings.specs.declared.Answer.TheVariants.{Line}
use Rattle.electric_rules.proofs.Changed.{levels}
use Rattle.electric_rules.specs.Levels.{level_line, billed_level}
use Rattle.electric_rules.specs.Next.{is_secondary}
use Rattle.electric.proofs.Parts.{secondary_taken, primary_taken}
use Rattle.electric.proofs.effects.bill.Goals as goal

pub bill-requires : goal.bill-requires
bill-requires c = ((levels c.args.book.now c.requires.0).0, c.requires.1)

pub bill-requires-else-posting-eq0 : goal.bill-requires-else-posting-eq0
bill-requires-else-posting-eq0 c = ((levels c.args.book.now c.requires.0).1, c.requires.1)

pub returns-then-posting-eq0 : goal.returns-then-posting-eq0
returns-then-posting-eq0 c =
    let u = c.args.posting.second in
    let named : is_secondary c.args.posting.first ≡ true = search rules in
    secondary_taken c.args.book.now c.requires.0 c.args.posting.first (billed_level u) (λ l. Line (cents (level_line u l))) named c.bill.ensures

pub returns-else-posting-eq0 : goal.returns-else-posting-eq0
returns-else-posting-eq0 c =
    let u = c.args.posting.second in
    let named : is_secondary c.args.posting.first ≡ false = search rules in
    primary_taken c.args.book.now c.requires.0 c.args.posting.first (billed_level u) (λ l. Line (cents (level_line u l))) named c.bill-else-posting-eq0.ensures
