-- `effects::month_end` tests what is carried after it, and stores the next book whole. Assumes nothing.
use Rattle.std.specs.Prelude.{◌≡◌}
use Rattle.std.proofs.Common.{rules, ap, refl, sym, ◌∙◌}
use Rattle.refusals.specs.Rows.{stored_or_12}
use Rattle.refusals.proofs.TableLaws.{stored_within}
use Rattle.amounts.specs.Amounts.{cents_in_limits}
use Rattle.steam_rules.specs.declared.SteamBook.{SteamBook}
use Rattle.steam_rules.specs.Next.{month_ended}
use Rattle.steam_rules.specs.Ranges.{book_within}
use Rattle.steam_rules.proofs.Changed.{month_end_decides}
use Rattle.riders.specs.Posts.{refused, stored}
use Rattle.steam.proofs.effects.month_end.Goals as goal
use Rattle.steam.proofs.effects.month_end.Goals.{After-stored}

-- what is tested is what the rules carry
tested_is : (c : After-stored) → c.stored.result ≡ stored_or_12 (cents_in_limits (month_ended c.args.book.now).carried) (month_ended c.args.book.now).carried
tested_is c = c.stored.ensures ∙ ap (λ (next : SteamBook). stored_or_12 (cents_in_limits next.carried) next.carried) c.ended-next.ensures

pub ended-next-requires : goal.ended-next-requires
ended-next-requires c = book_within c.args.book.now c.requires

pub returns-in_err-stored : goal.returns-in_err-stored
returns-in_err-stored c =
    refused (month_end_decides c.args.book.now c.requires) _ _ _ _ (sym c.in_err-stored.was ∙ tested_is (goal.at.returns-in_err-stored c).After-stored) (search rules)

pub returns : goal.returns
returns c =
    let carried = stored_within _ _ (sym c.in_ok-stored.was ∙ tested_is (goal.at.returns c).After-stored) in
    stored (month_end_decides c.args.book.now c.requires) _ _ _ carried.0 refl c.ended-next.ensures
