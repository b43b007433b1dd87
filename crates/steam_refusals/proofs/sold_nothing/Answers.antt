-- `sold_nothing` is row 10 of the table: of a settlement the sales and the determinants are compared. Assumes nothing.
use mathlib.Core.Path.{◌≡◌, sym, ap, ◌∙◌, subst}
use mathlib.Core.Bool.{◌||◌}
use lib.IntN.{pos}
use lib.Signed.{lt_z}
use mir.Syntax.{w64}
use mir.Val.{SFits, to_z, of_z}
use mir.Facts.{to_z-of_z}
use Rattle.ints.specs.Bound.{b_between, fits64}
use Rattle.ints.specs.Machine.{eq_z_bits, zero64}
use Rattle.postings.specs.Ranged.{Ranged}
use Rattle.postings.specs.declared.kinds.Kind.{Kind}
use Rattle.postings.specs.declared.Book.TheVariants.{Steam}
use Rattle.steam_rules.specs.Book.{mmbtu, same_mmbtu}
use Rattle.steam_rules.specs.Settlement.{determinants_of}
use Rattle.steam_rules.specs.Quarters.{determinants_within}
use Rattle.steam_rules.specs.Ranges.{book_within}
use Rattle.steam_rules.specs.Refusals.{nothing_sold}
use Rattle.steam_settlement.specs.Determinants.{determinants_or0, determinants_or0_is}
use Rattle.steam_refusals.proofs.sold_nothing.Goals as goal

pub returns-in-Settle : goal.returns-in-Settle
returns-in-Settle c =
    let b = c.args.book in
    let p = c.args.posting in
    let w = book_within b c.requires.0 in
    let adjustment = (subst (λ (kind : Kind). Ranged Steam kind p) c.in-Settle.is c.requires.1).0 in
    let sales : SFits w64 b.period.sales.0 = fits64 (b_between w.period.sales) tt in
    let within = determinants_within b.period.sales.0 b.quarters w.period.sales w.quarters p.first adjustment in
    let given = c.determinants_of-determinants.ensures ∙ (λ i. mmbtu (determinants_or0 b.period.sales b.quarters (to_z-of_z (fits64 (b_between adjustment) tt) i))) ∙ same_mmbtu (determinants_or0_is b.period.sales b.quarters p.first w.period.sales w.quarters adjustment) in
    let read : to_z w64 (of_z w64 c.determinants_of-determinants.result.0) ≡ determinants_of b.period.sales.0 b.quarters p.first = (λ i. to_z w64 (of_z w64 (given i).0)) ∙ to_z-of_z (fits64 (b_between within) tt) in
    (λ i. eq_z_bits sales zero64 i || lt_z (read i) (pos 1)) ∙ ap (λ (kind : Kind). nothing_sold kind b p) (sym c.in-Settle.is)
