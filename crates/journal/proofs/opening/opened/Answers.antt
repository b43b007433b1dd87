-- `journal::opening::opened` refuses what the book refuses that the input names. Assumes nothing.
use mathlib.Core.Path.{◌≡◌, sym, ap, ◌∙◌}
use native.Mathlib.Omega.{arith}
use borrow.Author.Rules.{rules}
use Rattle.std.specs.Prelude.{Err}
use Rattle.steam_rules.specs.Opening as steam
use Rattle.journal.specs.Journal.{first_byte}
use Rattle.journal.proofs.Openings.{steam_refused, electric_refused, quarters_given}
use Rattle.journal.proofs.opening.opened.Goals as goal

pub returns-in_err-open-in-2 : goal.returns-in_err-open-in-2
returns-in_err-open-in-2 c =
    let bytes = c.args.input.now in
    let two : first_byte bytes ≡ 2 = search rules in
    let refused : c.from_residual-in_err-open-in-2.result ≡ Err c.in_err-open-in-2.field-0.0 = search rules in
    let given = quarters_given bytes c.in_ok-quarters-in-2.ensures in
    refused ∙ steam_refused bytes c.if-input-gt-MOST_BYTES.false (λ z. omega (arith, c.in-2.len_at_least, z)) two _ given.1
    (ap steam.opened_of (sym given.0) ∙ sym c.in_err-open-in-2.ensures)

pub returns-in_err-open-in-len1-up : goal.returns-in_err-open-in-len1-up
returns-in_err-open-in-len1-up c =
    let bytes = c.args.input.now in
    let refused : c.from_residual-in_err-open-in-len1-up.result ≡ Err c.in_err-open-in-len1-up.field-0.0 = search rules in
    refused ∙ electric_refused bytes c.if-input-gt-MOST_BYTES.false (λ z. omega (arith, c.in-len1-up.len_at_least, z)) (λ two. omega (arith, two)) _
    (sym c.in_err-open-in-len1-up.ensures)
