-- `amounts::text::put_digits` stores the digits. Assumes nothing.
use Rattle.std.proofs.Common.{sym, length, arith}
use borrow.Author.Tests.{ltb-true}
use Rattle.amounts.proofs.Texts.{pair_stored, digit_stored, none_stored}
use Rattle.amounts.proofs.text.+put_digits.Goals as goal

pub returns-in-Some : goal.returns-in-Some
returns-in-Some t c = pair_stored _ _ _ _ c.in-Some.ensures.cases.2 c.put_digits.ensures

pub returns-in-Some-first_mut : goal.returns-in-Some-first_mut
returns-in-Some-first_mut t c =
    let part = c.args.part.now in
    digit_stored part c.args.n (omega (arith, c.in_default.ensures.cases, ltb-true 0 (length part) (sym c.in-Some-first_mut.ensures.item.0)))

pub returns-in_default-first_mut : goal.returns-in_default-first_mut
returns-in_default-first_mut t c = none_stored c.args.part.now c.args.n (omega (arith, c.in_default-first_mut.ensures.item.3))
