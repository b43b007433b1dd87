-- `amounts::text::put_whole` stores the digits where they fit. Assumes nothing.
use Rattle.std.proofs.Common.{arith, refl}
use Rattle.amounts.proofs.Texts.{decimal_length, decimal_stored, kept, stored}
use Rattle.amounts.proofs.text.put_whole.Goals as goal

pub returns-then-count-buffer : goal.returns-then-count-buffer
returns-then-count-buffer c =
    let w = c.width-count.ensures in
    let l = decimal_length _ _ w.digits in (
      l,
      w.few,
      stored _ _ _ (omega (arith, l)) (decimal_stored _ _ _ _ _ c.if-count-buffer.true w.digits refl c.put_digits.ensures),
    )

pub returns-else-count-buffer : goal.returns-else-count-buffer
returns-else-count-buffer c =
    let w = c.width-count.ensures in
    let l = decimal_length _ _ w.digits in
    (l, w.few, kept _ _ (omega (arith, l)))
