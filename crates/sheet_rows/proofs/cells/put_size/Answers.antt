-- `put_size` stores a number's size. Assumes nothing.
use Rattle.std.proofs.Common.{◌≡◌, ap, ◌∙◌, ℕ, nat_abs, length}
use Rattle.amounts.specs.Text.{decimal, text_left}
use Rattle.ints.specs.Machine.{size_read}
use Rattle.sheet_rows.proofs.cells.put_size.Goals as goal

pub returns : goal.returns
returns c =
    let size : c.unsigned_abs.result ≡ nat_abs c.args.number = size_read c.ranges.number c.unsigned_abs.ensures.value in
    let p = c.put_whole.ensures in
    (p.0 ∙ ap (λ (n : ℕ). length (decimal n)) size, p.1, p.2 ∙ ap (λ (n : ℕ). text_left (decimal n) c.args.text.now) size)
