-- A `u32` has at most ten digits. Assumes nothing.
use Rattle.std.proofs.Common.{arith, ap, ℕ, length}
use Rattle.amounts.specs.Text.{decimal}
use Rattle.amounts.proofs.Texts.{decimal_most}
use Rattle.journal.proofs.pieces.U32Piece.put.Goals as goal

pub returns-clause-short : goal.returns-clause-short
returns-clause-short c =
    let few = decimal_most 9 c.args.self (omega (arith, c.ranges.self)) in
    omega (arith, c.put_whole.ensures.0, ap (λ (n : ℕ). length (decimal n)) c.from.ensures, few)
