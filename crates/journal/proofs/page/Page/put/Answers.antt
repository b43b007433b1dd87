use native.Mathlib.Omega.{arith}
use Rattle.std.proofs.Common.{rules as common}
use Rattle.journal.proofs.Storing.{part_puts}
use Rattle.journal.proofs.page.Page.put.Goals as goal

pub returns : goal.returns
returns g c =
    let s = c.args in
    record {
      same_buffer = search common;
      puts = part_puts s.self.now.buffer.now (g.T.Piece.text s.piece) _ s.self.now.used c.min-start.result c.put.result (λ h. omega (arith, c.min-start.ensures)) c.put.ensures.counted c.put.ensures.stored;
      short = omega (arith, c.put.ensures.short);
    }
