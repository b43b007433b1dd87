use native.Mathlib.Omega.{arith}
use Rattle.std.proofs.Common.{rules as common}
use Rattle.journal.proofs.Storing.{part_puts}
use Rattle.journal.proofs.page.Page.put_word.Goals as goal

pub returns : goal.returns
returns c =
    let s = c.args in
    record {
      same_buffer = search common;
      puts = part_puts s.self.now.buffer.now s.word.now _ s.self.now.used c.min-start.result c.put_bytes.result (λ h. omega (arith, c.min-start.ensures)) c.put_bytes.ensures.0 c.put_bytes.ensures.1;
      short = omega (arith, c.put_bytes.ensures.0);
    }
