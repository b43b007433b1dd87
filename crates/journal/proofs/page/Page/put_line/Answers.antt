use Prim.Native.Nat.{ℕ}
use mathlib.Core.Path.{ap}
use native.Mathlib.Omega.{arith}
use Rattle.journal.proofs.Storing.{prints_then, prints_two, prints_as}
use Rattle.journal.specs.Lines.{record_line}
use Rattle.journal.proofs.page.Page.put_line.Goals as goal

pub returns : goal.returns
unfolding record_line
returns c =
    let s = c.args in
    let kind = prints_two _ _ c.put.ensures c.put_one.ensures in
    prints_as (prints_then (prints_then (prints_then kind c.put_word.ensures) c.put_answer.ensures) c.put_word-2.ensures)
    (ap (λ (kind : ℕ). record_line s.number kind s.answer) c.from.ensures) (omega arith)
