-- `Page::put_records` prints the lines of the records, turn by turn. Assumes nothing.
use Prim.Native.Nat.{◌-◌}
use lib.ListN.{length}
use Rattle.journal.proofs.Running.{lines, Kept}
use Rattle.journal.proofs.page.Page.put_records.Given as goal

abbrev pub invariant-loop-place : goal.invariant-loop-place
invariant-loop-place g l =
    let kinds = g.B.Ledger.KINDS in
    let rules = g.B.Ledger.rules in
    Kept kinds rules l.input (lines kinds rules l.input (length l.input) l.initial.book l.start 1) l.initial.self l.book l.place l.number l.self

abbrev pub decreases-loop-place : goal.decreases-loop-place
decreases-loop-place g l = length l.input - l.place
