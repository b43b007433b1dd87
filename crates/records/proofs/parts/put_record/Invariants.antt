-- Where the field of a number begins, and that all before it stands in the buffer.
use Rattle.std.specs.Prelude.{◌≡◌, ◌++◌, length, drop}
use Rattle.records.proofs.Writing.{begun}
use Rattle.records.proofs.parts.put_record.Given as goal

abbrev pub invariant-loop-number : goal.invariant-loop-number
invariant-loop-number l =
    record { place : l.at ≡ length (begun l.fn.posting l.number-index); stored : l.buffer ≡ begun l.fn.posting l.number-index ++ drop l.at l.fn.buffer }
