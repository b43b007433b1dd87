-- `journal::write` prints where there is room for sure, or where the length that was counted fits. Assumes nothing.
use Prim.Native.Nat.{◌≤◌}
use native.Mathlib.Omega.{arith}
use lib.ListN.{length}
use Rattle.journal.proofs.Storing.{short, whole}
use Rattle.journal.proofs.write.Goals as goal
use Rattle.journal.proofs.write.Goals.{else-buffer-room_for-via-then-buffer-room_for+else-buffer-printed_length, else-buffer-room_for-via-else-buffer-room_for}

pub returns-then-buffer-printed_length : goal.returns-then-buffer-printed_length
returns-then-buffer-printed_length c = short _ _ _ c.printed_length.ensures.0 c.if-buffer-printed_length.true

pub returns : goal.returns
returns c =
    let p = c.put_journal.ensures in
    let fits : c.put_journal.result ≤ length c.args.buffer.now =
    elim c.else-buffer-room_for.branch [
      | else-buffer-room_for-via-then-buffer-room_for+else-buffer-printed_length w ↦ omega (arith, p.0.counted, w.printed_length.ensures.0, w.if-buffer-printed_length.false)
      | else-buffer-room_for-via-else-buffer-room_for w ↦ omega (arith, p.1, c.room_for.ensures, w.if-buffer-room_for.false)
    ] in
    whole _ _ _ _ p.0 fits
