-- `put_rows` calls itself on one row less. Assumes nothing.
use lib.ListN.{length}
use Rattle.sheet_rows.proofs.+put_rows.Given as goal

abbrev pub decreases-put_rows : goal.decreases-put_rows
decreases-put_rows l = length l.rows.now
