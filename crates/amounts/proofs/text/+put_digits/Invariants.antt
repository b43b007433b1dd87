-- `amounts::text::put_digits` goes down the part. Assumes nothing.
use Rattle.std.proofs.Common.{length}
use Rattle.amounts.proofs.text.+put_digits.Given as goal

abbrev pub decreases-put_digits : goal.decreases-put_digits
decreases-put_digits l = length l.part.now
