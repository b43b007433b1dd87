-- `amounts::text::width` goes down the number. Assumes nothing.
use Rattle.amounts.proofs.text.+width.Given as goal

abbrev pub decreases-width : goal.decreases-width
decreases-width l = l.n
