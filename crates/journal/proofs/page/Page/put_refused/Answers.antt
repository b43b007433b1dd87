use mathlib.Core.Path.{refl}
use native.Mathlib.Omega.{arith}
use Rattle.journal.proofs.Storing.{prints_then, prints_as}
use Rattle.journal.specs.Lines.{opening_refused}
use Rattle.journal.proofs.page.Page.put_refused.Goals as goal

pub returns : goal.returns
unfolding opening_refused
returns c = prints_as (prints_then c.put_answer.ensures c.put_word.ensures) refl (omega arith)
