use mathlib.Core.Path.{refl}
use native.Mathlib.Omega.{arith}
use Rattle.journal.proofs.Storing.{prints_two, prints_as}
use Rattle.journal.proofs.page.Page.put_both.Goals as goal

pub returns : goal.returns
returns g c = prints_as (prints_two _ _ c.put_one.ensures c.put_one-2.ensures) refl (omega arith)
