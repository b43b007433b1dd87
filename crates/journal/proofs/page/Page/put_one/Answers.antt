use Rattle.journal.proofs.Storing.{prints_then}
use Rattle.journal.proofs.page.Page.put_one.Goals as goal

pub returns : goal.returns
returns g c = prints_then c.put_word.ensures c.put.ensures
