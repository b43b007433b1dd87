-- An example: a widened number, of which only its type is known. Assumes nothing.
use Rattle.ints.specs.Exact.{exacts, wide32, e_eq, exact}
use Rattle.ints.proofs.examples.scaled.Goals as goal

pub returns : goal.returns
returns c = exact (search (exacts, wide32, e_eq) depth 30) tt
