-- An example: an overflow goal is one line, and so is the formula. Assumes nothing.
use Rattle.ints.specs.Bound.{bounds, fits64}
use Rattle.ints.specs.Exact.{exacts, exact}
use Rattle.ints.proofs.examples.variance.Goals as goal

pub overflow_sub-result : goal.overflow_sub-result
overflow_sub-result c = fits64 (search bounds depth 30) tt

pub overflow_mul-result-3 : goal.overflow_mul-result-3
overflow_mul-result-3 c = fits64 (search bounds depth 30) tt

pub overflow_add-result : goal.overflow_add-result
overflow_add-result c = fits64 (search bounds depth 30) tt

pub returns : goal.returns
returns c = exact (search exacts depth 30) tt
