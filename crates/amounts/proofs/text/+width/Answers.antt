-- `amounts::text::width` counts the digits, four at a time from the lowest. Assumes nothing.
use Rattle.std.proofs.Common.{◌≡◌, sym, ℕ, ◌+◌, arith}
use Rattle.amounts.proofs.Widths.{one_digit, width_by_power, width_by_fours, width_most}
use Rattle.amounts.specs.Text.{width_of}
use Rattle.amounts.proofs.text.+width.Goals as goal
use Rattle.amounts.proofs.text.+width.Goals.{After-width}

pub returns-in-0-to-9-clause-digits : goal.returns-in-0-to-9-clause-digits
returns-in-0-to-9-clause-digits t c = sym (one_digit c.args.n (omega (arith, c.in-0-to-9)))

pub returns-in-10-to-99-clause-digits : goal.returns-in-10-to-99-clause-digits
returns-in-10-to-99-clause-digits t c = sym (width_by_power 1 c.args.n (omega (arith, c.in-10-to-99)) (omega (arith, c.in-10-to-99)))

pub returns-in-100-to-999-clause-digits : goal.returns-in-100-to-999-clause-digits
returns-in-100-to-999-clause-digits t c = sym (width_by_power 2 c.args.n (omega (arith, c.in-100-to-999)) (omega (arith, c.in-100-to-999)))

pub returns-in-1000-to-9999-clause-digits : goal.returns-in-1000-to-9999-clause-digits
returns-in-1000-to-9999-clause-digits t c = sym (width_by_power 3 c.args.n (omega (arith, c.in-1000-to-9999)) (omega (arith, c.in-1000-to-9999)))

module _ (t : ℕ) (c : After-width t) where
  digits : 4 + c.width.result ≡ width_of c.args.n
  digits = omega (arith, c.width.ensures.digits, width_by_fours c.args.n (omega (arith, c.in_default)))

pub returns-in_default-clause-digits : goal.returns-in_default-clause-digits
returns-in_default-clause-digits = digits

pub returns-in_default-clause-few : goal.returns-in_default-clause-few
returns-in_default-clause-few t c = omega (arith, digits t c, width_most 19 c.args.n (omega arith))
