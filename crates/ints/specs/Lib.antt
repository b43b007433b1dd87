-- Laws of the integers, for proofs over signed code. In a contract an i64 is a ℤ; what the machine reads back from the bits of z is
-- `to_z w64 (of_z w64 z)`. Which law to use when, in which module, and a checked example of most: in Examples.antt or, for what
-- code asks of its proof, in src/examples.rt (of DigitLaws, in itself: it stands in proofs/). The check finds most answers of those
-- itself; where it asks for one, as for `variance`, the line stands under proofs/examples/, and the table has the line for code that is
-- larger than its example.
--
--   to show                                  write                                                   module      example
--   an equation of sums and products         solve 3 (λ x y z. .. := ..) tt x y z                    Ring        products
--   .. from an equation a = b at hand        eq_by x y k a b (solve ..) h                            Ring        from_an_equation
--   an order, a range, a test's outcome      omega signed                                            Order       outcome_to_order
--   .. through + - *, each listed once       omega (signed, sum x y, diff x y, prod (pos 95) x)      Order       by_a_numeral
--   .. over few variables                    rw (split x, split y) (simp differences (omega arith))  Difference  by_differences
--   what a range test shows, and back        in_range_true low high x e, in_range_yes low high x h   Range       narrower_range
--   that + - * or a cast fits an i64         fits64 (search bounds depth 30) tt                      Bound       variance
--   .. fits an i32                           fits32 (search bounds depth 30) tt                      Bound       narrowed
--   a callee's range                         within_by (search bounds depth 30) tt                   Bound       doubled
--   that a result is its formula             exact (search exacts depth 30) tt                       Exact       variance, negated
--   .. with a callee's result in it          search (bounds, b_eq), search (exacts, e_eq)            Exact       doubled
--   .. with an i32 known by its type alone   search (.., wide32), after i64::from (.., e_eq, wide32)   Exact       scaled
--   that a cast to an unsigned type fits     to_unsigned c.ranges.x (omega signed) tt                Machine     counted
--   what `<`, `<=` tested                    omega signed, of fields with their SFits at hand        Order       not_below_zero, at_most
--   what `==` tested of two numbers          eq_bits f g c.if-x-y.true                               Machine
--   .. of a number and 0                     eq_bits f zero64 c.if-x-y.true                          Machine
--   .. of two structs, by a derive           (signed_Decides x y).0 (sym c.eq.ensures ∙ c.if-eq.true) std Cmp     first_if_equal
--   that `==` of two numbers is a result     eq_z_bits f g                                           Machine
--   what a function tested of a number       tested p f c.f.ensures c.if-x-y.true                    Machine     kept
--   .. where `not r` is what is known        tested_not p f c.f.ensures c.if-x-y.false               Machine     kept
--   that `unsigned_abs` gave a number's size size_read c.ranges.x c.unsigned_abs.ensures.value       Machine
--   that a call is handed on                 handed_on f r p q (c.f.type_inv) c.f.ensures            Machine     handed
--   that digits make their number, and back  value_digits base n .., digits_value base ds ..         DigitLaws   three_digits
--   a fact of every number below a numeral   all_below_lem 12 f tt k h                               Flags       below_its_double
pub mod Flags
pub mod Difference
pub mod Ring
pub mod Order
pub mod Range
pub mod Bound
pub mod Exact
pub mod Machine
pub mod Digits
pub mod Examples
