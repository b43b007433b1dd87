-- `Amount::put` stores the text: its parts, stored one behind the other, are it. Assumes nothing.
use Rattle.std.proofs.Common.{◌≡◌, ◌∙◌, sym, ap, ℕ, ◌+◌, ◌/◌, ◌^◌, ◌≤◌, ℤ, pos, nat_abs, length, to_z, of_z, w64, arith, List}
use Rattle.std.proofs.Math.Nat.{one-le-pow}
use mir.Val.{bool_byte}
use lib.Signed.{lt_z}
use Rattle.ints.specs.Machine.{reads}
use Rattle.amounts.specs.Text.{text_of, text_left}
use Rattle.amounts.proofs.Texts.{Measured, length_sign, length_is, length_most, text_stored, kept, stored}
use Rattle.amounts.proofs.Amount.put.Given.{Over}
use Rattle.amounts.proofs.Amount.put.Goals as goal
use Rattle.amounts.proofs.Amount.put.Goals.{After-PLACES-2}

pub nonzero_div-whole : goal.nonzero_div-whole
nonzero_div-whole g c = omega (arith, c.pow.ensures, one-le-pow c.PLACES.result 10 (omega arith))

module _ (g : Over) (c : After-PLACES-2 g) where
  read : to_z w64 (of_z w64 c.number-amount.result) ≡ g.Self.Amount.number c.args.self
  read = reads w64 c.number-amount.result c.number-amount.type_inv ∙ c.number-amount.ensures

  measured : Measured c.PLACES-2.result (g.Self.Amount.number c.args.self) c.unsigned_abs-size.result (c.unsigned_abs-size.result / c.pow.result) c.from-start.result (c.from-start.result + c.width.result)
  measured =
      let unit : c.pow.result ≡ 10 ^ c.PLACES-2.result = c.pow.ensures ∙ ap (λ (k : ℕ). 10 ^ k) (c.PLACES.ensures ∙ sym c.PLACES-2.ensures) in
      let size : c.unsigned_abs-size.result ≡ nat_abs (g.Self.Amount.number c.args.self) = c.unsigned_abs-size.ensures.value ∙ ap nat_abs read in
      record {
        size_is = size;
        whole_is = (λ i. size i / unit i);
        start_is = c.from-start.ensures ∙ ap (λ (z : ℤ). bool_byte (lt_z z (pos 0))) read ∙ sym (length_sign (g.Self.Amount.number c.args.self));
        point_is = ap (λ (w : ℕ). c.from-start.result + w) c.width.ensures.digits;
      }

  long : c.from-start.result + c.width.result + 1 + c.PLACES-2.result ≡ length (text_of c.PLACES-2.result (g.Self.Amount.number c.args.self))
  long = length_is _ _ _ _ _ _ measured

  most : c.from-start.result + c.width.result + 1 + c.PLACES-2.result ≤ 24
  most =
      let few = g.met.Self.Amount.few_places in
      length_most _ _ _ _ _ _ measured c.unsigned_abs-size.ensures.bound (omega (arith, few.0, c.PLACES-2.ensures)) (omega (arith, few.1, c.PLACES-2.ensures))

  text_is : text_of c.PLACES-2.result (g.Self.Amount.number c.args.self) ≡ g.Self.Amount.text c.args.self
  text_is = ap (λ (places : ℕ). text_of places (g.Self.Amount.number c.args.self)) c.PLACES-2.ensures ∙ sym (g.met.Self.Amount.text_by_number c.args.self)

pub returns-then-buffer-length : goal.returns-then-buffer-length
returns-then-buffer-length g c =
    let d = (goal.at.returns-then-buffer-length g c).After-PLACES-2 in
    let l = long g d ∙ ap length (text_is g d) in
    (l, most g d, kept _ _ (omega (arith, l)))

pub returns : goal.returns
returns g c =
    let d = (goal.at.returns g c).After-PLACES-2 in
    let l = long g d in (
      l ∙ ap length (text_is g d),
      most g d,
      stored _ _ _ (omega (arith, l)) (text_stored _ _ _ _ _ _ (measured g d) _ _ _ c.if-buffer-length.false c.put_digits.ensures c.put_digits-2.ensures)
          ∙ ap (λ (text : List ℕ). text_left text c.args.buffer.now) (text_is g d),
    )
