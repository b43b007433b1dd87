-- Cents billed and cents held together are the cents counted in (01, The tally), over any numbers: a line leaves what is held and joins what
-- is billed, and what joins the cents held is counted in. Assumes nothing.
use Rattle.std.specs.Prelude.{◌≡◌, ℤ, ◌+ℤ◌, ◌-ℤ◌}
use Rattle.std.proofs.Common.{ap, ◌∙◌}
use Rattle.ints.specs.Ring.{solve, ◌:+◌, ◌:-◌, ◌:=◌}

module _ (billed held : ℤ) {counted after : ℤ} (balances : billed +ℤ held ≡ counted) where
  pub line_billed : (line : ℤ) → after ≡ held -ℤ line → billed +ℤ line +ℤ after ≡ counted
  line_billed line e = ap (λ (z : ℤ). billed +ℤ line +ℤ z) e ∙ solve 3 (λ b h x. b :+ x :+ (h :- x) := b :+ h) tt billed held line ∙ balances

  pub amount_added : (amount : ℤ) → after ≡ held +ℤ amount → billed +ℤ after ≡ counted +ℤ amount
  amount_added amount e =
      ap (λ (z : ℤ). billed +ℤ z) e ∙ solve 3 (λ b h x. b :+ (h :+ x) := b :+ h :+ x) tt billed held amount ∙ ap (λ (z : ℤ). z +ℤ amount) balances

  pub cents_moved : after ≡ held → billed +ℤ after ≡ counted
  cents_moved e = ap (λ (z : ℤ). billed +ℤ z) e ∙ balances
