-- The figures of text: the last line that document 01 marks.
use Rattle.std.specs.Prelude.{List, [], ◌∷◌, pos, neg_ℤ}
use Rattle.amounts.specs.Amounts.{cents}
use Rattle.amounts.specs.Text.{cents_text}
use Rattle.figures.specs.Figure.{Figure, ◌reads◌}

-- −90 cents reads `-0.90`; 0 reads `0.00`
abbrev pub text : List Figure
text =
    (cents_text (cents (neg_ℤ (pos 90))) reads (45 ∷ 48 ∷ 46 ∷ 57 ∷ 48 ∷ []))
    ∷ (cents_text (cents (pos 0)) reads (48 ∷ 46 ∷ 48 ∷ 48 ∷ []))
    ∷ []
