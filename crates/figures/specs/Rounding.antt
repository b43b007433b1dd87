-- The figures of rounding: the first line that document 01 marks.
use Rattle.std.specs.Prelude.{List, [], ◌∷◌, pos, neg_ℤ}
use Rattle.rounding.specs.Round.{round}
use Rattle.figures.specs.Figure.{Figure, ◌is◌}

-- round(−90/100) = −1; round(−45/100) = 0; round(50/100) = 1; round(−50/100) = −1
abbrev pub rounding : List Figure
rounding =
    (round (neg_ℤ (pos 90)) (pos 100) is neg_ℤ (pos 1))
    ∷ (round (neg_ℤ (pos 45)) (pos 100) is pos 0)
    ∷ (round (pos 50) (pos 100) is pos 1)
    ∷ (round (neg_ℤ (pos 50)) (pos 100) is neg_ℤ (pos 1))
    ∷ []
