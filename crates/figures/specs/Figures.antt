-- Every marked figure of document 01 in one list, in the paper's order, and the joint statement over it.
use Rattle.std.specs.Prelude.{List, ◌++◌}
use Rattle.figures.specs.Figure.{Figure, AllHold}
use Rattle.figures.specs.Rounding.{rounding}
use Rattle.figures.specs.Electric.{electric}
use Rattle.figures.specs.Steam.{steam}
use Rattle.figures.specs.Text.{text}

abbrev pub figures : List Figure
figures = rounding ++ (electric ++ (steam ++ text))

-- proved in proofs/Figures.antt
abbrev pub FiguresHold : Type 0
FiguresHold = AllHold figures
