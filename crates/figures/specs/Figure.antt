-- A figure of document 01 (Figures to check by): what the definitions compute, beside what the paper says it is.
use Rattle.std.specs.Prelude.{◌≡◌, List, [], ◌∷◌, map, ℕ, ℤ, pos}

pub record Figure : Type 0 where
  pub computed : List ℤ
  pub stated : List ℤ

-- one number
infix 30 ◌is◌
abbrev pub ◌is◌ : ℤ → ℤ → Figure
x is y = record { computed = x ∷ []; stated = y ∷ [] }

-- several of one line
infix 30 ◌are◌
abbrev pub ◌are◌ : List ℤ → List ℤ → Figure
x are y = record { computed = x; stated = y }

-- a text: its characters by their ASCII codes
infix 30 ◌reads◌
abbrev pub ◌reads◌ : List ℕ → List ℕ → Figure
x reads y = record { computed = map pos x; stated = map pos y }

-- over a whole list, what is computed is what the paper states
abbrev pub AllHold : List Figure → Type 0
AllHold figures = map (λ (f : Figure). f.computed) figures ≡ map (λ (f : Figure). f.stated) figures
