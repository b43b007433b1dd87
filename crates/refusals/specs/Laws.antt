-- What the laws of refusal tables speak of (proofs/TableLaws.antt): no row that holds, and the first that does.
use Rattle.std.specs.Prelude.{◌≡◌, Bool, true, false, List, [], ◌∷◌, ◌++◌}
use Rattle.refusals.specs.Rows.{Row, row}
use Rattle.refusals.specs.declared.Refusal.{Refusal}

-- no row of the table holds
abbrev pub NoneHolds : List Row → Type 0
NoneHolds [] = Unit
NoneHolds (r ∷ rows) = (r.condition ≡ false) × NoneHolds rows

-- a refusal that is returned is a row's: the row holds, and none before it does
pub record First (rows : List Row) (refusal : Refusal) : Type 0 where
  pub before : List Row
  pub condition : Bool
  pub after : List Row
  pub table : rows ≡ before ++ (row refusal condition ∷ after)
  pub passed : NoneHolds before
  pub holds : condition ≡ true
