-- What a writer into a lent buffer answers, and what it leaves there (01, Refusals in order of checking, 13; Text).
use Rattle.std.specs.Prelude.{Bool, List, ◌++◌, ℕ, ltb, length, drop, Result, Ok, Err}
use Rattle.refusals.specs.Rows.{Row, by_table}
use Rattle.refusals.specs.declared.Refusal.{Refusal}

-- 13: writer's buffer too short
unfoldable pub too_short : List ℕ → List ℕ → Bool
too_short bytes buffer = ltb (length buffer) (length bytes)

-- the answer of a writer of these bytes, by its table: how many they are, or the refusal
abbrev pub written_by : List Row → List ℕ → Result ℕ Refusal
written_by rows bytes = by_table rows (Ok (length bytes)) Err

-- the buffer afterwards: the bytes, with those past them untouched; every byte as it was where the writer refuses
abbrev pub buffer_left : List Row → List ℕ → List ℕ → List ℕ
buffer_left rows bytes buffer = by_table rows (bytes ++ drop (length bytes) buffer) (λ (r : Refusal). buffer)
