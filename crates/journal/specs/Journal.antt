-- What the journal program prints for an input (01, Text and the journal program).
use Rattle.std.specs.Prelude.{◌≡◌, Bool, cond, ◌||◌, List, [], ◌∷◌, ◌++◌, ℕ, zero, suc, ◌+◌, ◌*◌, ◌≤◌, eqb, leb, ltb, length, get_or, drop, Result, Ok, Err, is_err}
use Rattle.refusals.specs.Rows.{Row, row, by_table}
use Rattle.refusals.specs.declared.Refusal.{Refusal}
use Rattle.refusals.specs.declared.Refusal.TheVariants.{NoRecord, OutOfRange}
use Rattle.postings.specs.declared.Book.{Book}
use Rattle.postings.specs.declared.Book.TheVariants.{Electric, Steam}
use Rattle.riders.specs.Rules.{Rules, answered_by, left_by}
use Rattle.electric_rules.specs.declared.ElectricBook.{ElectricBook}
use Rattle.steam_rules.specs.declared.Mmbtu.{Mmbtu}
use Rattle.steam_rules.specs.declared.SteamBook.{SteamBook}
use Rattle.steam_rules.specs.Book.{mmbtu}
use Rattle.records.specs.Fields.{field_of}
use Rattle.records.specs.Records.{read_of}
use Rattle.records.specs.declared.Found.{Found}
use Rattle.journal.specs.Lines.{record_line, opening_refused}
use Rattle.journal.specs.declared.opening.FreshBook.{FreshBook}
use Rattle.journal.specs.declared.opening.FreshBook.TheVariants as opened
use Rattle.electric_rules.specs.Book as electric_opening
use Rattle.electric_rules.specs.Refusals as electric
use Rattle.steam_rules.specs.Opening as steam_opening
use Rattle.steam_rules.specs.Refusals as steam

-- ---- the records, for any book: its kinds and its rules

module _ {B : Type 0} (kinds : Book) (rules : Rules B) where
  -- the line of what was read, and behind that of a record the lines that `more` gives for the next book and place
  abbrev pub lines_read : (B → ℕ → List ℕ) → B → ℕ → Result Found Refusal → List ℕ
  lines_read more b number (Ok found) = record_line number found.posting.kind (answered_by rules b found.posting) ++ more (left_by rules b found.posting) found.place
  lines_read more b number (Err refusal) = record_line number 0 (Err refusal)

  -- the lines of the records from a place on, the next of them of this number. Where no byte remains the run ends without a line; a
  -- reading refusal prints kind 0 and ends the run. At most `more` records are read.
  unfoldable pub lines_from : ℕ → B → List ℕ → ℕ → ℕ → List ℕ
  lines_from zero b bytes place number = []
  lines_from (suc more) b bytes place number =
      cond (leb (length bytes) place) []
      (lines_read (λ next after. lines_from more next bytes after (number + 1)) b number (read_of kinds bytes place))

  -- more steps change nothing: any two counts that are as many as the bytes that remain give the same lines. Proved in proofs/Running.antt.
  abbrev pub EnoughSteps : Type 0
  EnoughSteps =
      (bytes : List ℕ) (n m : ℕ) (b : B) (place number : ℕ) → length bytes ≤ place + n → length bytes ≤ place + m →
      lines_from n b bytes place number ≡ lines_from m b bytes place number

-- a record has two bytes at least, so there are no more records than bytes; they are numbered from 1
unfoldable pub electric_lines : ElectricBook → List ℕ → ℕ → List ℕ
electric_lines b bytes place = lines_from Electric electric.rules (length bytes) b bytes place 1

unfoldable pub steam_lines : SteamBook → List ℕ → ℕ → List ℕ
steam_lines b bytes place = lines_from Steam steam.rules (length bytes) b bytes place 1

-- ---- the opening: 00 or 01, or 02 with four 8-byte quarters

abbrev pub first_byte : List ℕ → ℕ
first_byte bytes = get_or bytes 0 0

-- oldest first
unfoldable pub quarters_in : List ℕ → List Mmbtu
quarters_in bytes =
    mmbtu (field_of (drop 1 bytes)) ∷ mmbtu (field_of (drop 9 bytes)) ∷ mmbtu (field_of (drop 17 bytes)) ∷ mmbtu (field_of (drop 25 bytes)) ∷ []

abbrev pub opens_steam : List ℕ → Bool
opens_steam bytes = eqb (first_byte bytes) 2

-- bad is an opening that the book refuses; behind 02 also one that is cut short
unfoldable pub bad_quarters : List ℕ → Bool
bad_quarters bytes = ltb (length bytes) 33 || is_err (steam_opening.opened_of (quarters_in bytes))

unfoldable pub bad_division : List ℕ → Bool
bad_division bytes = is_err (electric_opening.opened_of (first_byte bytes))

abbrev pub bad_opening : List ℕ → Bool
bad_opening bytes = cond (opens_steam bytes) (bad_quarters bytes) (bad_division bytes)

-- ---- the whole

-- at most 65,536 bytes; a longer input or a bad opening prints `refused 7`, an empty one `refused 1`
abbrev pub journal_rows : List ℕ → List Row
journal_rows bytes = row OutOfRange (ltb 65536 (length bytes)) ∷ row NoRecord (eqb (length bytes) 0) ∷ row OutOfRange (bad_opening bytes) ∷ []

-- the fresh book that is opened, or the refusal to print in its place
abbrev pub opened_book : List ℕ → FreshBook
opened_book bytes =
    cond (opens_steam bytes) (opened.Steam (steam_opening.handed_back (quarters_in bytes))) (opened.Electric (electric_opening.handed_back (first_byte bytes)))

unfoldable pub opened_by : List ℕ → Result FreshBook Refusal
opened_by bytes = by_table (journal_rows bytes) (Ok (opened_book bytes)) Err

-- the lines of the records behind the opening, or of the refusal
abbrev pub printed : List ℕ → Result FreshBook Refusal → List ℕ
printed bytes (Ok (opened.Electric fresh)) = electric_lines fresh bytes 1
printed bytes (Ok (opened.Steam fresh)) = steam_lines fresh bytes 33
printed bytes (Err refusal) = opening_refused refusal

unfoldable pub journal_of : List ℕ → List ℕ
journal_of bytes = printed bytes (opened_by bytes)

-- room enough for what is printed for so many bytes: a record has two bytes at least, and its line 82 at most
unfoldable pub room_of : ℕ → ℕ
room_of count = cond (ltb 65536 count) 82 (41 * count + 82)
