-- Posting records (01, Posting records, Refusals in order of checking): what reading at a place gives, and what writing a posting.
use Rattle.std.specs.Prelude.{◌≡◌, Bool, true, false, ◌||◌, List, [], ◌∷◌, ℕ, ◌+◌, ◌*◌, ◌≤◌, ltb, ℤ, pos, length, get_or, drop, Result, Ok, Err, IfOk}
use Rattle.std.proofs.Common.{arith, length-drop, ltb-false}
use Rattle.std.specs.Int.Count.{ones}
use Rattle.std.specs.List.{flat_map}
use Rattle.std.specs.Result.{result_err}
use Rattle.ints.specs.Machine.{eq_z}
use Rattle.refusals.specs.Rows.{Row, row, refusal_by, by_table}
use Rattle.refusals.proofs.TableLaws.{table_refusal, by_table_lem}
use Rattle.refusals.specs.Writer.{too_short, written_by, buffer_left}
use Rattle.refusals.specs.declared.Refusal.{Refusal}
use Rattle.refusals.specs.declared.Refusal.TheVariants.{NoRecord, UnknownKind, StrayNumber, RecordCutShort, ZeroPresent, BufferTooShort}
use Rattle.postings.specs.BitMaps.{bits_from, bit_map_of}
use Rattle.postings.specs.Kinds.{fields_of, unknown_kind, numbers_of, standing, stands_beyond, stray_number}
use Rattle.postings.specs.declared.Book.{Book}
use Rattle.postings.specs.declared.Posting.{Posting}
use Rattle.records.specs.Fields.{field_of, bytes_of}
use Rattle.records.specs.declared.Found.{Found}

-- the record's length is 2 + 8 × the standing bits
unfoldable pub record_length : ℕ → ℕ
record_length bit_map = 2 + 8 * ones bit_map

-- ---- reading, of the bytes that remain from a place on

abbrev pub kind_in : List ℕ → ℕ
kind_in bytes = get_or bytes 0 0

abbrev pub bit_map_in : List ℕ → ℕ
bit_map_in bytes = get_or bytes 1 0

-- for each standing bit from the lowest a field; an absent field is 0
unfoldable pub fields_at : List Bool → List ℕ → List ℤ
fields_at [] bytes = []
fields_at (true ∷ bits) bytes = field_of bytes ∷ fields_at bits (drop 8 bytes)
fields_at (false ∷ bits) bytes = pos 0 ∷ fields_at bits bytes

-- the three numbers of the posting
abbrev pub numbers_in : List ℕ → List ℤ
numbers_in bytes = fields_at (bits_from 3 (bit_map_in bytes)) (drop 2 bytes)

-- 5: a field present is 0
unfoldable pub zero_present : List Bool → List ℤ → Bool
zero_present [] numbers = false
zero_present (bit ∷ bits) [] = false
zero_present (true ∷ bits) (z ∷ numbers) = eq_z z (pos 0) || zero_present bits numbers
zero_present (false ∷ bits) (z ∷ numbers) = zero_present bits numbers

abbrev pub reading_rows : Book → List ℕ → List Row
reading_rows book bytes =
    row NoRecord (ltb (length bytes) 2)
    ∷ row UnknownKind (unknown_kind book (kind_in bytes))
    ∷ row StrayNumber (stands_beyond (fields_of book (kind_in bytes)) (bits_from 8 (bit_map_in bytes)))
    ∷ row RecordCutShort (ltb (length bytes) (record_length (bit_map_in bytes)))
    ∷ row ZeroPresent (zero_present (bits_from 3 (bit_map_in bytes)) (numbers_in bytes))
    ∷ []

abbrev pub posting_of : ℕ → List ℤ → Posting
posting_of kind numbers =
    record { kind = kind; first = get_or numbers 0 (pos 0); second = get_or numbers 1 (pos 0); third = get_or numbers 2 (pos 0) }

-- the next place and the posting found there
abbrev pub found_at : ℕ → Posting → Result Found Refusal
found_at next p = Ok (record { place = next; posting = p })

unfoldable pub read_of : Book → List ℕ → ℕ → Result Found Refusal
read_of book bytes place =
    let rest = drop place bytes in
    by_table (reading_rows book rest) (found_at (place + record_length (bit_map_in rest)) (posting_of (kind_in rest) (numbers_in rest))) Err

-- the refusal returned is the table's
pub read_refusal : (book : Book) (bytes : List ℕ) (place : ℕ) → result_err (read_of book bytes place) ≡ refusal_by (reading_rows book (drop place bytes))
unfolding read_of
read_refusal book bytes place = table_refusal (reading_rows book (drop place bytes)) _

-- a record that is found has two bytes at least, and all its bytes remain
pub found_on : (book : Book) (bytes : List ℕ) (place : ℕ) → IfOk (read_of book bytes place) (λ (f : Found). (place + 2 ≤ f.place) × (f.place ≤ length bytes))
unfolding read_of record_length
found_on book bytes place =
    let rest = drop place bytes in
    by_table_lem (λ (r : Result Found Refusal). IfOk r (λ (f : Found). (place + 2 ≤ f.place) × (f.place ≤ length bytes)))
    (reading_rows book rest) _ Err
    (λ none.
    let some = ltb-false (length rest) 2 none.0 in
    let enough = ltb-false (length rest) (record_length (bit_map_in rest)) none.1.1.1.0 in
    let left = length-drop place bytes in
    (omega arith, omega arith))
    (λ refusal. tt)

-- ---- writing

-- the fields of the numbers, one behind the other
abbrev pub field_bytes : List ℤ → List ℕ
field_bytes = flat_map bytes_of

-- kind, bit map, fields
unfoldable pub record_of : Posting → List ℕ
record_of p = p.kind ∷ bit_map_of (standing (numbers_of p)) ∷ field_bytes (numbers_of p)

abbrev pub writing_rows : Book → Posting → List ℕ → List Row
writing_rows book p buffer =
    row UnknownKind (unknown_kind book p.kind)
    ∷ row StrayNumber (stray_number book p)
    ∷ row BufferTooShort (too_short (record_of p) buffer)
    ∷ []

-- what the record writer answers, and what it leaves in the buffer
unfoldable pub record_written : Book → Posting → List ℕ → Result ℕ Refusal
record_written book p buffer = written_by (writing_rows book p buffer) (record_of p)

unfoldable pub record_left : Book → Posting → List ℕ → List ℕ
record_left book p buffer = buffer_left (writing_rows book p buffer) (record_of p) buffer
