-- Both round trips of records, from those of their fields: no row of the one table holds, hence no row of the other. Assumes nothing.
use Rattle.std.specs.Prelude.{◌≡◌, refl, Bool, true, false, List, [], ◌∷◌, ◌++◌, ℕ, suc, ◌+◌, ◌-◌, ◌*◌, ◌^◌, ◌<◌, ◌≤◌, ℤ, length, take, drop, Some, None, Result, Ok, Err}
use Rattle.std.proofs.Common.{sym, ap, ◌∙◌, subst, arith, length-append, length-drop, ltb-false}
use Rattle.std.specs.Result.{result_err}
use Rattle.std.proofs.lemmas.Bool.{le-ltb}
use Rattle.std.proofs.lemmas.List.{take_at}
use Rattle.std.proofs.Math.Seq.{drop-append_seam}
use Rattle.ints.specs.Digits.{Digits}
use Rattle.refusals.specs.Rows.{refusal_by, by_table}
use Rattle.refusals.specs.Laws.{NoneHolds}
use Rattle.refusals.proofs.TableLaws.{none_holds, accepted, gives_asked, table_refusal}
use Rattle.refusals.specs.Writer.{too_short}
use Rattle.refusals.specs.declared.Refusal.{Refusal}
use Rattle.postings.proofs.BitMaps.{count, map_of_bits, bits_of_map, map_small, ones_of_bits}
use Rattle.postings.proofs.KindTable.{maps_known, maps_most, none_beyond, small_map}
use Rattle.postings.specs.Kinds.{kind_of, fields_of, unknown_kind, numbers_of, standing, stands_beyond, stray_number}
use Rattle.postings.specs.BitMaps.{bits_from, bit_map_of, maps_of}
use Rattle.postings.specs.declared.Book.{Book}
use Rattle.postings.specs.declared.Posting.{Posting}
use Rattle.records.proofs.FieldTrips.{fields_read_lem, none_zero, standing_read, fields_written, digits_drop}
use Rattle.records.proofs.Writing.{length_record}
use Rattle.records.specs.Records.{record_length, kind_in, bit_map_in, fields_at, numbers_in, zero_present, reading_rows, posting_of, found_at, read_of, read_refusal, field_bytes, record_of, writing_rows, record_written, record_left}
use Rattle.records.specs.RoundTrips.{InWords, WrittenIsRead, ReadIsWritten}
use Rattle.records.specs.declared.Found.{Found}

same_ok : {T : Type 0} (x y : T) → ◌≡◌ {A = Result T Refusal} (Ok x) (Ok y) → x ≡ y
same_ok x y e = cc

-- ---- what was written is read

module _ (book : Book) (p : Posting) (before after : List ℕ) (words : InWords p) (known : unknown_kind book p.kind ≡ false) (none : stands_beyond (fields_of book p.kind) (standing (numbers_of p)) ≡ false) where
  abbrev bits : List Bool
  bits = standing (numbers_of p)

  abbrev m : ℕ
  m = bit_map_of bits

  abbrev record_after : List ℕ
  record_after = record_of p ++ after

  maps : maps_of book (kind_of p.kind) ≡ Some (2 ^ length (fields_of book p.kind))
  maps = maps_known book p.kind known

  few : m < 2 ^ length (fields_of book p.kind)
  few = small_map book p.kind bits _ maps none

  numbers_are : fields_at (bits_from 3 m) (field_bytes (numbers_of p) ++ after) ≡ numbers_of p
  numbers_are =
      ap (λ (l : List Bool). fields_at l (field_bytes (numbers_of p) ++ after)) (bits_of_map bits)
      ∙ fields_read_lem (numbers_of p) after (words.0, (words.1, (words.2, tt)))

  rows_pass : NoneHolds (reading_rows book record_after)
  unfolding record_of
  rows_pass =
      let byte : m < 256 = omega (arith, map_small bits) in
      let one : 2 ≤ length record_after = omega arith in
      let whole : record_length m ≤ length record_after = omega (arith, length_record p, length-append (record_of p) after) in (
        le-ltb _ _ one,
        (
          known,
          (
            none_beyond book p.kind (bits_from 8 m) _ maps (omega (arith, map_of_bits 8 m byte, few)),
            (
              le-ltb _ _ whole,
              ((λ i. zero_present (bits_of_map bits i) (numbers_are i)) ∙ none_zero (numbers_of p), tt),
            ),
          ),
        ),
      )

  record_read : read_of book (before ++ record_after) (length before) ≡ found_at (length before + length (record_of p)) p
  unfolding read_of record_of
  record_read =
      ap read_rest (drop-append_seam before record_after)
      ∙ gives_asked (reading_rows book record_after) _ Err (accepted _ rows_pass)
      ∙ (λ i. found_at (length before + sym (length_record p) i) (posting_of p.kind (numbers_are i)))
    where
      read_rest : List ℕ → Result Found Refusal
      read_rest rest = by_table (reading_rows book rest) (found_at (length before + record_length (bit_map_in rest)) (posting_of (kind_in rest) (numbers_in rest))) Err

pub written_is_read : WrittenIsRead
unfolding record_written record_left stray_number
written_is_read book p before buffer n words e =
    let rows = writing_rows book p buffer in
    let none : refusal_by rows ≡ None = sym (table_refusal rows (length (record_of p))) ∙ ap result_err e in
    let holds = none_holds rows none in
    let long : length (record_of p) ≡ n = same_ok _ _ (sym (gives_asked rows (Ok (length (record_of p))) Err none) ∙ e) in
    let after = drop (length (record_of p)) buffer in
    ap (λ (l : List ℕ). read_of book (before ++ l) (length before)) (gives_asked rows (record_of p ++ after) (λ (r : Refusal). buffer) none)
    ∙ record_read book p before after words holds.0 holds.1.0
    ∙ ap (λ (k : ℕ). found_at (length before + k) p) long

-- ---- what was read is written

two_bytes : (bytes : List ℕ) → 2 ≤ length bytes → kind_in bytes ∷ bit_map_in bytes ∷ drop 2 bytes ≡ bytes
two_bytes [] h = absurd (omega arith)
two_bytes (a ∷ []) h = absurd (omega arith)
two_bytes (a ∷ b ∷ bytes) h = refl

map_byte : (bytes : List ℕ) → Digits 256 bytes → 2 ≤ length bytes → bit_map_in bytes < 256
map_byte [] d h = absurd (omega arith)
map_byte (a ∷ []) d h = absurd (omega arith)
map_byte (a ∷ b ∷ bytes) d h = d.1.0

length_fields_at : (bits : List Bool) (bytes : List ℕ) → length (fields_at bits bytes) ≡ length bits
unfolding fields_at
length_fields_at [] bytes = refl
length_fields_at (true ∷ bits) bytes = ap suc (length_fields_at bits (drop 8 bytes))
length_fields_at (false ∷ bits) bytes = ap suc (length_fields_at bits bytes)

three : (kind : ℕ) (numbers : List ℤ) → length numbers ≡ 3 → numbers_of (posting_of kind numbers) ≡ numbers
three kind [] e = absurd (omega arith)
three kind (a ∷ []) e = absurd (omega arith)
three kind (a ∷ b ∷ []) e = absurd (omega arith)
three kind (a ∷ b ∷ c ∷ []) e = refl
three kind (a ∷ b ∷ c ∷ d ∷ numbers) e = absurd (omega arith)

module _ (book : Book) (rest : List ℕ) (d : Digits 256 rest) (pass : NoneHolds (reading_rows book rest)) where
  abbrev kind : ℕ
  kind = kind_in rest

  abbrev bit_map : ℕ
  bit_map = bit_map_in rest

  abbrev standing_bits : List Bool
  standing_bits = bits_from 3 bit_map

  abbrev numbers : List ℤ
  numbers = numbers_in rest

  abbrev q : Posting
  q = posting_of kind numbers

  some : 2 ≤ length rest
  some = ltb-false _ _ pass.0

  kind_maps : maps_of book (kind_of kind) ≡ Some (2 ^ length (fields_of book kind))
  kind_maps = maps_known book kind pass.1.0

  small : bit_map < 2 ^ length (fields_of book kind)
  small = subst (λ (k : ℕ). k < 2 ^ length (fields_of book kind)) (map_of_bits 8 bit_map (map_byte rest d some)) (small_map book kind (bits_from 8 bit_map) _ kind_maps pass.1.1.0)

  below : bit_map < 8
  below = omega (arith, small, rw kind_maps at (maps_most book (kind_of kind)))

  whole : record_length bit_map ≤ length rest
  whole = ltb-false _ _ pass.1.1.1.0

  numbers_kept : numbers_of q ≡ numbers
  unfolding bits_from
  numbers_kept = three kind numbers (length_fields_at standing_bits (drop 2 rest))

  map_kept : bit_map_of (standing (numbers_of q)) ≡ bit_map
  map_kept = ap (λ (l : List ℤ). bit_map_of (standing l)) numbers_kept ∙ ap bit_map_of (standing_read standing_bits (drop 2 rest) pass.1.1.1.1.0) ∙ map_of_bits 3 bit_map below

  long : length (record_of q) ≡ record_length bit_map
  long = length_record q ∙ ap record_length map_kept

  record_kept : record_of q ≡ take (record_length bit_map) rest
  unfolding record_of record_length
  record_kept =
      let after = drop (8 * count standing_bits) (drop 2 rest) in
      let room : 8 * count standing_bits ≤ length (drop 2 rest) = omega (arith, length-drop 2 rest, whole, ones_of_bits 3 bit_map below) in
      let fields = fields_written standing_bits (drop 2 rest) (digits_drop 2 rest d) room pass.1.1.1.1.0 in
      let kept : record_of q ++ after ≡ rest = (λ i. kind ∷ map_kept i ∷ (field_bytes (numbers_kept i) ++ after)) ∙ ap (λ (l : List ℕ). kind ∷ bit_map ∷ l) fields ∙ two_bytes rest some in
      sym (ap (take (record_length bit_map)) (sym kept) ∙ take_at (record_of q) after (record_length bit_map) long)

  kept_is_written : (buffer : List ℕ) → record_length bit_map ≤ length buffer → (record_written book q buffer ≡ Ok (record_length bit_map)) × (record_left book q buffer ≡ take (record_length bit_map) rest ++ drop (record_length bit_map) buffer)
  unfolding record_written record_left too_short stray_number
  kept_is_written buffer h =
      let rows = writing_rows book q buffer in
      let stands = none_beyond book kind (standing (numbers_of q)) _ kind_maps (omega (arith, map_kept, small)) in
      let room : length (record_of q) ≤ length buffer = omega (arith, long) in
      let none = accepted rows (pass.1.0, (stands, (le-ltb _ _ room, tt))) in (
        gives_asked rows (Ok (length (record_of q))) Err none ∙ ap Ok long,
        gives_asked rows (record_of q ++ drop (length (record_of q)) buffer) (λ (r : Refusal). buffer) none ∙ (λ i. record_kept i ++ drop (long i) buffer),
      )

pub read_is_written : ReadIsWritten
unfolding read_of
read_is_written book bytes buffer place next p d e h =
    let rest = drop place bytes in
    let rows = reading_rows book rest in
    let none : refusal_by rows ≡ None = sym (read_refusal book bytes place) ∙ ap result_err e in
    let pass = none_holds rows none in
    let each = digits_drop place bytes d in
    let long = record_length (bit_map_in rest) in
    let found : found_at (place + long) (posting_of (kind_in rest) (numbers_in rest)) ≡ found_at next p = sym (gives_asked rows _ Err none) ∙ e in
    let next_is : place + long ≡ next = ap (λ (f : Found). f.place) (same_ok _ _ found) in
    let posting_is : posting_of (kind_in rest) (numbers_in rest) ≡ p = ap (λ (f : Found). f.posting) (same_ok _ _ found) in
    let n : long ≡ next - place = omega (arith, next_is) in
    let room : long ≤ length buffer = omega arith in
    let w = kept_is_written book rest each pass buffer room in (
      (λ i. record_written book (sym posting_is i) buffer) ∙ w.0 ∙ ap Ok n,
      (λ i. record_left book (sym posting_is i) buffer) ∙ w.1 ∙ ap (λ (k : ℕ). take k rest ++ drop k buffer) n,
    )
