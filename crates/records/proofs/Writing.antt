-- Laws of writing a record: its length, its bytes stored part by part, and the answer row by row. Assumes nothing.
use Rattle.std.specs.Prelude.{◌≡◌, refl, Bool, true, false, cond, not, List, [], ◌∷◌, ◌++◌, ℕ, zero, suc, ◌+◌, ◌-◌, ◌*◌, ◌<◌, ◌≤◌, ℤ, pos, leb, ltb, length, take, drop, set, Some, None, Result, Ok, Err}
use Rattle.std.proofs.Common.{sym, ap, ◌∙◌, arith, append_assoc, append-nil, length-append, length-drop, get_or, SFits, to_z, of_z, to_z-of_z}
use Rattle.std.specs.Int.{w64}
use Rattle.std.proofs.lemmas.Bool.{le-ltb}
use Rattle.std.proofs.lemmas.List.{take_more, take_rest, take_at, drop_at, drop-drop}
use Rattle.std.proofs.Math.Facts.{Fits-of_z, sfits_to_z}
use Rattle.std.proofs.Math.ListN.{drop_of_length-le}
use borrow.Rule.Slice.PartMut.{put_mid}
use Rattle.std.proofs.lemmas.List.Concat.{flat_map-append}
use Rattle.std.proofs.lemmas.List.Folds.{length-flat_map-take}
use Rattle.ints.specs.Digits.{digits}
use Rattle.ints.proofs.DigitLaws.{length_digits}
use Rattle.ints.specs.Machine.{eq_z, eq_z_false, eq_bits, zero64}
use Rattle.refusals.specs.Rows.{Row, refusal_by}
use Rattle.refusals.specs.declared.Refusal.{Refusal}
use Rattle.refusals.specs.declared.Refusal.TheVariants.{UnknownKind, StrayNumber, BufferTooShort}
use Rattle.refusals.proofs.TableLaws.{at_row, past_row, accepted}
use Rattle.refusals.specs.Stores.{sets_front}
use Rattle.refusals.specs.Writer.{too_short}
use Rattle.refusals.proofs.WriterLaws.{writer_refuses, writer_accepts}
use Rattle.postings.proofs.BitMaps.{count, ones_of_map}
use Rattle.postings.proofs.KindTable.{maps_none, maps_some, lacks}
use Rattle.postings.specs.Kinds.{kind_of, unknown_kind, numbers_of, standing, stray_number}
use Rattle.postings.specs.BitMaps.{bit_map_of, maps_of}
use Rattle.postings.specs.declared.Book.{Book}
use Rattle.postings.specs.declared.Posting.{Posting}
use Rattle.records.specs.Fields.{bits_of, bytes_of}
use Rattle.records.specs.Records.{record_length, field_bytes, record_of, writing_rows, record_written, record_left}
use Rattle.records.specs.RoundTrips.{InWords}

-- ---- the length

length_bytes : (z : ℤ) → length (bytes_of z) ≡ 8 * cond (not (eq_z z (pos 0))) 1 0
unfolding bytes_of
length_bytes z = go (eq_z z (pos 0))
  where
    go : (t : Bool) → length (cond t [] (digits 256 8 (bits_of z))) ≡ 8 * cond (not t) 1 0
    go true = refl
    go false = length_digits 256 8 (bits_of z)

pub length_fields : (numbers : List ℤ) → length (field_bytes numbers) ≡ 8 * count (standing numbers)
length_fields [] = refl
length_fields (z ∷ numbers) = omega (arith, length-append (bytes_of z) (field_bytes numbers), length_bytes z, length_fields numbers)

pub length_record : (p : Posting) → length (record_of p) ≡ record_length (bit_map_of (standing (numbers_of p)))
unfolding record_of record_length
length_record p = omega (arith, length_fields (numbers_of p), ones_of_map (standing (numbers_of p)))

-- ---- its bytes, stored one part behind the other

-- what stands in the buffer before the field of number i
pub begun : Posting → ℕ → List ℕ
begun p i = p.kind ∷ bit_map_of (standing (numbers_of p)) ∷ field_bytes (take i (numbers_of p))

pub head_begun :
    (p : Posting) (buffer : List ℕ) (bit_map : ℕ) → bit_map ≡ bit_map_of (standing (numbers_of p)) → 2 ≤ length buffer →
    (2 ≡ length (begun p 0)) × (set (set buffer 0 p.kind) 1 bit_map ≡ begun p 0 ++ drop 2 buffer)
unfolding begun
head_begun p [] bit_map e h = absurd (omega arith)
head_begun p (a ∷ []) bit_map e h = absurd (omega arith)
head_begun p (a ∷ b ∷ buffer) bit_map e h = (refl, ap (λ (m : ℕ). p.kind ∷ m ∷ buffer) e)

pub all_begun : (p : Posting) (i : ℕ) → i ≤ 3 → 3 ≤ i → begun p i ≡ record_of p
unfolding begun record_of
all_begun p i h l =
    let e : i ≡ 3 = omega arith in
    ap (begun p) e

-- a field is stored at the front of what stands behind the bytes so far
pub field_stored :
    (done field old buffer part : List ℕ) (at n : ℕ) → at ≡ length done → n ≡ length field → buffer ≡ done ++ drop at old →
    part ≡ field ++ drop n (take (length buffer - at) (drop at buffer)) →
    put_mid at (length buffer - at) buffer part ≡ (done ++ field) ++ drop (at + n) old
field_stored done field old buffer part at n l k e p =
    let front : take at buffer ≡ done = ap (take at) e ∙ take_at done (drop at old) at (sym l) in
    let rest : drop at buffer ≡ drop at old = ap (drop at) e ∙ drop_at done (drop at old) at (sym l) in
    let room : length (drop at buffer) ≤ length buffer - at = omega (arith, length-drop at buffer) in
    let whole : part ≡ field ++ drop (at + n) old = p ∙ ap (λ (r : List ℕ). field ++ r) (ap (drop n) (take_rest buffer at ∙ rest) ∙ drop-drop n at old) in
    (λ i. front i ++ (whole i ++ drop_of_length-le (drop at buffer) room i))
    ∙ ap (λ (r : List ℕ). done ++ r) (append-nil (field ++ drop (at + n) old))
    ∙ sym (append_assoc done field (drop (at + n) old))

-- the numbers as the code reads them of a posting in memory
abbrev pub numbers_read : Posting → List ℤ
numbers_read p = to_z w64 (of_z w64 p.first) ∷ to_z w64 (of_z w64 p.second) ∷ to_z w64 (of_z w64 p.third) ∷ []

module _ (p : Posting) (words : InWords p) (i : ℕ) (h : i < 3) where
  numbers_are : numbers_read p ≡ numbers_of p
  numbers_are = λ i. to_z-of_z words.0 i ∷ to_z-of_z words.1 i ∷ to_z-of_z words.2 i ∷ []

  abbrev number : ℤ
  number = get_or (numbers_read p) i (pos 0)

  next_fits : length (begun p i) + length (bytes_of number) ≤ length (record_of p)
  unfolding begun record_of
  next_fits = omega (arith, length-flat_map-take bytes_of (numbers_of p) i (pos 0) h, ap (λ (l : List ℤ). length (bytes_of (get_or l i (pos 0)))) numbers_are)

  next_begun : begun p (i + 1) ≡ begun p i ++ bytes_of number
  unfolding begun
  next_begun =
      let one : field_bytes (get_or (numbers_of p) i (pos 0) ∷ []) ≡ bytes_of number = append-nil (bytes_of (get_or (numbers_of p) i (pos 0))) ∙ ap (λ (l : List ℤ). bytes_of (get_or l i (pos 0))) (sym numbers_are) in
      let fields = flat_map-append bytes_of (take i (numbers_of p)) (get_or (numbers_of p) i (pos 0) ∷ []) ∙ ap (λ (l : List ℕ). field_bytes (take i (numbers_of p)) ++ l) one in
      ap (λ (l : List ℤ). p.kind ∷ bit_map_of (standing (numbers_of p)) ∷ field_bytes l) (take_more (numbers_of p) i (pos 0) h)
      ∙ ap (λ (l : List ℕ). p.kind ∷ bit_map_of (standing (numbers_of p)) ∷ l) fields

  fits_at : (j : ℕ) → SFits w64 (get_or (numbers_read p) j (pos 0))
  fits_at zero = sfits_to_z (Fits-of_z words.0)
  fits_at (suc zero) = sfits_to_z (Fits-of_z words.1)
  fits_at (suc (suc zero)) = sfits_to_z (Fits-of_z words.2)
  fits_at (suc (suc (suc j))) = zero64

  pub none_begun : of_z w64 number ≡ 0 → begun p (i + 1) ≡ begun p i
  unfolding bytes_of
  none_begun e = next_begun ∙ ap (λ (z : ℤ). begun p i ++ bytes_of z) (eq_bits (fits_at i) zero64 e) ∙ append-nil (begun p i)

  module _ (stands : of_z w64 number ≡ 0 → ⊥) where
    abbrev field : List ℕ
    field = digits 256 8 (bits_of (to_z w64 (of_z w64 number)))

    field_is : bytes_of number ≡ field
    unfolding bytes_of
    field_is =
        ap (λ (t : Bool). cond t [] (digits 256 8 (bits_of number))) (eq_z_false number (pos 0) (λ e. stands (ap (of_z w64) e)))
        ∙ ap (λ (z : ℤ). digits 256 8 (bits_of z)) (sym (to_z-of_z (fits_at i)))

    pub field_begun : begun p (i + 1) ≡ begun p i ++ field
    field_begun = next_begun ∙ ap (λ (l : List ℕ). begun p i ++ l) field_is

    pub field_long : length field ≡ 8
    field_long = length_digits 256 8 (bits_of (to_z w64 (of_z w64 number)))

    pub field_fits : length (begun p i) + 8 ≤ length (record_of p)
    field_fits = omega (arith, next_fits, ap length field_is, field_long)

-- ---- row by row

module _ (book : Book) (p : Posting) (buffer : List ℕ) where
  abbrev bits : List Bool
  bits = standing (numbers_of p)

  abbrev rows : List Row
  rows = writing_rows book p buffer

  -- an answer, with what it leaves in the buffer
  abbrev Writes : Result ℕ Refusal → List ℕ → Type 0
  Writes answer after = (answer ≡ record_written book p buffer) × (after ≡ record_left book p buffer)

  refused_by : (refusal : Refusal) → refusal_by rows ≡ Some refusal → Writes (Err refusal) buffer
  unfolding record_written record_left
  refused_by refusal e = writer_refuses rows (record_of p) buffer refusal e

  pub no_kind : maps_of book (kind_of p.kind) ≡ None → Writes (Err UnknownKind) buffer
  no_kind e = refused_by UnknownKind (at_row UnknownKind _ (maps_none book p.kind e).0)

  module _ (maps : ℕ) (known : maps_of book (kind_of p.kind) ≡ Some maps) where
    kind_known : unknown_kind book p.kind ≡ false
    kind_known = (maps_some book p.kind maps known).0

    tested : stray_number book p ≡ leb maps (bit_map_of bits)
    unfolding stray_number
    tested = lacks book p.kind bits maps known

    pub stray : leb maps (bit_map_of bits) ≡ true → Writes (Err StrayNumber) buffer
    stray t = refused_by StrayNumber (past_row UnknownKind _ kind_known ∙ at_row StrayNumber _ (tested ∙ t))

    module _ (few : leb maps (bit_map_of bits) ≡ false) where
      pub no_room : ltb (length buffer) (length (record_of p)) ≡ true → Writes (Err BufferTooShort) buffer
      unfolding too_short
      no_room t = refused_by BufferTooShort (past_row UnknownKind _ kind_known ∙ past_row StrayNumber _ (tested ∙ few) ∙ at_row BufferTooShort [] t)

      pub written : (after : List ℕ) (n : ℕ) → length (record_of p) ≤ length buffer → n ≡ length (record_of p) → after ≡ record_of p ++ drop (length (record_of p)) buffer → Writes (Ok n) after
      unfolding too_short record_written record_left
      written after n h e s =
          writer_accepts rows (record_of p) buffer after n (accepted rows (kind_known, (tested ∙ few, (le-ltb (length buffer) (length (record_of p)) h, tt)))) h e (s ∙ sym (sets_front buffer (record_of p) h))
