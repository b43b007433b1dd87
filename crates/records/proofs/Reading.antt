-- Laws of reading a record, field by field and row by row, as the code goes. Assumes nothing.
use Rattle.std.specs.Prelude.{◌≡◌, refl, Bool, true, false, cond, ◌||◌, List, [], ◌∷◌, ℕ, ◌+◌, ◌-◌, ◌*◌, ◌/◌, ◌%◌, ◌<◌, ◌≤◌, eqb, leb, ltb, ℤ, pos, length, take, drop, Option, Some, None, Result, Err}
use Rattle.std.proofs.Common.{sym, ap, ◌∙◌, arith, length-drop}
use Rattle.std.proofs.lemmas.Bool.{false≢true, lt-ltb}
use borrow.Author.Tests.{le-ltb}
use Rattle.std.proofs.lemmas.List.{take_rest}
use Rattle.std.proofs.lemmas.Option.{none-some, same_Some}
use Rattle.ints.specs.Machine.{eq_z, eq_z_false}
use Rattle.refusals.specs.Rows.{Row, row, refusal_by, by_table}
use Rattle.refusals.specs.declared.Refusal.{Refusal}
use Rattle.refusals.specs.declared.Refusal.TheVariants.{NoRecord, UnknownKind, StrayNumber, RecordCutShort, ZeroPresent}
use Rattle.refusals.proofs.TableLaws.{at_row, past_row, accepted, gives_asked, gives_refusal}
use Rattle.postings.proofs.BitMaps.{count, ones_of_bits, map_of_bits}
use Rattle.postings.proofs.KindTable.{maps_none, maps_some, lacks}
use Rattle.postings.specs.Kinds.{kind_of, fields_of, stands_beyond}
use Rattle.postings.specs.BitMaps.{bits_from, bit_map_of, maps_of}
use Rattle.postings.specs.declared.Book.{Book}
use Rattle.postings.specs.declared.Posting.{Posting}
use Rattle.records.specs.Fields.{field_of}
use Rattle.records.specs.Records.{record_length, kind_in, bit_map_in, fields_at, numbers_in, zero_present, reading_rows, posting_of, found_at, read_of}
use Rattle.records.specs.Steps.{Finds, posting_in}
use Rattle.records.specs.declared.Found.{Found}

-- ---- one field

module _ (bits : List Bool) (bytes : List ℕ) where
  pub zero_found : (bit : Bool) → bit ≡ true → field_of bytes ≡ pos 0 → zero_present (bit ∷ bits) (fields_at (bit ∷ bits) bytes) ≡ true
  unfolding zero_present fields_at
  zero_found false b z = absurd (false≢true b)
  zero_found true b z = ap (λ (n : ℤ). eq_z n (pos 0) || zero_present bits (fields_at bits (drop 8 bytes))) z

  pub found_fields : (bit : Bool) (number : ℤ) (rest : List ℕ) → Finds bit bytes number rest → fields_at (bit ∷ bits) bytes ≡ number ∷ fields_at bits rest
  unfolding fields_at
  found_fields false number rest f = λ i. sym f.0 i ∷ fields_at bits (sym f.1 i)
  found_fields true number rest f = λ i. sym f.0 i ∷ fields_at bits (sym f.2 i)

  pub found_zero : (bit : Bool) (number : ℤ) (rest : List ℕ) → Finds bit bytes number rest → zero_present (bit ∷ bits) (fields_at (bit ∷ bits) bytes) ≡ zero_present bits (fields_at bits rest)
  unfolding zero_present fields_at
  found_zero false number rest f = ap (λ (l : List ℕ). zero_present bits (fields_at bits l)) (sym f.1)
  found_zero true number rest f = (λ i. eq_z (sym f.0 i) (pos 0) || zero_present bits (fields_at bits (sym f.2 i))) ∙ ap (λ (t : Bool). t || zero_present bits (fields_at bits rest)) (eq_z_false number (pos 0) f.1)

  pub found_room : (bit : Bool) (number : ℤ) (rest : List ℕ) → Finds bit bytes number rest → 8 * count (bit ∷ bits) ≤ length bytes → 8 * count bits ≤ length rest
  found_room false number rest f h = omega (arith, ap length f.1)
  found_room true number rest f h = omega (arith, ap length f.2, length-drop 8 bytes)

  pub field_room : (bit : Bool) → 8 * count (bit ∷ bits) ≤ length bytes → bit ≡ true → 8 ≤ length bytes
  field_room false h b = absurd (false≢true b)
  field_room true h b = omega arith

-- ---- three fields

-- a map's three lowest bits, as the code takes them, and those behind the first and the second
abbrev pub third_bit : ℕ → List Bool
third_bit m = eqb (m / 4 % 2) 1 ∷ []

abbrev pub later_bits : ℕ → List Bool
later_bits m = eqb (m / 2 % 2) 1 ∷ third_bit m

abbrev pub three_bits : ℕ → List Bool
three_bits m = eqb (m % 2) 1 ∷ later_bits m

bits_three : (m : ℕ) → bits_from 3 m ≡ three_bits m
unfolding bits_from
bits_three m =
    let e : m / 2 / 2 ≡ m / 4 = omega arith in
    ap (λ (k : ℕ). eqb (m % 2) 1 ∷ eqb (m / 2 % 2) 1 ∷ eqb (k % 2) 1 ∷ []) e

pub fields_room : (m n : ℕ) → m < 8 → record_length m ≤ 2 + n → 8 * count (three_bits m) ≤ n
unfolding record_length
fields_room m n h l = omega (arith, ones_of_bits 3 m h, ap count (bits_three m))

module _ (kind m : ℕ) (bytes : List ℕ) where
  posting_is : posting_in kind m bytes ≡ cond (zero_present (three_bits m) (fields_at (three_bits m) bytes)) None (Some (posting_of kind (fields_at (three_bits m) bytes)))
  unfolding posting_in
  posting_is = ap (λ (bits : List Bool). cond (zero_present bits (fields_at bits bytes)) None (Some (posting_of kind (fields_at bits bytes)))) (bits_three m)

  pub none_posted : zero_present (three_bits m) (fields_at (three_bits m) bytes) ≡ true → None ≡ posting_in kind m bytes
  none_posted e = sym (posting_is ∙ ap (λ (t : Bool). cond t None (Some (posting_of kind (fields_at (three_bits m) bytes)))) e)

  pub three_posted :
      (first second third : ℤ) (rest₁ rest₂ rest₃ : List ℕ) →
      Finds (eqb (m % 2) 1) bytes first rest₁ → Finds (eqb (m / 2 % 2) 1) rest₁ second rest₂ → Finds (eqb (m / 4 % 2) 1) rest₂ third rest₃ →
      Some (posting_of kind (first ∷ second ∷ third ∷ [])) ≡ posting_in kind m bytes
  unfolding zero_present fields_at
  three_posted first second third rest₁ rest₂ rest₃ f₁ f₂ f₃ =
      let numbers : fields_at (three_bits m) bytes ≡ first ∷ second ∷ third ∷ [] =
      found_fields (later_bits m) bytes _ first rest₁ f₁
      ∙ ap (λ (l : List ℤ). first ∷ l) (found_fields (third_bit m) rest₁ _ second rest₂ f₂ ∙ ap (λ (l : List ℤ). second ∷ l) (found_fields [] rest₂ _ third rest₃ f₃)) in
      let no_zero : zero_present (three_bits m) (fields_at (three_bits m) bytes) ≡ false =
      found_zero (later_bits m) bytes _ first rest₁ f₁ ∙ found_zero (third_bit m) rest₁ _ second rest₂ f₂ ∙ found_zero [] rest₂ _ third rest₃ f₃ in
      sym (posting_is ∙ (λ i. cond (no_zero i) None (Some (posting_of kind (numbers i)))))

-- ---- row by row

module _ (book : Book) (s : List ℕ) (place : ℕ) (rest : List ℕ) (at_place : rest ≡ drop place s) where
  abbrev kind : ℕ
  kind = kind_in rest

  abbrev m : ℕ
  m = bit_map_in rest

  abbrev rows : List Row
  rows = reading_rows book rest

  abbrev found : Result Found Refusal
  found = found_at (place + record_length m) (posting_of kind (numbers_in rest))

  read_is : read_of book s place ≡ by_table rows found Err
  unfolding read_of
  read_is = λ i. by_table (reading_rows book (sym at_place i)) (found_at (place + record_length (bit_map_in (sym at_place i))) (posting_of (kind_in (sym at_place i)) (numbers_in (sym at_place i)))) Err

  refused_by : (refusal : Refusal) → refusal_by rows ≡ Some refusal → Err refusal ≡ read_of book s place
  refused_by refusal e = sym (read_is ∙ gives_refusal rows found Err refusal e)

  pub no_record : length rest < 2 → Err NoRecord ≡ read_of book s place
  no_record h = refused_by NoRecord (at_row NoRecord _ (lt-ltb (length rest) 2 h))

  module _ (some : 2 ≤ length rest) where
    enough : ltb (length rest) 2 ≡ false
    enough = le-ltb (length rest) 2 some

    pub no_kind : maps_of book (kind_of kind) ≡ None → Err UnknownKind ≡ read_of book s place
    no_kind e = refused_by UnknownKind (past_row NoRecord _ enough ∙ at_row UnknownKind _ (maps_none book kind e).0)

    module _ (maps : ℕ) (known : maps_of book (kind_of kind) ≡ Some maps) (byte : m < 256) where
      bits_make : bit_map_of (bits_from 8 m) ≡ m
      bits_make = map_of_bits 8 m byte

      past_kind : refusal_by rows ≡ refusal_by (row StrayNumber (stands_beyond (fields_of book kind) (bits_from 8 m)) ∷ row RecordCutShort (ltb (length rest) (record_length m)) ∷ row ZeroPresent (zero_present (bits_from 3 m) (numbers_in rest)) ∷ [])
      past_kind = past_row NoRecord _ enough ∙ past_row UnknownKind _ (maps_some book kind maps known).0

      tested : stands_beyond (fields_of book kind) (bits_from 8 m) ≡ leb maps m
      tested = lacks book kind (bits_from 8 m) maps known ∙ ap (leb maps) bits_make

      pub stray : leb maps m ≡ true → Err StrayNumber ≡ read_of book s place
      stray t = refused_by StrayNumber (past_kind ∙ at_row StrayNumber _ (tested ∙ t))

      module _ (few : leb maps m ≡ false) where
        past_stray : refusal_by rows ≡ refusal_by (row RecordCutShort (ltb (length rest) (record_length m)) ∷ row ZeroPresent (zero_present (bits_from 3 m) (numbers_in rest)) ∷ [])
        past_stray = past_kind ∙ past_row StrayNumber _ (tested ∙ few)

        pub cut_short : ltb (length rest) (record_length m) ≡ true → Err RecordCutShort ≡ read_of book s place
        cut_short t = refused_by RecordCutShort (past_stray ∙ at_row RecordCutShort _ t)

        module _ (whole : ltb (length rest) (record_length m) ≡ false) where
          past_short : refusal_by rows ≡ refusal_by (row ZeroPresent (zero_present (bits_from 3 m) (numbers_in rest)) ∷ [])
          past_short = past_stray ∙ past_row RecordCutShort _ whole

          -- the fields as the code takes them
          fields_are : {o p : Option Posting} → o ≡ posting_in kind m (take (length rest - 2) (drop 2 rest)) → o ≡ p → posting_in kind m (drop 2 rest) ≡ p
          fields_are e f = ap (posting_in kind m) (sym (take_rest rest 2)) ∙ sym e ∙ f

          pub zero : {o : Option Posting} → o ≡ posting_in kind m (take (length rest - 2) (drop 2 rest)) → o ≡ None → Err ZeroPresent ≡ read_of book s place
          unfolding posting_in
          zero e f = go (zero_present (bits_from 3 m) (numbers_in rest)) refl (fields_are e f)
            where
              go : (t : Bool) → zero_present (bits_from 3 m) (numbers_in rest) ≡ t → cond t None (Some (posting_of kind (numbers_in rest))) ≡ None → Err ZeroPresent ≡ read_of book s place
              go true z e = refused_by ZeroPresent (past_short ∙ at_row ZeroPresent [] z)
              go false z e = absurd (none-some _ (sym e))

          pub taken : {o : Option Posting} (p : Posting) → o ≡ posting_in kind m (take (length rest - 2) (drop 2 rest)) → o ≡ Some p → found_at (place + record_length m) p ≡ read_of book s place
          unfolding posting_in
          taken p e f = go (zero_present (bits_from 3 m) (numbers_in rest)) refl (fields_are e f)
            where
              go : (t : Bool) → zero_present (bits_from 3 m) (numbers_in rest) ≡ t → cond t None (Some (posting_of kind (numbers_in rest))) ≡ Some p → found_at (place + record_length m) p ≡ read_of book s place
              go true z e = absurd (none-some _ e)
              go false z e = ap (found_at (place + record_length m)) (sym (same_Some _ _ e)) ∙ sym (read_is ∙ gives_asked rows found Err (past_short ∙ past_row ZeroPresent [] z ∙ accepted [] tt))
