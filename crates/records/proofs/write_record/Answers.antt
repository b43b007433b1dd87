-- `records::write_record` writes the record, or refuses by its table and keeps the buffer. Assumes nothing.
use Rattle.std.specs.Prelude.{◌≡◌, Err, leb, ltb, length}
use Rattle.std.proofs.Common.{sym, ap, ◌∙◌, arith, ltb-false, rules}
use Rattle.refusals.specs.declared.Refusal.TheVariants.{UnknownKind}
use Rattle.refusals.proofs.TableLaws.{row_accepts, row_refused}
use Rattle.records.proofs.Writing.{length_record, no_kind, stray, no_room, written}
use Rattle.records.specs.Records.{record_length, record_of}
use Rattle.records.proofs.write_record.Goals as goal

pub returns-in_err-maps : goal.returns-in_err-maps
returns-in_err-maps c =
    let refused : c.from_residual.result ≡ Err c.in_err-maps.field-0.0 = search rules in
    let refusal : c.in_err-maps.field-0.0 ≡ UnknownKind = grind arith in
    let none = sym c.maps_of.ensures ∙ c.in_err-maps.ensures.ok_part in
    let refuses = no_kind c.args.book c.args.posting c.args.buffer.now none in
    (refused ∙ ap Err refusal ∙ refuses.0, refuses.1)

pub returns-in_err-refuse_if : goal.returns-in_err-refuse_if
returns-in_err-refuse_if c =
    let maps = sym c.maps_of.ensures ∙ c.in_ok-maps.ensures.ok_part in
    let refused : c.from_residual-in_err-refuse_if.result ≡ Err c.in_err-refuse_if.field-0.0 = search rules in
    let told = row_refused _ _ _ c.in_err-refuse_if.ensures in
    let refuses = stray _ _ c.args.buffer.now _ maps (ap (leb c.in_ok-maps.maps) (sym c.bitmap_of-bitmap.ensures) ∙ told.0) in
    (refused ∙ ap Err told.1 ∙ refuses.0, refuses.1)

pub returns-in_err-refuse_if-2 : goal.returns-in_err-refuse_if-2
returns-in_err-refuse_if-2 c =
    let maps = sym c.maps_of.ensures ∙ c.in_ok-maps.ensures.ok_part in
    let few = ap (leb c.in_ok-maps.maps) (sym c.bitmap_of-bitmap.ensures) ∙ row_accepts _ _ _ c.in_ok-refuse_if.ensures in
    let long : c.record_length-length.result ≡ length (record_of c.args.posting) = c.record_length-length.ensures ∙ ap record_length c.bitmap_of-bitmap.ensures ∙ sym (length_record c.args.posting) in
    let refused : c.from_residual-in_err-refuse_if-2.result ≡ Err c.in_err-refuse_if-2.field-0.0 = search rules in
    let told = row_refused _ _ _ c.in_err-refuse_if-2.ensures in
    let refuses = no_room _ _ c.args.buffer.now _ maps few (ap (ltb (length c.args.buffer.now)) (sym long) ∙ told.0) in
    (refused ∙ ap Err told.1 ∙ refuses.0, refuses.1)

pub put_record-requires : goal.put_record-requires
put_record-requires c =
    let long : c.record_length-length.result ≡ length (record_of c.args.posting) = c.record_length-length.ensures ∙ ap record_length c.bitmap_of-bitmap.ensures ∙ sym (length_record c.args.posting) in
    let room = ltb-false _ _ (row_accepts _ _ _ c.in_ok-refuse_if-2.ensures) in
    (c.bitmap_of-bitmap.ensures, omega arith)

pub returns : goal.returns
returns c =
    let maps = sym c.maps_of.ensures ∙ c.in_ok-maps.ensures.ok_part in
    let few = ap (leb c.in_ok-maps.maps) (sym c.bitmap_of-bitmap.ensures) ∙ row_accepts _ _ _ c.in_ok-refuse_if.ensures in
    let long : c.record_length-length.result ≡ length (record_of c.args.posting) = c.record_length-length.ensures ∙ ap record_length c.bitmap_of-bitmap.ensures ∙ sym (length_record c.args.posting) in
    let room = ltb-false _ _ (row_accepts _ _ _ c.in_ok-refuse_if-2.ensures) in
    written _ _ _ _ maps few _ _ (omega arith) long c.put_record.ensures
