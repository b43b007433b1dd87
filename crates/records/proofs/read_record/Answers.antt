-- `records::read_record` is what reading at the place gives, row by row. Assumes nothing.
use Rattle.std.specs.Prelude.{◌≡◌, refl, ◌+◌, ◌<◌, ℕ, List, ltb, length, drop, Option, Some, None, MatchOption, Err}
use Rattle.std.specs.Borrow.{Bor}
use Rattle.std.proofs.Common.{sym, ap, subst, ◌∙◌, arith, ltb-true, ltb-false, length-drop, rules}
use Rattle.std.proofs.lemmas.Grind.{common_steps}
use Rattle.refusals.specs.declared.Refusal.TheVariants.{NoRecord, UnknownKind, ZeroPresent}
use borrow.Author.Tests.{leb-false}
use Rattle.refusals.proofs.TableLaws.{row_accepts, row_refused}
use Rattle.records.proofs.Reading.{no_record, no_kind, stray, cut_short, zero, taken}
use Rattle.records.specs.Records.{bit_map_in, found_at}
use Rattle.records.proofs.read_record.Goals as goal
use Rattle.records.proofs.read_record.Goals.{After-rest}

-- what is read begins at the place
module _ (c : After-rest) where
  rest_is : {rest : Bor (List ℕ)} → c.rest.result ≡ Some rest → rest.now ≡ drop c.args.place c.args.bytes.now
  rest_is e = subst (λ (o : Option (Bor (List ℕ))). MatchOption o (length c.args.bytes.now < c.args.place) (λ rest. rest.now ≡ drop c.args.place c.args.bytes.now)) e c.rest.ensures

  past_end : c.rest.result ≡ None → length c.args.bytes.now < c.args.place
  past_end e = subst (λ (o : Option (Bor (List ℕ))). MatchOption o (length c.args.bytes.now < c.args.place) (λ rest. rest.now ≡ drop c.args.place c.args.bytes.now)) e c.rest.ensures

pub returns-in_err-record : goal.returns-in_err-record
returns-in_err-record c =
    let refused : c.from_residual.result ≡ Err c.in_err-record.field-0.0 = search rules in
    let refusal : c.in_err-record.field-0.0 ≡ NoRecord = grind arith in
    let past = past_end (goal.at.returns-in_err-record c).After-rest c.in_err-record.ensures.ok_part in
    refused ∙ ap Err refusal ∙ no_record c.args.book c.args.bytes.now c.args.place _ refl (omega (arith, length-drop c.args.place c.args.bytes.now))

pub returns-in_err-refuse_if : goal.returns-in_err-refuse_if
returns-in_err-refuse_if c =
    let refused : c.from_residual-in_err-refuse_if.result ≡ Err c.in_err-refuse_if.field-0.0 = search rules in
    let told = row_refused _ _ _ c.in_err-refuse_if.ensures in
    refused ∙ ap Err told.1 ∙ no_record _ _ _ _ (rest_is (goal.at.returns-in_err-refuse_if c).After-rest c.in_ok-record.ensures.ok_part) (ltb-true _ _ told.0)

pub unreachable-requires : goal.unreachable-requires
unreachable-requires c =
    let enough = ltb-false _ _ (row_accepts _ _ _ c.in_ok-refuse_if.ensures) in
    omega (arith, enough, c.in_default.len_below)

pub returns-in_err-maps : goal.returns-in_err-maps
returns-in_err-maps c =
    let refused : c.from_residual-in_err-maps.result ≡ Err c.in_err-maps.field-0.0 = search rules in
    let refusal : c.in_err-maps.field-0.0 ≡ UnknownKind = grind arith in
    let none = sym c.maps_of.ensures ∙ c.in_err-maps.ensures.ok_part in
    refused ∙ ap Err refusal ∙ no_kind _ _ _ _ (rest_is (goal.at.returns-in_err-maps c).After-rest c.in_ok-record.ensures.ok_part) c.in-len2-up.len_at_least none

pub returns-in_err-refuse_if-2 : goal.returns-in_err-refuse_if-2
returns-in_err-refuse_if-2 c =
    let byte : bit_map_in c.in_ok-record.record.now < 256 = search rules in
    let maps = sym c.maps_of.ensures ∙ c.in_ok-maps.ensures.ok_part in
    let refused : c.from_residual-in_err-refuse_if-2.result ≡ Err c.in_err-refuse_if-2.field-0.0 = search rules in
    let told = row_refused _ _ _ c.in_err-refuse_if-2.ensures in
    refused ∙ ap Err told.1 ∙ stray _ _ _ _ (rest_is (goal.at.returns-in_err-refuse_if-2 c).After-rest c.in_ok-record.ensures.ok_part) c.in-len2-up.len_at_least _ maps byte told.0

pub returns-in_err-refuse_if-3 : goal.returns-in_err-refuse_if-3
returns-in_err-refuse_if-3 c =
    let byte : bit_map_in c.in_ok-record.record.now < 256 = search rules in
    let maps = sym c.maps_of.ensures ∙ c.in_ok-maps.ensures.ok_part in
    let few = row_accepts _ _ _ c.in_ok-refuse_if-2.ensures in
    let refused : c.from_residual-in_err-refuse_if-3.result ≡ Err c.in_err-refuse_if-3.field-0.0 = search rules in
    let told = row_refused _ _ _ c.in_err-refuse_if-3.ensures in
    refused ∙ ap Err told.1
    ∙ cut_short _ _ _ _ (rest_is (goal.at.returns-in_err-refuse_if-3 c).After-rest c.in_ok-record.ensures.ok_part) c.in-len2-up.len_at_least _ maps byte few (ap (ltb (length c.in_ok-record.record.now)) (sym c.record_length-length.ensures) ∙ told.0)

pub posting_in-requires : goal.posting_in-requires
posting_in-requires c =
    let few = leb-false _ _ (row_accepts _ _ _ c.in_ok-refuse_if-2.ensures) in
    let whole = ltb-false _ _ (row_accepts _ _ _ c.in_ok-refuse_if-3.ensures) in
    grind (arith, common_steps, few, whole)

pub returns-in_err-posting : goal.returns-in_err-posting
returns-in_err-posting c =
    let byte : bit_map_in c.in_ok-record.record.now < 256 = search rules in
    let maps = sym c.maps_of.ensures ∙ c.in_ok-maps.ensures.ok_part in
    let few = row_accepts _ _ _ c.in_ok-refuse_if-2.ensures in
    let whole = ap (ltb (length c.in_ok-record.record.now)) (sym c.record_length-length.ensures) ∙ row_accepts _ _ _ c.in_ok-refuse_if-3.ensures in
    let refused : c.from_residual-in_err-posting.result ≡ Err c.in_err-posting.field-0.0 = search rules in
    let refusal : c.in_err-posting.field-0.0 ≡ ZeroPresent = grind arith in
    refused ∙ ap Err refusal
    ∙ zero _ _ _ _ (rest_is (goal.at.returns-in_err-posting c).After-rest c.in_ok-record.ensures.ok_part) c.in-len2-up.len_at_least _ maps byte few whole c.posting_in.ensures c.in_err-posting.ensures.ok_part

pub overflow_add-result : goal.overflow_add-result
overflow_add-result c =
    let whole = ltb-false _ _ (row_accepts _ _ _ c.in_ok-refuse_if-3.ensures) in
    grind (arith, common_steps, whole)

pub returns : goal.returns
returns c =
    let byte : bit_map_in c.in_ok-record.record.now < 256 = search rules in
    let maps = sym c.maps_of.ensures ∙ c.in_ok-maps.ensures.ok_part in
    let few = row_accepts _ _ _ c.in_ok-refuse_if-2.ensures in
    let whole = ap (ltb (length c.in_ok-record.record.now)) (sym c.record_length-length.ensures) ∙ row_accepts _ _ _ c.in_ok-refuse_if-3.ensures in
    ap (λ (n : ℕ). found_at (c.args.place + n) c.in_ok-posting.posting) c.record_length-length.ensures
    ∙ taken _ _ _ _ (rest_is (goal.at.returns c).After-rest c.in_ok-record.ensures.ok_part) c.in-len2-up.len_at_least _ maps byte few whole _ c.posting_in.ensures c.in_ok-posting.ensures.ok_part
