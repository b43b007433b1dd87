-- `records::parts::posting_in` is the posting of the three fields, found one behind the other. Assumes nothing.
use Rattle.std.specs.Prelude.{[], Some, length}
use Rattle.std.proofs.Common.{◌∙◌, SFits, to_z-of_z, rules}
use Rattle.std.specs.Int.{w64}
use Rattle.records.proofs.Reading.{zero_found, found_zero, found_room, field_room, third_bit, later_bits, fields_room, none_posted, three_posted}
use Rattle.records.proofs.parts.posting_in.Goals as goal

pub number_in-requires : goal.number_in-requires
number_in-requires c =
    field_room (later_bits c.args.bitmap) _ _ (fields_room c.args.bitmap (length c.args.fields.now) c.requires.0 c.requires.1)

pub returns-in_err-first : goal.returns-in_err-first
returns-in_err-first c =
    c.from_residual.ensures ∙ none_posted _ _ _ (zero_found _ _ _ c.in_err-first.ensures.0 c.in_err-first.ensures.1)

pub number_in-requires-2 : goal.number_in-requires-2
number_in-requires-2 c =
    let room = fields_room c.args.bitmap (length c.args.fields.now) c.requires.0 c.requires.1 in
    field_room (third_bit c.args.bitmap) _ _ (found_room (later_bits c.args.bitmap) _ _ _ _ c.in_ok-first.ensures room)

pub returns-in_err-second : goal.returns-in_err-second
returns-in_err-second c =
    c.from_residual-in_err-second.ensures
    ∙ none_posted _ _ _ (found_zero _ _ _ _ _ c.in_ok-first.ensures ∙ zero_found _ _ _ c.in_err-second.ensures.0 c.in_err-second.ensures.1)

pub third_in-requires : goal.third_in-requires
third_in-requires c =
    let room = fields_room c.args.bitmap (length c.args.fields.now) c.requires.0 c.requires.1 in
    field_room [] _ _ (found_room (third_bit c.args.bitmap) _ _ _ _ c.in_ok-second.ensures (found_room (later_bits c.args.bitmap) _ _ _ _ c.in_ok-first.ensures room))

pub returns-in_err-third : goal.returns-in_err-third
returns-in_err-third c =
    c.from_residual-in_err-third.ensures
    ∙ none_posted _ _ _ (found_zero _ _ _ _ _ c.in_ok-first.ensures ∙ found_zero _ _ _ _ _ c.in_ok-second.ensures ∙ zero_found _ _ _ c.in_err-third.ensures.0 c.in_err-third.ensures.1)

pub returns : goal.returns
returns c =
    let f₁ : SFits w64 c.in_ok-first.first = search rules in
    let f₂ : SFits w64 c.in_ok-second.second = search rules in
    let f₃ : SFits w64 c.in_ok-third.third = search rules in
    (λ i. Some (record { kind = c.args.kind; first = to_z-of_z f₁ i; second = to_z-of_z f₂ i; third = to_z-of_z f₃ i }))
    ∙ three_posted _ _ _ _ _ _ _ _ _ c.in_ok-first.ensures c.in_ok-second.ensures c.in_ok-third.ensures
