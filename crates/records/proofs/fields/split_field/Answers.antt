-- `records::fields::split_field` gives the field that begins the bytes. Assumes nothing.
use Rattle.std.specs.Prelude.{◌≤◌, length}
use Rattle.std.proofs.Common.{◌∙◌, arith}
use Rattle.std.specs.Int.{w64}
use Rattle.ints.specs.Machine.{reads}
use Rattle.records.proofs.FieldBytes.{field_from_bytes}
use Rattle.records.proofs.fields.split_field.Goals as goal

pub returns : goal.returns
returns c =
    let field = c.in_ok-field.ensures.cases in
    let room : 8 ≤ length c.args.bytes.now = omega (arith, field) in
    (room, reads w64 _ c.from_be_bytes.type_inv ∙ c.from_be_bytes.ensures ∙ field_from_bytes c.args.bytes.now _ room (λ i. (c.type_inv.bytes i).fits) field.0, field.1)
