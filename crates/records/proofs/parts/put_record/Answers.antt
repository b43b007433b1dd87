-- `records::parts::put_record` stores the record: its parts, one behind the other, are it. Assumes nothing.
use Rattle.std.specs.Prelude.{◌++◌, ℕ, length, drop}
use Rattle.std.proofs.Common.{arith, sym, ap, ◌∙◌, length-set, length-append, length-drop, rules}
use Rattle.std.proofs.lemmas.List.{take_rest}
use Rattle.records.proofs.Writing.{length_record, begun, head_begun, all_begun, field_stored, none_begun, field_begun, field_long, field_fits}
use Rattle.records.specs.Records.{record_length}
use Rattle.records.specs.RoundTrips.{InWords}
use Rattle.records.proofs.parts.put_record.Goals as goal
use Rattle.records.proofs.parts.put_record.Goals.{then-number-ne0, else-number-ne0}

pub bounds-buffer-0 : goal.bounds-buffer-0
unfolding record_length
bounds-buffer-0 c = omega (arith, c.requires.1, length_record c.args.posting)

pub bounds-buffer-1 : goal.bounds-buffer-1
unfolding record_length
bounds-buffer-1 c = omega (arith, c.requires.1, length_record c.args.posting, length-set c.args.buffer.now 0 c.args.posting.kind)

pub loop-number-init : goal.loop-number-init
unfolding record_length
loop-number-init c =
    let begins = head_begun c.args.posting c.args.buffer.now c.args.bitmap c.requires.0 (omega (arith, c.requires.1, length_record c.args.posting)) in
    record { place = begins.0; stored = begins.1 }

pub slice_bounds-put_field-count : goal.slice_bounds-put_field-count
slice_bounds-put_field-count c =
    let words : InWords c.args.posting = (search rules, search rules, search rules) in
    omega (arith, c.requires.1, length-set {A = ℕ}, field_fits c.args.posting words c.loop-number.number-index c.loop-number-test.true c.if-number-ne0.true)

pub slice_bounds-put_field-start : goal.slice_bounds-put_field-start
slice_bounds-put_field-start c =
    let words : InWords c.args.posting = (search rules, search rules, search rules) in
    omega (arith, c.requires.1, length-set {A = ℕ}, field_fits c.args.posting words c.loop-number.number-index c.loop-number-test.true c.if-number-ne0.true)

pub put_field-requires : goal.put_field-requires
put_field-requires c =
    let s = c.loop-number in
    let words : InWords c.args.posting = (search rules, search rules, search rules) in
    let rest = ap length (take_rest s.buffer s.at) ∙ length-drop s.at s.buffer in
    omega (arith, c.requires.1, length-set {A = ℕ}, field_fits c.args.posting words s.number-index c.loop-number-test.true c.if-number-ne0.true, rest)

pub loop-number-preserved : goal.loop-number-preserved
loop-number-preserved c =
    let s = c.loop-number in
    let words : InWords c.args.posting = (search rules, search rules, search rules) in
    elim c.if-number-ne0.branch [
      | then-number-ne0 w ↦
          let next = field_begun c.args.posting words s.number-index c.loop-number-test.true w.if-number-ne0.true in
          let long = field_long c.args.posting words s.number-index c.loop-number-test.true w.if-number-ne0.true in
          let stored = field_stored (begun c.args.posting s.number-index) _ c.args.buffer.now s.buffer _ s.at 8 s.invariant.place (sym long) s.invariant.stored w.put_field.ensures in
          record {
            place = omega (arith, w.at-is, ap length next, length-append {A = ℕ}, long, s.invariant.place);
            stored = w.buffer-is ∙ stored ∙ (λ i. sym next i ++ drop (sym w.at-is i) c.args.buffer.now);
          }
      | else-number-ne0 w ↦
          let next = none_begun c.args.posting words s.number-index c.loop-number-test.true w.if-number-ne0.false in
          record {
            place = w.at-is ∙ s.invariant.place ∙ ap length (sym next);
            stored = w.buffer-is ∙ s.invariant.stored ∙ (λ i. sym next i ++ drop (sym w.at-is i) c.args.buffer.now);
          }
    ]

pub returns : goal.returns
returns c =
    let s = c.loop-number in
    let whole = all_begun c.args.posting s.number-index s.auto.number-index-end c.loop-number-test.false in
    s.invariant.stored ∙ (λ i. whole i ++ drop ((s.invariant.place ∙ ap length whole) i) c.args.buffer.now)
