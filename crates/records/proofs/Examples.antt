-- The examples hold: each is computed from the definitions. Assumes nothing.
use mathlib.Core.Path.{refl}
use lib.Count.{ones, ones_in}
use Rattle.ints.specs.Digits.{value}
use Rattle.refusals.specs.Rows.{refusal_by, by_table}
use Rattle.postings.specs.Kinds.{kind_of, unknown_kind, fields_of, stands_beyond}
use Rattle.postings.specs.BitMaps.{bits_from}
use Rattle.records.specs.Fields.{twos_complement, field_of}
use Rattle.records.specs.Records.{record_length, fields_at, zero_present, read_of}
use Rattle.records.specs.Examples.{ExamplesHold}

pub examples_hold : ExamplesHold
unfolding read_of by_table refusal_by unknown_kind kind_of fields_of stands_beyond record_length ones ones_in bits_from fields_at zero_present field_of twos_complement value
examples_hold = refl
