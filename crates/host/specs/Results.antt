-- What a host is handed in place of a reading's result: a refusal has its number, and beside it the place that was passed in and a posting
-- of kind 0.
use Rattle.std.specs.Prelude.{[], ℕ, Result, Ok, Err}
use Rattle.refusals.specs.Rows.{number_of}
use Rattle.refusals.specs.declared.Refusal.{Refusal}
use Rattle.records.specs.Records.{posting_of}
use Rattle.records.specs.declared.Found.{Found}
use Rattle.host.specs.declared.results.Read.{Read}

abbrev pub read_at : ℕ → Result Found Refusal → Read
read_at place (Ok found) = record { number = 0; place = found.place; posting = found.posting }
read_at place (Err refusal) = record { number = number_of refusal; place = place; posting = posting_of 0 [] }
