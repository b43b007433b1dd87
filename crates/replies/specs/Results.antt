-- What a host is handed in place of a writer's result: a refusal has its number, and beside it no bytes.
use Rattle.std.specs.Prelude.{ℕ, Result, Ok, Err}
use Rattle.refusals.specs.Rows.{number_of}
use Rattle.refusals.specs.declared.Refusal.{Refusal}
use Rattle.replies.specs.declared.Written.{Written}

abbrev pub written_as : Result ℕ Refusal → Written
written_as (Ok length) = record { number = 0; length = length }
written_as (Err refusal) = record { number = number_of refusal; length = 0 }
