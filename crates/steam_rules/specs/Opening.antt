-- The opening of a steam book (01, Steam book, Opening; Refusals, 7).
use Rattle.std.specs.Prelude.{not, List, [], ◌∷◌, pos, Result, Ok, Err}
use Rattle.std.specs.Result.{result_unwrap_or}
use Rattle.refusals.specs.Rows.{row, by_table}
use Rattle.refusals.specs.declared.Refusal.{Refusal}
use Rattle.refusals.specs.declared.Refusal.TheVariants.{OutOfRange}
use Rattle.steam_rules.specs.declared.Mmbtu.{Mmbtu}
use Rattle.steam_rules.specs.declared.SteamBook.{SteamBook}
use Rattle.steam_rules.specs.Book.{mmbtu, four, fresh_of}
use Rattle.steam_rules.specs.Limits.{quarters_in_limits}

-- 7: a quarter is out of range
unfoldable pub opened_of : List Mmbtu → Result SteamBook Refusal
opened_of quarters = by_table (row OutOfRange (not (quarters_in_limits quarters)) ∷ []) (Ok (fresh_of quarters)) Err

-- an opening out of range hands back steam with four zeros
abbrev pub handed_back : List Mmbtu → SteamBook
handed_back quarters = result_unwrap_or (opened_of quarters) (fresh_of (four (mmbtu (pos 0))))
