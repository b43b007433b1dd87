-- What a host is handed for a book's answer, field by field: 0 where a field does not apply. A refusal has its number alone, and an answer
-- that the book never gives has nothing.
use Rattle.std.specs.Prelude.{List, ℕ, pos, Result, Ok, Err}
use Rattle.refusals.specs.declared.Refusal.{Refusal}
use Rattle.amounts.specs.Amounts.{cents, points}
use Rattle.amounts.specs.declared.Cents.{Cents}
use Rattle.amounts.specs.declared.Points.{Points}
use Rattle.postings.specs.Answers.{answer_number}
use Rattle.postings.specs.declared.Answer.{Answer}
use Rattle.postings.specs.declared.Answer.TheVariants.{Line, FiledLevels, Filed, Interest, Done}
use Rattle.postings.specs.declared.Posted.{Posted}
use Rattle.riders.specs.Rules.{answer_given, book_given}
use Rattle.electric_rules.specs.declared.ElectricBook.{ElectricBook}
use Rattle.steam_rules.specs.declared.SteamBook.{SteamBook}
use Rattle.host.specs.declared.electric_book.ElectricReply.{ElectricReply}
use Rattle.host.specs.declared.electric_book.LevelCents.{LevelCents}
use Rattle.host.specs.declared.electric_book.LevelPoints.{LevelPoints}
use Rattle.host.specs.declared.steam_book.SteamReply.{SteamReply}
use Rattle.steam_rules.specs.declared.Mmbtu.{Mmbtu}
use Rattle.electric_rules.specs.Book as electric
use Rattle.steam_rules.specs.Opening as steam

-- the line of a bill, on either book
abbrev pub line_in : Result Answer Refusal → Cents
line_in (Ok (Line line)) = line
line_in (Ok (FiledLevels secondary primary)) = cents (pos 0)
line_in (Ok (Filed factor)) = cents (pos 0)
line_in (Ok (Interest secondary primary)) = cents (pos 0)
line_in (Ok Done) = cents (pos 0)
line_in (Err refusal) = cents (pos 0)

abbrev pub level_cents : Cents → Cents → LevelCents
level_cents secondary primary = record { secondary = secondary; primary = primary }

abbrev pub no_interest : LevelCents
no_interest = level_cents (cents (pos 0)) (cents (pos 0))

-- the interest of a month's end on the electric book
abbrev pub interest_in : Result Answer Refusal → LevelCents
interest_in (Ok (Line line)) = no_interest
interest_in (Ok (FiledLevels secondary primary)) = no_interest
interest_in (Ok (Filed factor)) = no_interest
interest_in (Ok (Interest secondary primary)) = level_cents secondary primary
interest_in (Ok Done) = no_interest
interest_in (Err refusal) = no_interest

abbrev pub level_points : Points → Points → LevelPoints
level_points secondary primary = record { secondary = secondary; primary = primary }

abbrev pub none_filed : LevelPoints
none_filed = level_points (points (pos 0)) (points (pos 0))

-- the factors of a settlement of the electric book
abbrev pub filed_levels_in : Result Answer Refusal → LevelPoints
filed_levels_in (Ok (Line line)) = none_filed
filed_levels_in (Ok (FiledLevels secondary primary)) = level_points secondary primary
filed_levels_in (Ok (Filed factor)) = none_filed
filed_levels_in (Ok (Interest secondary primary)) = none_filed
filed_levels_in (Ok Done) = none_filed
filed_levels_in (Err refusal) = none_filed

-- the factor of a settlement of the steam book
abbrev pub filed_in : Result Answer Refusal → Points
filed_in (Ok (Line line)) = points (pos 0)
filed_in (Ok (FiledLevels secondary primary)) = points (pos 0)
filed_in (Ok (Filed factor)) = factor
filed_in (Ok (Interest secondary primary)) = points (pos 0)
filed_in (Ok Done) = points (pos 0)
filed_in (Err refusal) = points (pos 0)

abbrev pub electric_reply_of : Result Answer Refusal → ElectricBook → ElectricReply
electric_reply_of answer book = record { number = answer_number answer; filed = filed_levels_in answer; line = line_in answer; interest = interest_in answer; book = book }

abbrev pub steam_reply_of : Result Answer Refusal → SteamBook → SteamReply
steam_reply_of answer book = record { number = answer_number answer; filed = filed_in answer; line = line_in answer; book = book }

-- what was given for a posting to a book
abbrev pub electric_reply : ElectricBook → Result (Posted ElectricBook) Refusal → ElectricReply
electric_reply b given = electric_reply_of (answer_given given) (book_given b given)

abbrev pub steam_reply : SteamBook → Result (Posted SteamBook) Refusal → SteamReply
steam_reply b given = steam_reply_of (answer_given given) (book_given b given)

-- an opening is done or refused, and hands back a book in either case
abbrev pub opening_answer : {Held : Type 0} → Result Held Refusal → Result Answer Refusal
opening_answer (Ok fresh) = Ok Done
opening_answer (Err refusal) = Err refusal

abbrev pub electric_opened : ℕ → ElectricReply
electric_opened division = electric_reply_of (opening_answer (electric.opened_of division)) (electric.handed_back division)

abbrev pub steam_opened : List Mmbtu → SteamReply
steam_opened quarters = steam_reply_of (opening_answer (steam.opened_of quarters)) (steam.handed_back quarters)
