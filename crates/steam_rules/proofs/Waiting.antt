-- No month's end of the steam book leads from a pending amount to a clear month, by its calendar. Assumes nothing.
use lib.Dec.{T}
use Rattle.riders.specs.Months.{month_after}
use Rattle.riders.specs.Waiting.{clear, all_turn}
use Rattle.steam_rules.specs.Calendar.{settles, entering}

pub months_turn : T (all_turn settles entering)
unfolding clear settles entering month_after
months_turn = tt
