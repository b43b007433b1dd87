-- The paper's journal and what it prints, whole (01, Text and the journal program). Proved in proofs/Examples.antt.
use Rattle.std.specs.Prelude.{◌≡◌, codes}
use Rattle.records.specs.Examples.{journal}
use Rattle.journal.specs.Journal.{journal_of}

abbrev pub ExampleHolds : Type 0
ExampleHolds = journal_of journal ≡ codes "1 1 done\n2 3 line 0.00\n3 4 refused 8\n"
