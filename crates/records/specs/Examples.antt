-- Records read by the definitions: those of document 01's journal (bytes in hexadecimal), and one with a credit. Proved in
-- proofs/Examples.antt.
use Rattle.std.specs.Prelude.{◌≡◌, List, [], ◌∷◌, ℕ, pos, neg_ℤ}
use Rattle.postings.specs.declared.Book.TheVariants.{Electric, Steam}
use Rattle.records.specs.Records.{found_at, read_of, posting_of}

-- 00 | 01 01 00000000001E8480 | 03 02 00000000000003E8 | 04 03 0000000000000001 0000000000000001
abbrev pub journal : List ℕ
journal =
    0x00
    ∷ 0x01 ∷ 0x01 ∷ 0x00 ∷ 0x00 ∷ 0x00 ∷ 0x00 ∷ 0x00 ∷ 0x1E ∷ 0x84 ∷ 0x80
    ∷ 0x03 ∷ 0x02 ∷ 0x00 ∷ 0x00 ∷ 0x00 ∷ 0x00 ∷ 0x00 ∷ 0x00 ∷ 0x03 ∷ 0xE8
    ∷ 0x04 ∷ 0x03 ∷ 0x00 ∷ 0x00 ∷ 0x00 ∷ 0x00 ∷ 0x00 ∷ 0x00 ∷ 0x00 ∷ 0x01 ∷ 0x00 ∷ 0x00 ∷ 0x00 ∷ 0x00 ∷ 0x00 ∷ 0x00 ∷ 0x00 ∷ 0x01
    ∷ []

-- a steam adjustment of −2 cents
abbrev credit : List ℕ
credit = 0x06 ∷ 0x01 ∷ 0xFF ∷ 0xFF ∷ 0xFF ∷ 0xFF ∷ 0xFF ∷ 0xFF ∷ 0xFF ∷ 0xFE ∷ []

-- a cost of 2,000,000 cents; a bill of 1,000 kWh, its level absent; a settlement with estimated sales of 1 and 1; the credit
abbrev pub ExamplesHold : Type 0
ExamplesHold =
    (read_of Electric journal 1 ∷ read_of Electric journal 11 ∷ read_of Electric journal 21 ∷ read_of Steam credit 0 ∷ [])
    ≡ (found_at 11 (posting_of 1 (pos 2000000 ∷ [])) ∷ found_at 21 (posting_of 3 (pos 0 ∷ pos 1000 ∷ [])) ∷ found_at 39 (posting_of 4 (pos 1 ∷ pos 1 ∷ [])) ∷ found_at 10 (posting_of 6 (neg_ℤ (pos 2) ∷ [])) ∷ [])
