-- Record bytes read and written agree, both ways. Both statements are proved in proofs/RoundTrips.antt.
use Rattle.std.specs.Prelude.{◌≡◌, List, ◌++◌, ℕ, ◌+◌, ◌-◌, ◌≤◌, length, take, drop, Ok}
use Rattle.std.specs.Int.{w64}
use Rattle.std.proofs.Common.{SFits}
use Rattle.ints.specs.Digits.{Digits}
use Rattle.postings.specs.declared.Book.{Book}
use Rattle.postings.specs.declared.Posting.{Posting}
use Rattle.records.specs.Records.{found_at, read_of, record_written, record_left}

-- the numbers of the posting have 64 bits, as those of every posting in memory have
abbrev pub InWords : Posting → Type 0
InWords p = SFits w64 p.first × SFits w64 p.second × SFits w64 p.third

-- what was written into a buffer is read back as the posting, whatever stands before the buffer and in the rest of it
abbrev pub WrittenIsRead : Type 0
WrittenIsRead =
    (book : Book) (p : Posting) (before buffer : List ℕ) (n : ℕ) →
    InWords p →
    record_written book p buffer ≡ Ok n →
    read_of book (before ++ record_left book p buffer) (length before) ≡ found_at (length before + n) p

-- what was read is written as the bytes that it was read from, into any buffer that holds them
abbrev pub ReadIsWritten : Type 0
ReadIsWritten =
    (book : Book) (bytes buffer : List ℕ) (place next : ℕ) (p : Posting) →
    Digits 256 bytes →
    read_of book bytes place ≡ found_at next p →
    next - place ≤ length buffer →
    (record_written book p buffer ≡ Ok (next - place)) × (record_left book p buffer ≡ take (next - place) (drop place bytes) ++ drop (next - place) buffer)
