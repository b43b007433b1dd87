-- Kinds of postings and their fields (01, Posting records): one table a book, from which the reader, the writer and refusals 2, 3 and 7
-- are worked out.
use Rattle.std.specs.Prelude.{◌≡◌, Bool, true, false, not, ◌&&◌, ◌||◌, List, [], ◌∷◌, map, ℕ, zero, suc, ◌^◌, ◌<◌, eqb, ℤ, pos, neg_ℤ, length, get_or, drop, Option, Some, None, is_none}
use Rattle.std.proofs.Common.{sym, arith, ne_eqb}
use Rattle.ints.specs.Machine.{eq_z}
use Rattle.ints.specs.Range.{in_range}
use Rattle.postings.specs.declared.Book.{Book}
use Rattle.postings.specs.declared.Book.TheVariants.{Electric, Steam}
use Rattle.postings.specs.declared.Posting.{Posting}
use Rattle.postings.specs.declared.kinds.Kind.{Kind}
pub use Rattle.postings.specs.declared.kinds.Kind.TheVariants.{Cost, Sales, Bill, Settle, MonthEnd, Adjust, Reconcile, Unknown}

-- what a field may hold: a number from low to high, or one of two
pub data Field : Type 0 where
  between : ℤ → ℤ → Field
  either : ℤ → ℤ → Field

abbrev up_to : ℕ → Field
up_to n = between (pos 0) (pos n)

abbrev plus_minus : ℕ → Field
plus_minus n = between (neg_ℤ (pos n)) (pos n)

-- level 0 secondary, 1 primary
abbrev level : Field
level = between (pos 0) (pos 1)

-- the kinds of the paper's table, in the order of their numbers, which begin at 1; any other number is unknown
abbrev pub kinds : List Kind
kinds = Unknown ∷ Cost ∷ Sales ∷ Bill ∷ Settle ∷ MonthEnd ∷ Adjust ∷ Reconcile ∷ []

unfoldable pub kind_of : ℕ → Kind
kind_of n = get_or kinds n Unknown

-- the number of a kind of the table; 0 is none's
abbrev pub number_of : Kind → ℕ
number_of Unknown = 0
number_of Cost = 1
number_of Sales = 2
number_of Bill = 3
number_of Settle = 4
number_of MonthEnd = 5
number_of Adjust = 6
number_of Reconcile = 7

-- whether a kind is this one
abbrev pub is_kind : Kind → Kind → Bool
is_kind kind other = eqb (number_of kind) (number_of other)

-- the paper's table: the fields of each kind, that of bit 0 first; none where the book has no such kind
abbrev pub table_of : Book → Kind → Option (List Field)
-- F, P, E
table_of Electric Cost = Some (plus_minus (10 ^ 10) ∷ plus_minus (10 ^ 10) ∷ plus_minus (10 ^ 10) ∷ [])
-- secondary, primary
table_of Electric Sales = Some (up_to (10 ^ 10) ∷ up_to (10 ^ 10) ∷ [])
-- level, u
table_of Electric Bill = Some (level ∷ plus_minus (10 ^ 9) ∷ [])
-- Rs, Rp
table_of Electric Settle = Some (between (pos 1) (pos (10 ^ 10)) ∷ between (pos 1) (pos (10 ^ 10)) ∷ [])
-- r
table_of Electric MonthEnd = Some (up_to 200000 ∷ [])
-- level, amount
table_of Electric Adjust = Some (level ∷ plus_minus (10 ^ 10) ∷ [])
table_of Electric Reconcile = None
table_of Electric Unknown = None
table_of Steam Cost = Some (plus_minus (10 ^ 10) ∷ [])
table_of Steam Sales = Some (up_to (10 ^ 8) ∷ [])
-- u
table_of Steam Bill = Some (plus_minus (10 ^ 7) ∷ [])
-- b
table_of Steam Settle = Some (plus_minus (10 ^ 8) ∷ [])
table_of Steam MonthEnd = Some []
-- n, g
table_of Steam Adjust = Some (plus_minus (10 ^ 10) ∷ up_to (10 ^ 11) ∷ [])
-- months, D
table_of Steam Reconcile = Some (either (pos 12) (pos 24) ∷ between (pos 1) (pos (10 ^ 8)) ∷ [])
table_of Steam Unknown = None

-- 2: kind not in the table for that book
unfoldable pub unknown_kind : Book → ℕ → Bool
unknown_kind book n = is_none (table_of book (kind_of n))

-- the fields of a kind, by its number
abbrev pub or_none : Option (List Field) → List Field
or_none None = []
or_none (Some fields) = fields

unfoldable pub fields_of : Book → ℕ → List Field
fields_of book n = or_none (table_of book (kind_of n))

-- the three numbers of a posting, and which of them are not 0
abbrev pub numbers_of : Posting → List ℤ
numbers_of p = p.first ∷ p.second ∷ p.third ∷ []

abbrev pub standing : List ℤ → List Bool
standing = map (λ (z : ℤ). not (eq_z z (pos 0)))

abbrev pub any_stands : List Bool → Bool
any_stands [] = false
any_stands (bit ∷ bits) = bit || any_stands bits

-- 3: standing bit, or nonzero number, that the kind lacks
unfoldable pub stands_beyond : List Field → List Bool → Bool
stands_beyond fields bits = any_stands (drop (length fields) bits)

unfoldable pub stray_number : Book → Posting → Bool
stray_number book p = stands_beyond (fields_of book p.kind) (standing (numbers_of p))

abbrev pub allows : Field → ℤ → Bool
allows (between low high) z = in_range low high z
allows (either x y) z = eq_z z x || eq_z z y

-- each number is one that its field may hold
abbrev pub in_fields : List Field → List ℤ → Bool
in_fields [] numbers = true
in_fields (f ∷ fields) [] = true
in_fields (f ∷ fields) (z ∷ numbers) = allows f z && in_fields fields numbers

-- 7: field out of range
unfoldable pub out_of_range : Book → Posting → Bool
out_of_range book p = not (in_fields (fields_of book p.kind) (numbers_of p))

-- ---- by kind

-- what holds of each kind of the table with its number, and of any number as an unknown kind, holds of every number with its kind
pub by_kind :
    (P : ℕ → Kind → Type 0) → P 1 Cost → P 2 Sales → P 3 Bill → P 4 Settle → P 5 MonthEnd → P 6 Adjust → P 7 Reconcile → ((n : ℕ) → P n Unknown) →
    (n : ℕ) → P n (kind_of n)
unfolding kind_of
by_kind P p1 p2 p3 p4 p5 p6 p7 other zero = other 0
by_kind P p1 p2 p3 p4 p5 p6 p7 other (suc zero) = p1
by_kind P p1 p2 p3 p4 p5 p6 p7 other (suc (suc zero)) = p2
by_kind P p1 p2 p3 p4 p5 p6 p7 other (suc (suc (suc zero))) = p3
by_kind P p1 p2 p3 p4 p5 p6 p7 other (suc (suc (suc (suc zero)))) = p4
by_kind P p1 p2 p3 p4 p5 p6 p7 other (suc (suc (suc (suc (suc zero))))) = p5
by_kind P p1 p2 p3 p4 p5 p6 p7 other (suc (suc (suc (suc (suc (suc zero)))))) = p6
by_kind P p1 p2 p3 p4 p5 p6 p7 other (suc (suc (suc (suc (suc (suc (suc zero))))))) = p7
by_kind P p1 p2 p3 p4 p5 p6 p7 other (suc (suc (suc (suc (suc (suc (suc (suc n)))))))) = other (suc (suc (suc (suc (suc (suc (suc (suc n))))))))

-- another number is of another kind
pub other_kind : (kind : Kind) → 0 < number_of kind → (n : ℕ) → (n ≡ number_of kind → ⊥) → is_kind kind (kind_of n) ≡ false
other_kind kind h =
    let other : (k : Kind) → (number_of k ≡ number_of kind → ⊥) → is_kind kind k ≡ false = λ k d. ne_eqb (number_of kind) (number_of k) (λ e. d (sym e)) in
    by_kind (λ n k. (n ≡ number_of kind → ⊥) → is_kind kind k ≡ false)
    (other Cost) (other Sales) (other Bill) (other Settle) (other MonthEnd) (other Adjust) (other Reconcile)
    (λ n d. other Unknown (λ e. omega arith))
