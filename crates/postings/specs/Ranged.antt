-- What a posting's numbers are where none is out of range: each is one that its field of the table may hold. Assumes nothing.
use Rattle.std.specs.Prelude.{◌≡◌, refl, ◌⊎◌, Bool, true, false, ◌||◌, List, [], ◌∷◌, ℕ, ℤ}
use Rattle.std.proofs.Common.{subst, inl, inr}
use Rattle.std.proofs.lemmas.Bool.{not-false}
use Rattle.ints.specs.Flags.{both}
use Rattle.ints.specs.Machine.{eq_z, eq_z_true}
use Rattle.ints.specs.Range.{Between, in_range_true}
use Rattle.postings.specs.Kinds.{Field, between, either, allows, kind_of, table_of, or_none, fields_of, numbers_of, in_fields, out_of_range}
use Rattle.postings.specs.declared.Book.{Book}
use Rattle.postings.specs.declared.kinds.Kind.{Kind}
use Rattle.postings.specs.declared.Posting.{Posting}

abbrev RangedBy : Field → ℤ → Type 0
RangedBy (between low high) z = Between low high z
RangedBy (either x y) z = (z ≡ x) ⊎ (z ≡ y)

abbrev AllRanged : List Field → List ℤ → Type 0
AllRanged [] numbers = Unit
AllRanged (f ∷ fields) [] = Unit
AllRanged (f ∷ fields) (z ∷ numbers) = RangedBy f z × AllRanged fields numbers

-- each number of a posting is one that its field of the kind may hold
abbrev pub Ranged : Book → Kind → Posting → Type 0
Ranged book kind p = AllRanged (or_none (table_of book kind)) (numbers_of p)

-- ---- from the tests

one_of : (s t : Bool) {x y z : ℤ} → (s ≡ true → z ≡ x) → (t ≡ true → z ≡ y) → s || t ≡ true → (z ≡ x) ⊎ (z ≡ y)
one_of true t f g e = inl (f refl)
one_of false t f g e = inr (g e)

ranged_by : (f : Field) (z : ℤ) → allows f z ≡ true → RangedBy f z
ranged_by (between low high) z e = in_range_true low high z e
ranged_by (either x y) z e = one_of (eq_z z x) (eq_z z y) (eq_z_true z x) (eq_z_true z y) e

all_ranged : (fields : List Field) (numbers : List ℤ) → in_fields fields numbers ≡ true → AllRanged fields numbers
all_ranged [] numbers e = tt
all_ranged (f ∷ fields) [] e = tt
all_ranged (f ∷ fields) (z ∷ numbers) e =
    let p = both (allows f z) (in_fields fields numbers) e in
    (ranged_by f z p.0, all_ranged fields numbers p.1)

pub none_out_of_range : (book : Book) (p : Posting) → out_of_range book p ≡ false → Ranged book (kind_of p.kind) p
unfolding out_of_range fields_of
none_out_of_range book p e = all_ranged (or_none (table_of book (kind_of p.kind))) (numbers_of p) (not-false _ e)

-- by a number that the kind's is known to be
pub ranged_as : (book : Book) (p : Posting) {n : ℕ} → p.kind ≡ n → Ranged book (kind_of p.kind) p → Ranged book (kind_of n) p
ranged_as book p e h = subst (λ (m : ℕ). Ranged book (kind_of m) p) e h
