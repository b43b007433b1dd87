-- Laws of round(a/b), for the books. None names how a half goes: all follow from `nearest_near` and from going by sign.
-- Assumes nothing.
use Rattle.std.specs.Prelude.{◌≡◌, refl, true, false, ◌&&◌, ℕ, zero, suc, ◌+◌, ◌*◌, ◌/◌, ◌≤◌, ◌<◌, T, ℤ, pos, negsuc, neg_ℤ, nat_abs, ◌-ℤ◌, ◌*ℤ◌, ◌≤ℤ◌, ◌<ℤ◌}
use Rattle.std.proofs.Common.{sym, ◌∙◌, ap, ap₂, arith, le_trans, leb→le}
use Rattle.std.proofs.Math.IntN.{neg_ℤ-neg_ℤ}
use Rattle.std.specs.Int.Signed.{lt_z, ≤ℤ_refl}
use Rattle.ints.specs.Flags.{T_left, T_right}
use Rattle.ints.specs.Ring.{solve, ◌:*◌, ◌:=◌, neg}
use Rattle.ints.specs.Order.{signed, diff, minus, prod}
use Rattle.ints.specs.Range.{Between}
use Rattle.ints.specs.Bound.{Bound, abs_neg}
use Rattle.ints.specs.Exact.{Exact}
use Rattle.rounding.specs.Round.{nearest_of, with_sign, round}
use Rattle.rounding.specs.Nearest.{Near}
use Rattle.rounding.proofs.NearestLaws.{nearest_near, nearest_mono, nearest_exact, nearest_zero, nearest_small, nearest_by}

-- ---- by cases on the divisor

pub round_by : (a b : ℤ) → pos 0 <ℤ b → round a b ≡ with_sign a (nearest_of (nat_abs a) (nat_abs b))
unfolding round
round_by a b h = let t : lt_z b (pos 1) ≡ false = omega signed in simp t

round_above : (a : ℤ) (b : ℕ) → 0 < b → round a (pos b) ≡ with_sign a (nearest_of (nat_abs a) b)
round_above a b h = round_by a (pos b) (omega signed)

pub round_below : (a b : ℤ) → b <ℤ pos 1 → round a b ≡ pos 0
unfolding round
round_below a b h = let t : lt_z b (pos 1) ≡ true = omega signed in simp t

by_divisor : (P : ℤ → Type 0) (b : ℤ) → (b <ℤ pos 1 → P b) → ((k : ℕ) → 0 < k → P (pos k)) → P b
by_divisor P (pos zero) f g = f (record { lt = tt })
by_divisor P (pos (suc k)) f g = g (suc k) (omega arith)
by_divisor P (negsuc k) f g = f (record { lt = tt })

-- ---- 2 × |a − b × round(a/b)| ≤ b

sign_near : (a : ℤ) (b q : ℕ) → Near (nat_abs a) b q → Between (neg_ℤ (pos b)) (pos b) (pos 2 *ℤ (a -ℤ pos b *ℤ with_sign a q))
sign_near (pos n) b q h = omega (signed, minus (pos b), diff (pos n) (pos (b * q)), prod (pos 2) (pos n -ℤ pos (b * q)))
sign_near (negsuc n) b q h =
    rw (solve 2 (λ b q. b :* neg q := neg (b :* q)) tt (pos b) (pos q))
    (omega (signed, minus (pos b), minus (pos (b * q)), diff (negsuc n) (neg_ℤ (pos (b * q))), prod (pos 2) (negsuc n -ℤ neg_ℤ (pos (b * q)))))

pub round_near : (a b : ℤ) → pos 0 <ℤ b → Between (neg_ℤ b) b (pos 2 *ℤ (a -ℤ b *ℤ round a b))
round_near a (pos b) h =
    let k : 0 < b = omega signed in
    rw (round_above a b k) (sign_near a b (nearest_of (nat_abs a) b) (nearest_near (nat_abs a) b k))
round_near a (negsuc b) h = absurd h.lt

-- what rounding leaves is at most half of an even divisor
pub round_leaves : (half : ℕ) (a : ℤ) → 0 < half → Between (neg_ℤ (pos half)) (pos half) (a -ℤ pos (2 * half) *ℤ round a (pos (2 * half)))
round_leaves half a h =
    let left = a -ℤ pos (2 * half) *ℤ round a (pos (2 * half)) in
    omega (signed, round_near a (pos (2 * half)) (omega signed), prod (pos 2) left, minus (pos half), minus (pos (2 * half)))

-- ---- round(−a/b) = −round(a/b)

sign_neg : (a : ℤ) (b : ℕ) → 0 < b → with_sign (neg_ℤ a) (nearest_of (nat_abs (neg_ℤ a)) b) ≡ neg_ℤ (with_sign a (nearest_of (nat_abs a) b))
sign_neg (pos zero) b h = simp (nearest_zero b h)
sign_neg (pos (suc n)) b h = refl
sign_neg (negsuc n) b h = sym (neg_ℤ-neg_ℤ (pos (nearest_of (suc n) b)))

pub round_neg : (a b : ℤ) → round (neg_ℤ a) b ≡ neg_ℤ (round a b)
round_neg a b =
    by_divisor (λ b. round (neg_ℤ a) b ≡ neg_ℤ (round a b)) b (λ h. simp (round_below (neg_ℤ a) b h, round_below a b h))
    (λ k h. round_above (neg_ℤ a) k h ∙ sign_neg a k h ∙ sym (ap neg_ℤ (round_above a k h)))

-- ---- monotone

sign_mono : (x y : ℤ) (b : ℕ) → 0 < b → x ≤ℤ y → with_sign x (nearest_of (nat_abs x) b) ≤ℤ with_sign y (nearest_of (nat_abs y) b)
sign_mono (pos n) (pos m) b h k = let e = nearest_mono n m b h (leb→le n m k.le) in omega signed
sign_mono (pos n) (negsuc m) b h k = absurd k.le
sign_mono (negsuc n) (pos m) b h k = omega (signed, minus (pos (nearest_of (suc n) b)))
sign_mono (negsuc n) (negsuc m) b h k =
    let e = nearest_mono (suc m) (suc n) b h (omega (arith, leb→le m n k.le)) in
    omega (signed, minus (pos (nearest_of (suc n) b)), minus (pos (nearest_of (suc m) b)))

pub round_mono : (x y b : ℤ) → x ≤ℤ y → round x b ≤ℤ round y b
round_mono x y b k =
    by_divisor (λ b. round x b ≤ℤ round y b) b (λ h. rw (round_below x b h, round_below y b h) (≤ℤ_refl (pos 0)))
    (λ d h. rw (round_above x d h, round_above y d h) (sign_mono x y d h k))

-- ---- exact at multiples

pub round_exact : (q b : ℤ) → pos 0 <ℤ b → round (b *ℤ q) b ≡ q
round_exact (pos q) (pos b) h = let k : 0 < b = omega signed in round_above (pos (b * q)) b k ∙ ap pos (nearest_exact q b k)
round_exact (negsuc q) (pos b) h =
    let k : 0 < b = omega signed in
    round_neg (pos (b * suc q)) (pos b) ∙ ap neg_ℤ (round_above (pos (b * suc q)) b k ∙ ap pos (nearest_exact (suc q) b k))
round_exact q (negsuc b) h = absurd h.lt

-- ---- ranges: b × low ≤ a ≤ b × high gives low ≤ round(a/b) ≤ high

pub round_between : (low high a b : ℤ) → pos 0 <ℤ b → Between (b *ℤ low) (b *ℤ high) a → Between low high (round a b)
round_between low high a b h k =
    record {
      above = rw (round_exact low b h) at (round_mono (b *ℤ low) a b k.above);
      below = rw (round_exact high b h) at (round_mono a (b *ℤ high) b k.below);
    }

-- ---- for `search`: the size of a rounded quotient, and its exact value

sign_abs : (a : ℤ) (n : ℕ) → nat_abs (with_sign a n) ≡ n
sign_abs (pos a) n = refl
sign_abs (negsuc a) n = abs_neg (pos n)

pub round_size : (a b : ℤ) → nat_abs (round a b) ≤ nat_abs a
round_size a b =
    by_divisor (λ b. nat_abs (round a b) ≤ nat_abs a) b (λ h. rw (round_below a b h) (omega arith))
    (λ k h. rw (round_above a k h, sign_abs) (nearest_small (nat_abs a) k h))

pub round_size_by : (a b : ℤ) (n : ℕ) → nat_abs a ≤ n → nat_abs (round a b) ≤ n / nat_abs b + 1
round_size_by a b n l =
    by_divisor (λ b. nat_abs (round a b) ≤ n / nat_abs b + 1) b (λ h. rw (round_below a b h) (omega arith))
    (λ k h. rw (round_above a k h, sign_abs) (nearest_by (nat_abs a) n k h l))

pub round_same : {x y b d : ℤ} (p : Exact x y) (q : Exact b d) → T (p.ok && q.ok) → round x b ≡ round y d
round_same p q t = ap₂ round (p.same (T_left p.ok q.ok t)) (q.same (T_right p.ok q.ok t))

-- by a numeral: at one above zero the test computes
abbrev pub b_round : {a : ℤ} (b : ℤ) → T (lt_z (pos 0) b) → Bound a → Bound (round a b)
b_round {a} b t p = record { size = p.size / nat_abs b + 1; bound = round_size_by a b p.size p.bound }

abbrev pub e_round : {x y b d : ℤ} → T (lt_z (pos 0) d) → Exact x y → Exact b d → Exact (round x b) (round y d)
e_round {d = d} t p q = record { size = b_round d t p.size; ok = p.ok && q.ok; same = round_same p q }

pub ruleset rounds = (b_round, e_round, tt)

-- by any divisor
abbrev pub b_round_any : {a : ℤ} (b : ℤ) → Bound a → Bound (round a b)
b_round_any {a} b p = record { size = p.size; bound = le_trans (round_size a b) p.bound }

abbrev pub e_round_any : {x y b d : ℤ} → Exact x y → Exact b d → Exact (round x b) (round y d)
e_round_any {d = d} p q = record { size = b_round_any d p.size; ok = p.ok && q.ok; same = round_same p q }

pub ruleset rounds_any = (b_round_any, e_round_any)
