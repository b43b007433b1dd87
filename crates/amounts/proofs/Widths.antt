-- How many digits a number has, by the power of ten that it reaches, and by four digits at a time. Assumes nothing.
use Rattle.std.proofs.Common.{◌≡◌, refl, sym, ap, ◌∙◌, true, false, cond, Bool, ℕ, zero, suc, ◌+◌, ◌*◌, ◌/◌, ◌^◌, ◌<◌, ◌≤◌, ltb, arith, pow-suc}
use Rattle.std.proofs.Math.Nat.{one-le-pow}
use borrow.Author.Tests.{lt-ltb, le-ltb, ltb-true, ltb-false}
use Rattle.amounts.specs.Text.{width_in, width_of, EnoughRoom}

pub enough_room : EnoughRoom
unfolding width_in
enough_room zero zero n h k = refl
enough_room zero (suc b) n h k = sym (ap (λ (t : Bool). cond t 1 (suc (width_in b (n / 10)))) (lt-ltb n 10 (omega arith)))
enough_room (suc a) zero n h k = ap (λ (t : Bool). cond t 1 (suc (width_in a (n / 10)))) (lt-ltb n 10 (omega arith))
enough_room (suc a) (suc b) n h k = ap (λ (w : ℕ). cond (ltb n 10) 1 (suc w)) (enough_room a b (n / 10) (omega arith) (omega arith))

pub one_digit : (n : ℕ) → n < 10 → width_of n ≡ 1
unfolding width_of width_in
one_digit zero h = refl
one_digit (suc n) h = ap (λ (t : Bool). cond t 1 (suc (width_in n (suc n / 10)))) (lt-ltb (suc n) 10 h)

more_digits : (n : ℕ) → 10 ≤ n → width_of n ≡ suc (width_of (n / 10))
unfolding width_of width_in
more_digits zero h = absurd (omega arith)
more_digits (suc n) h =
    ap (λ (t : Bool). cond t 1 (suc (width_in n (suc n / 10)))) (le-ltb (suc n) 10 h)
    ∙ ap suc (enough_room n (suc n / 10) (suc n / 10) (omega arith) (omega arith))

-- a number from one power of ten up to the next has one digit more than the power says
pub width_by_power : (k n : ℕ) → 10 ^ k ≤ n → n < 10 * 10 ^ k → width_of n ≡ k + 1
width_by_power zero n h l = one_digit n l
width_by_power (suc k) n h l =
    let power : 10 ^ suc k ≡ 10 ^ k * 10 = pow-suc 10 k in
    let some : 1 ≤ 10 ^ k = one-le-pow k 10 (omega arith) in
    let less : 10 ^ k ≤ n / 10 = omega arith in
    let more : n / 10 < 10 * 10 ^ k = omega arith in
    omega (arith, more_digits n (omega arith), width_by_power k (n / 10) less more)

-- from ten thousand on, the last four digits are counted apart
pub width_by_fours : (n : ℕ) → 10_000 ≤ n → 4 + width_of (n / 10_000) ≡ width_of n
width_by_fours n h =
    let tens : n / 10 / 10 / 10 / 10 ≡ n / 10_000 = omega arith in
    omega
    (arith, ap width_of tens, more_digits n (omega arith), more_digits (n / 10) (omega arith), more_digits (n / 10 / 10) (omega arith), more_digits (n / 10 / 10 / 10) (omega arith))

-- a number below 10 to some power has no more digits than that
pub width_most : (more n : ℕ) → n < 10 ^ suc more → width_of n ≤ suc more
width_most zero n h = omega (arith, one_digit n h)
width_most (suc more) n h = go (ltb n 10) refl (width_most more (n / 10))
  where
    go : (t : Bool) → ltb n 10 ≡ t → (n / 10 < 10 ^ suc more → width_of (n / 10) ≤ suc more) → width_of n ≤ suc (suc more)
    go true e most = omega (arith, one_digit n (ltb-true n 10 e))
    go false e most =
        let small : n < 10 ^ suc more * 10 = omega (arith, pow-suc 10 (suc more)) in
        omega (arith, more_digits n (ltb-false n 10 e), most (omega arith))

-- a number below 10 to some power needs no more steps than that
pub few_steps : (more n : ℕ) → n < 10 ^ suc more → width_in more n ≡ width_of n
unfolding width_in
few_steps zero n h = sym (one_digit n h)
few_steps (suc more) n h = go (ltb n 10) refl (few_steps more (n / 10))
  where
    go : (t : Bool) → ltb n 10 ≡ t → (n / 10 < 10 ^ suc more → width_in more (n / 10) ≡ width_of (n / 10)) → cond t 1 (suc (width_in more (n / 10))) ≡ width_of n
    go true e more_is = sym (one_digit n (ltb-true n 10 e))
    go false e more_is =
        let small : n < 10 ^ suc more * 10 = omega (arith, pow-suc 10 (suc more)) in
        ap suc (more_is (omega arith)) ∙ sym (more_digits n (ltb-false n 10 e))
