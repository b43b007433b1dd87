-- Laws of digits: so many digits of a number that has no more make it, and digits are those of what they make. Assumes nothing.
use Rattle.std.specs.Prelude.{◌≡◌, refl, List, [], ◌∷◌, ◌++◌, ℕ, zero, suc, ◌+◌, ◌*◌, ◌/◌, ◌%◌, ◌^◌, ◌<◌, ◌≤◌, length}
use Rattle.std.proofs.Common.{sym, ap, ◌∙◌, subst, append_assoc, append-nil, arith, pow-suc, mul_assoc, zero-mul, one-mul, suc-mul, mul-le-mul_right, add-mul, div-one, div-lt_iff_lt-mul, div-add-mod', mod-eq_of_lt, pow-add, length-append}
use Rattle.std.proofs.Math.Nat.{pow-zero, pow-succ', div-div-eq-div-mul, mul-add-div_right, mul-add-mod_self_right}
use Rattle.ints.specs.Digits.{Digits, digits, value}

-- the value of two parts
pub value_append : (base : ℕ) (xs ys : List ℕ) → value base (xs ++ ys) ≡ value base xs * base ^ length ys + value base ys
unfolding value
value_append base [] ys = omega (arith, zero-mul (base ^ length ys))
value_append base (x ∷ xs) ys =
    let p : base ^ length (xs ++ ys) ≡ base ^ length xs * base ^ length ys = ap (λ (k : ℕ). base ^ k) (length-append xs ys) ∙ pow-add base (length xs) (length ys) in
    ap (λ (k : ℕ). x * k + value base (xs ++ ys)) p
    ∙ omega (arith, value_append base xs ys, mul_assoc x (base ^ length xs) (base ^ length ys), add-mul (x * base ^ length xs) (value base xs) (base ^ length ys))

pub value_digits : (base count n : ℕ) → 0 < base → n < base ^ count → value base (digits base count n) ≡ n
unfolding digits value
value_digits base zero n b h = omega (arith, pow-zero base)
value_digits base (suc count) n b h =
    let k : n / base < base ^ count = (div-lt_iff_lt-mul b).1 (subst (λ (m : ℕ). n < m) (pow-suc base count) h) in
    value_append base (digits base count (n / base)) (n % base ∷ [])
    ∙ (λ i. value_digits base count (n / base) b k i * pow_one i + one_digit i)
    ∙ div-add-mod' n base
  where
    pow_one : base ^ 1 ≡ base
    pow_one = pow-suc base 0 ∙ ap (λ (m : ℕ). m * base) (pow-zero base) ∙ one-mul base

    one_digit : n % base * base ^ 0 + 0 ≡ n % base
    one_digit = ap (λ (m : ℕ). n % base * m + 0) (pow-zero base) ∙ omega arith

pub length_digits : (base count n : ℕ) → length (digits base count n) ≡ count
unfolding digits
length_digits base zero n = refl
length_digits base (suc count) n =
    length-append (digits base count (n / base)) (n % base ∷ []) ∙ omega (arith, length_digits base count (n / base))

-- digits in two parts
pub digits_split : (base high low n : ℕ) → digits base (high + low) n ≡ digits base high (n / base ^ low) ++ digits base low n
unfolding digits
digits_split base high zero n =
    let e : high + 0 ≡ high = omega arith in
    let f : n ≡ n / base ^ 0 = sym (div-one n) ∙ ap (λ (k : ℕ). n / k) (sym (pow-zero base)) in
    (λ i. digits base (e i) (f i)) ∙ sym (append-nil (digits base high (n / base ^ 0)))
digits_split base high (suc low) n =
    let e : high + suc low ≡ suc (high + low) = omega arith in
    let f : n / base / base ^ low ≡ n / base ^ suc low = div-div-eq-div-mul n base (base ^ low) ∙ ap (λ (k : ℕ). n / k) (sym (pow-succ' base low)) in
    ap (λ (k : ℕ). digits base k n) e
    ∙ ap (λ (l : List ℕ). l ++ (n % base ∷ [])) (digits_split base high low (n / base))
    ∙ append_assoc (digits base high (n / base / base ^ low)) (digits base low (n / base)) (n % base ∷ [])
    ∙ ap (λ (k : ℕ). digits base high k ++ digits base (suc low) n) f

pub value_below : (base : ℕ) (ds : List ℕ) → Digits base ds → value base ds < base ^ length ds
unfolding value
value_below base [] h = omega (arith, pow-zero base)
value_below base (d ∷ ds) h =
    let p = base ^ length ds in
    let a : suc d * p ≤ base * p = mul-le-mul_right p h.0 in
    omega (arith, value_below base ds h.1, suc-mul d p, pow-succ' base (length ds))

-- the first of one digit more
front : (base count d n : ℕ) → d < base → n < base ^ count → digits base (suc count) (d * base ^ count + n) ≡ d ∷ digits base count n
unfolding digits
front base zero d n h k =
    let e : d * base ^ 0 + n ≡ d = ap (λ (m : ℕ). d * m + n) (pow-zero base) ∙ omega (arith, pow-zero base) in
    ap (λ (m : ℕ). m ∷ []) (ap (λ (m : ℕ). m % base) e ∙ mod-eq_of_lt h)
front base (suc count) d n h k =
    let b : 0 < base = omega arith in
    let e : d * base ^ suc count + n ≡ d * base ^ count * base + n = ap (λ (m : ℕ). d * m + n) (pow-suc base count) ∙ omega (arith, mul_assoc d (base ^ count) base) in
    let q : (d * base ^ suc count + n) / base ≡ d * base ^ count + n / base = ap (λ (m : ℕ). m / base) e ∙ mul-add-div_right b (d * base ^ count) n in
    let r : (d * base ^ suc count + n) % base ≡ n % base = ap (λ (m : ℕ). m % base) e ∙ mul-add-mod_self_right (d * base ^ count) base n in
    let l : n / base < base ^ count = (div-lt_iff_lt-mul b).1 (subst (λ (m : ℕ). n < m) (pow-suc base count) k) in
    (λ i. digits base (suc count) (q i) ++ (r i ∷ []))
    ∙ ap (λ (l : List ℕ). l ++ (n % base ∷ [])) (front base count d (n / base) h l)

pub digits_value : (base : ℕ) (ds : List ℕ) → Digits base ds → digits base (length ds) (value base ds) ≡ ds
unfolding value digits
digits_value base [] h = refl
digits_value base (d ∷ ds) h =
    front base (length ds) d (value base ds) h.0 (value_below base ds h.1) ∙ ap (λ (l : List ℕ). d ∷ l) (digits_value base ds h.1)

-- how the laws are used; nothing cites it
three_digits : (n : ℕ) → n < 1000 → value 10 (digits 10 3 n) ≡ n
three_digits n h = value_digits 10 3 n (omega arith) h
