-- The listed sizes are the odd primes up to 31, by computed tests.
use Rattle.std.proofs.Common.{◌≡◌, ℕ, zero, suc, ◌%◌, ◌<◌, ◌≤◌, Bool, true, false, not, ◌&&◌, ◌||◌, eqb, ltb, leb, ◌≢◌, ◌⊎◌, refl, inl, inr, le_refl, not-suc-le-zero, below_more, arith}
use native.Mathlib.Nat.{le_step}
use Rattle.std.proofs.lemmas.Bool.{both_ways, eqb-true, ltb-true, leb-true, and_parts, and_from, or_cases, or_left, or_right, lt-ltb, ne_eqb, not_from_false, not-true, cases_lt, cases_Bool}
use Rattle.std.proofs.lemmas.Bool.Decides.{nat_tests}
use Rattle.code.specs.Sizes.{OddPrime, sizes, among}

-- what holds below n and at n holds below n + 1
pub upto : (P : ℕ → Type 0) (n : ℕ) → ((k : ℕ) → k < n → P k) → P n → (k : ℕ) → k < suc n → P k
upto P n h p k l = below_more P n h p k (omega arith)

-- a test that passes at each number below n
abbrev pub each_below : (ℕ → Bool) → ℕ → Bool
each_below f zero = true
each_below f (suc n) = f n && each_below f n

pub below_at : (f : ℕ → Bool) (n : ℕ) → each_below f n ≡ true → (k : ℕ) → k < n → f k ≡ true
below_at f zero t = λ k l. absurd (not-suc-le-zero l)
below_at f (suc n) t =
    let h : (f n ≡ true) × (each_below f n ≡ true) = and_parts (f n) (each_below f n) t in
    upto (λ k. f k ≡ true) n (below_at f n h.1) h.0

pub at_below : (f : ℕ → Bool) (n : ℕ) → ((k : ℕ) → k < n → f k ≡ true) → each_below f n ≡ true
at_below f zero h = refl
at_below f (suc n) h = and_from (f n) (each_below f n) (h n (le_refl (suc n))) (at_below f n (λ k l. h k (le_step l)))

-- c is no divisor of n other than 1
abbrev misses : ℕ → ℕ → Bool
misses n c = ltb c 2 || not (eqb (n % c) 0)

-- an odd number from 2 to 31 that no number from 2 to n - 1 divides
abbrev tested : ℕ → Bool
tested n = eqb (n % 2) 1 && leb n 31 && ltb 1 n && each_below (misses n) n

tested_prime : (n : ℕ) → tested n ≡ true → OddPrime n
tested_prime n t =
    let p : ((eqb (n % 2) 1 && leb n 31 && ltb 1 n) ≡ true) × (each_below (misses n) n ≡ true) = and_parts (eqb (n % 2) 1 && leb n 31 && ltb 1 n) (each_below (misses n) n) t in
    let q : ((eqb (n % 2) 1 && leb n 31) ≡ true) × (ltb 1 n ≡ true) = and_parts (eqb (n % 2) 1 && leb n 31) (ltb 1 n) p.0 in
    let r : (eqb (n % 2) 1 ≡ true) × (leb n 31 ≡ true) = and_parts (eqb (n % 2) 1) (leb n 31) q.0 in
    (eqb-true (n % 2) 1 r.0, leb-true n 31 r.1, (ltb-true 1 n q.1, λ c l m e. hit c l e (below_at (misses n) n p.1 c m)))
  where
    hit : (c : ℕ) → 1 < c → n % c ≡ 0 → misses n c ≡ true → ⊥
    hit c l e m = let z : ◌≡◌ {A = ℕ} 0 1 = grind (arith, nat_tests) in omega arith

prime_tested : (n : ℕ) → OddPrime n → tested n ≡ true
prime_tested n p =
    and_from (eqb (n % 2) 1 && leb n 31 && ltb 1 n) (each_below (misses n) n)
    (let o : n % 2 ≡ 1 = p.0 in let l : n ≤ 31 = p.1 in let m : 1 < n = p.2.0 in grind (arith, nat_tests))
    (at_below (misses n) n (λ c l. miss c l (cases_lt 1 c)))
  where
    open_miss : (c : ℕ) → n % c ≢ 0 → misses n c ≡ true
    open_miss c d = or_right (ltb c 2) (not (eqb (n % c) 0)) (not_from_false (eqb (n % c) 0) (ne_eqb (n % c) 0 d))

    miss : (c : ℕ) → c < n → (1 < c) ⊎ (c ≤ 1) → misses n c ≡ true
    miss c l (inl m) = open_miss c (p.2.1 c m l)
    miss c l (inr m) = or_left (ltb c 2) (not (eqb (n % c) 0)) (lt-ltb c 2 (omega arith))

-- the list has the tested numbers below 32 and no other
abbrev agrees : ℕ → Bool
agrees n = (not (among n sizes) || tested n) && (among n sizes || not (tested n))

agree : (n : ℕ) → n < 32 → agrees n ≡ true
agree = below_at agrees 32 refl

-- a listed number is at most 31
listed_below : (n : ℕ) → among n sizes ≡ true → n < 32
listed_below n t = grind (arith, nat_tests)

pub listed_prime : (n : ℕ) → among n sizes ≡ true → OddPrime n
listed_prime n t =
    tested_prime n
    (elim (or_cases (not (among n sizes)) (tested n) (and_parts (not (among n sizes) || tested n) (among n sizes || not (tested n)) (agree n (listed_below n t))).0) [
      | inl e ↦ absurd (both_ways (among n sizes) (not-true (among n sizes) e) t)
      | inr e ↦ e
    ])

pub prime_listed : (n : ℕ) → OddPrime n → among n sizes ≡ true
prime_listed n p =
    let l : n ≤ 31 = p.1 in
    elim (or_cases (among n sizes) (not (tested n)) (and_parts (not (among n sizes) || tested n) (among n sizes || not (tested n)) (agree n (omega arith))).1) [
      | inl e ↦ e
      | inr e ↦ absurd (both_ways (tested n) (not-true (tested n) e) (prime_tested n p))
    ]

-- a number that is no odd prime up to 31 is not listed
pub unlisted : (n : ℕ) → (OddPrime n → ⊥) → among n sizes ≡ false
unlisted n p = elim (cases_Bool (among n sizes)) [ inl e ↦ absurd (p (listed_prime n e)) | inr e ↦ e ]
