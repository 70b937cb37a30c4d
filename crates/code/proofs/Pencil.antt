-- The worked examples, by computed tests.
use Rattle.std.proofs.Common.{◌≡◌, ℕ, suc, ◌+◌, ◌-◌, ◌%◌, ◌<◌, ◌≤◌, min, max, Bool, true, false, not, ◌&&◌, ◌||◌, eqb, leb, List, [], ◌∷◌, sym, refl, ◌∙◌, arith, lit≤}
use mathlib.Core.Bool.{beq}
use Rattle.std.specs.Cmp.{booleans_Decides}
use Rattle.std.proofs.Math.Bool.{or-false}
use Rattle.std.proofs.lemmas.Bool.{and_parts, not-true, both_ways, le-leb}
use Rattle.kinds.specs.Bits.{bit_group}
use Rattle.code.specs.Examples.{listed_pair, DiagonalIs, PatternIs, Examples}
use Rattle.code.specs.Rules.{Blocks, neighbourhood, diagonal, Codeword}
use Rattle.code.specs.Sizes.{OddPrime, among, sizes}
use Rattle.code.proofs.Primes.{each_below, below_at, listed_prime, prime_listed}
use Rattle.code.proofs.Rebuild.{stands}
use Rattle.code.proofs.Rows.{of_le}

-- a test of each ordered pair of stations below n
abbrev each_pair : (ℕ → ℕ → Bool) → ℕ → Bool
each_pair f n = each_below (λ a. each_below (f a) (suc a)) n

pair_at : (f : ℕ → ℕ → Bool) (n : ℕ) → each_pair f n ≡ true → (a b : ℕ) → a < n → b ≤ a → f a b ≡ true
pair_at f n t a b la lb = below_at (f a) (suc a) (below_at (λ a. each_below (f a) (suc a)) n t a la) b (omega arith)

-- a diagonal
diagonal_by : (n m : ℕ) (xs : List (ℕ × ℕ)) → each_pair (λ a b. beq (eqb ((a + b) % n) m) (listed_pair xs a b)) n ≡ true → DiagonalIs n m xs
diagonal_by n m xs t a b la lb = (booleans_Decides (eqb ((a + b) % n) m) (listed_pair xs a b)).0 (pair_at (λ a b. beq (eqb ((a + b) % n) m) (listed_pair xs a b)) n t a b la lb)

-- the listed pairs and the pair itself are a codeword, and the pair is the only data pair among them
abbrev tested : ℕ → ℕ → ℕ → List (ℕ × ℕ) → Bool
tested n a b xs =
    each_below (λ h. not (neighbourhood bit_group n (listed_pair ((a, b) ∷ xs)) h)) n
    && each_below (λ m. not (diagonal bit_group n (listed_pair ((a, b) ∷ xs)) m)) n
    && each_pair (λ x y. beq (listed_pair ((a, b) ∷ xs) x y) (eqb x a && eqb y b)) (n - 2)
    && each_pair (λ x y. leb n (x + 2) && beq (listed_pair ((a, b) ∷ xs) x y) (listed_pair xs x y) || not (leb n (x + 2))) n

pattern_by : (n a b : ℕ) (xs : List (ℕ × ℕ)) → n % 2 ≡ 1 → 3 ≤ n → tested n a b xs ≡ true → PatternIs n a b xs
pattern_by n a b xs odd l t word code unit x y lx ly check =
    let w : Blocks Bool = listed_pair ((a, b) ∷ xs) in
    let p = and_parts (each_below (λ h. not (neighbourhood bit_group n w h)) n && each_below (λ m. not (diagonal bit_group n w m)) n && each_pair (λ x y. beq (w x y) (eqb x a && eqb y b)) (n - 2)) _ t in
    let q = and_parts (each_below (λ h. not (neighbourhood bit_group n w h)) n && each_below (λ m. not (diagonal bit_group n w m)) n) _ p.0 in
    let r = and_parts (each_below (λ h. not (neighbourhood bit_group n w h)) n) _ q.0 in
    let c : Codeword bit_group n w = record {
      neighbourhoods = λ h lh. not-true (neighbourhood bit_group n w h) (below_at (λ h. not (neighbourhood bit_group n w h)) n r.0 h lh);
      diagonals = λ m lm. not-true (diagonal bit_group n w m) (below_at (λ m. not (diagonal bit_group n w m)) n r.1 m lm);
    } in
    let d : (x y : ℕ) → x < n - 2 → y ≤ x → w x y ≡ (eqb x a && eqb y b) = (λ x y lx ly. (booleans_Decides (w x y) (eqb x a && eqb y b)).0 (pair_at (λ x y. beq (w x y) (eqb x a && eqb y b)) (n - 2) q.1 x y lx ly)) in
    sym (of_le word x y ly)
    ∙ ((stands bit_group).free n odd l).only word w code c
    (λ u v lu lv _. unit (max u v) (min u v) (omega arith) (omega arith) ∙ sym (d (max u v) (min u v) (omega arith) (omega arith))) x y lx (omega arith) tt
    ∙ of_le w x y ly
    ∙ last (w x y) (listed_pair xs x y) (leb n (x + 2)) (pair_at (λ x y. leb n (x + 2) && beq (w x y) (listed_pair xs x y) || not (leb n (x + 2))) n p.1 x y lx ly) (le-leb n (x + 2) check)
  where
    last : (u v c : Bool) → (c && beq u v || not c) ≡ true → c ≡ true → u ≡ v
    last u v true h e = (booleans_Decides u v).0 (sym (or-false (beq u v)) ∙ h)
    last u v false h e = absurd (both_ways false refl e)

-- a number that is not listed is no size
no_size : (n : ℕ) → among n sizes ≡ false → OddPrime n → ⊥
no_size n e p = both_ways (among n sizes) e (prime_listed n p)

pub examples : Examples
examples = record {
  two = no_size 2 refl;
  nine = no_size 9 refl;
  thirty_three = no_size 33 refl;
  three = listed_prime 3 refl;
  thirty_one = listed_prime 31 refl;
  place_4_2 = refl;
  place_30_30 = refl;
  diagonal_0 = diagonal_by 5 0 ((0, 0) ∷ (4, 1) ∷ (3, 2) ∷ []) refl;
  pattern_0_0 = pattern_by 5 0 0 ((3, 0) ∷ (4, 0) ∷ (3, 1) ∷ (4, 1) ∷ (4, 4) ∷ []) refl (lit≤ tt) refl;
  pattern_1_0 = pattern_by 5 1 0 ((3, 0) ∷ (4, 1) ∷ (3, 2) ∷ (4, 2) ∷ (4, 4) ∷ []) refl (lit≤ tt) refl;
  pattern_2_1 = pattern_by 5 2 1 ((3, 0) ∷ (4, 0) ∷ (3, 1) ∷ (4, 2) ∷ (3, 3) ∷ []) refl (lit≤ tt) refl;
  pattern_1_1 = pattern_by 5 1 1 ((3, 0) ∷ (3, 1) ∷ (3, 2) ∷ (3, 3) ∷ (4, 0) ∷ (4, 1) ∷ (4, 2) ∷ (4, 3) ∷ (4, 4) ∷ []) refl (lit≤ tt) refl;
  smallest_0_0 = pattern_by 3 0 0 ((1, 0) ∷ (1, 1) ∷ (2, 0) ∷ (2, 1) ∷ (2, 2) ∷ []) refl (lit≤ tt) refl;
}
