-- The table of pairs follows the formula of places, by one computed test over all its entries.
use Rattle.std.proofs.Common.{◌≡◌, ℕ, zero, suc, ◌+◌, ◌*◌, ◌/◌, ◌<◌, ◌≤◌, min, max, Bool, true, ◌&&◌, eqb, ltb, leb, List, [], ◌∷◌, length, get_or, sym, refl, ap, ◌∙◌, inl, inr, not-suc-le-zero, zero-add, arith}
use native.Mathlib.Nat.{max-eq_left, min-eq_right}
use Rattle.std.proofs.lemmas.Bool.{and_parts, eqb-true, leb-true, ltb-true, cases_lt, cases_order}
use Rattle.code.specs.Places.{pair_place, PairAt}
use Rattle.code.specs.Sizes.{pairs}
use Rattle.code.specs.declared.places.Pair.{Pair}

-- a test that passes at each entry of a list and its place, counted from i
abbrev pub every : {X : Type 0} → (ℕ → X → Bool) → ℕ → List X → Bool
every f i [] = true
every f i (x ∷ xs) = f i x && every f (suc i) xs

every_at : {X : Type 0} (f : ℕ → X → Bool) (i : ℕ) (xs : List X) → every f i xs ≡ true → (k : ℕ) (d : X) → k < length xs → f (i + k) (get_or xs k d) ≡ true
every_at f i [] t k d l = absurd (not-suc-le-zero l)
every_at f i (x ∷ xs) t zero d l =
    let e : i + 0 ≡ i = omega arith in ap (λ j. f j x) e ∙ (and_parts (f i x) (every f (suc i) xs) t).0
every_at f i (x ∷ xs) t (suc k) d l =
    let e : i + suc k ≡ suc i + k = omega arith in
    ap (λ j. f j (get_or xs k d)) e ∙ every_at f (suc i) xs (and_parts (f i x) (every f (suc i) xs) t).1 k d (omega arith)

-- the places of the pairs whose larger station is a begin at a (a + 1) / 2
unfoldable pub triangle : ℕ → ℕ
triangle a = a * (a + 1) / 2

pub triangle_suc : (a : ℕ) → triangle (suc a) ≡ triangle a + suc a
unfolding triangle
triangle_suc a = let e : suc a * (suc a + 1) ≡ a * (a + 1) + 2 * suc a = omega arith in omega (arith, e)

pub triangle_mono : (a c : ℕ) → a ≤ c → triangle a ≤ triangle c
triangle_mono a zero l = let e : a ≡ 0 = omega arith in omega (arith, ap triangle e)
triangle_mono a (suc c) l = elim (cases_lt a (suc c)) [
  | inl m ↦ omega (arith, triangle_mono a c (omega arith), triangle_suc c)
  | inr m ↦ let e : a ≡ suc c = omega arith in omega (arith, ap triangle e)
]

-- two ordered pairs at one place are one pair
pub same_place : (a b c d : ℕ) → b ≤ a → d ≤ c → triangle a + b ≡ triangle c + d → (a ≡ c) × (b ≡ d)
same_place a b c d lb ld e = elim (cases_order a c) [
  | inl p ↦ (p, omega (arith, ap triangle p))
  | inr q ↦ elim q [
    | inl l ↦ absurd (omega (arith, triangle_mono (suc a) c l, triangle_suc a))
    | inr l ↦ absurd (omega (arith, triangle_mono (suc c) a l, triangle_suc c))
  ]
]

pub place_triangle : (a b : ℕ) → pair_place a b ≡ triangle (max a b) + min a b
unfolding triangle
place_triangle a b = refl

pub place_le : (a b : ℕ) → b ≤ a → pair_place a b ≡ triangle a + b
place_le a b l = place_triangle a b ∙ (λ i. triangle (max-eq_left l i) + min-eq_right l i)

abbrev p : ℕ → ℕ → Pair
p a b = record { larger = a; smaller = b }

unfoldable pub table : List Pair
table =
    p 0 0 ∷
    p 1 0 ∷ p 1 1 ∷
    p 2 0 ∷ p 2 1 ∷ p 2 2 ∷
    p 3 0 ∷ p 3 1 ∷ p 3 2 ∷ p 3 3 ∷
    p 4 0 ∷ p 4 1 ∷ p 4 2 ∷ p 4 3 ∷ p 4 4 ∷
    p 5 0 ∷ p 5 1 ∷ p 5 2 ∷ p 5 3 ∷ p 5 4 ∷ p 5 5 ∷
    p 6 0 ∷ p 6 1 ∷ p 6 2 ∷ p 6 3 ∷ p 6 4 ∷ p 6 5 ∷ p 6 6 ∷
    p 7 0 ∷ p 7 1 ∷ p 7 2 ∷ p 7 3 ∷ p 7 4 ∷ p 7 5 ∷ p 7 6 ∷ p 7 7 ∷
    p 8 0 ∷ p 8 1 ∷ p 8 2 ∷ p 8 3 ∷ p 8 4 ∷ p 8 5 ∷ p 8 6 ∷ p 8 7 ∷ p 8 8 ∷
    p 9 0 ∷ p 9 1 ∷ p 9 2 ∷ p 9 3 ∷ p 9 4 ∷ p 9 5 ∷ p 9 6 ∷ p 9 7 ∷ p 9 8 ∷ p 9 9 ∷
    p 10 0 ∷ p 10 1 ∷ p 10 2 ∷ p 10 3 ∷ p 10 4 ∷ p 10 5 ∷ p 10 6 ∷ p 10 7 ∷ p 10 8 ∷ p 10 9 ∷ p 10 10 ∷
    p 11 0 ∷ p 11 1 ∷ p 11 2 ∷ p 11 3 ∷ p 11 4 ∷ p 11 5 ∷ p 11 6 ∷ p 11 7 ∷ p 11 8 ∷ p 11 9 ∷ p 11 10 ∷ p 11 11 ∷
    p 12 0 ∷ p 12 1 ∷ p 12 2 ∷ p 12 3 ∷ p 12 4 ∷ p 12 5 ∷ p 12 6 ∷ p 12 7 ∷ p 12 8 ∷ p 12 9 ∷ p 12 10 ∷ p 12 11 ∷ p 12 12 ∷
    p 13 0 ∷ p 13 1 ∷ p 13 2 ∷ p 13 3 ∷ p 13 4 ∷ p 13 5 ∷ p 13 6 ∷ p 13 7 ∷ p 13 8 ∷ p 13 9 ∷ p 13 10 ∷ p 13 11 ∷ p 13 12 ∷ p 13 13 ∷
    p 14 0 ∷ p 14 1 ∷ p 14 2 ∷ p 14 3 ∷ p 14 4 ∷ p 14 5 ∷ p 14 6 ∷ p 14 7 ∷ p 14 8 ∷ p 14 9 ∷ p 14 10 ∷ p 14 11 ∷ p 14 12 ∷ p 14 13 ∷ p 14 14 ∷
    p 15 0 ∷ p 15 1 ∷ p 15 2 ∷ p 15 3 ∷ p 15 4 ∷ p 15 5 ∷ p 15 6 ∷ p 15 7 ∷ p 15 8 ∷ p 15 9 ∷ p 15 10 ∷ p 15 11 ∷ p 15 12 ∷ p 15 13 ∷ p 15 14 ∷ p 15 15 ∷
    p 16 0 ∷ p 16 1 ∷ p 16 2 ∷ p 16 3 ∷ p 16 4 ∷ p 16 5 ∷ p 16 6 ∷ p 16 7 ∷ p 16 8 ∷ p 16 9 ∷ p 16 10 ∷ p 16 11 ∷ p 16 12 ∷ p 16 13 ∷ p 16 14 ∷ p 16 15 ∷ p 16 16 ∷
    p 17 0 ∷ p 17 1 ∷ p 17 2 ∷ p 17 3 ∷ p 17 4 ∷ p 17 5 ∷ p 17 6 ∷ p 17 7 ∷ p 17 8 ∷ p 17 9 ∷ p 17 10 ∷ p 17 11 ∷ p 17 12 ∷ p 17 13 ∷ p 17 14 ∷ p 17 15 ∷ p 17 16 ∷ p 17 17 ∷
    p 18 0 ∷ p 18 1 ∷ p 18 2 ∷ p 18 3 ∷ p 18 4 ∷ p 18 5 ∷ p 18 6 ∷ p 18 7 ∷ p 18 8 ∷ p 18 9 ∷ p 18 10 ∷ p 18 11 ∷ p 18 12 ∷ p 18 13 ∷ p 18 14 ∷ p 18 15 ∷ p 18 16 ∷ p 18 17 ∷ p 18 18 ∷
    p 19 0 ∷ p 19 1 ∷ p 19 2 ∷ p 19 3 ∷ p 19 4 ∷ p 19 5 ∷ p 19 6 ∷ p 19 7 ∷ p 19 8 ∷ p 19 9 ∷ p 19 10 ∷ p 19 11 ∷ p 19 12 ∷ p 19 13 ∷ p 19 14 ∷ p 19 15 ∷ p 19 16 ∷ p 19 17 ∷ p 19 18 ∷ p 19 19 ∷
    p 20 0 ∷ p 20 1 ∷ p 20 2 ∷ p 20 3 ∷ p 20 4 ∷ p 20 5 ∷ p 20 6 ∷ p 20 7 ∷ p 20 8 ∷ p 20 9 ∷ p 20 10 ∷ p 20 11 ∷ p 20 12 ∷ p 20 13 ∷ p 20 14 ∷ p 20 15 ∷ p 20 16 ∷ p 20 17 ∷ p 20 18 ∷ p 20 19 ∷ p 20 20 ∷
    p 21 0 ∷ p 21 1 ∷ p 21 2 ∷ p 21 3 ∷ p 21 4 ∷ p 21 5 ∷ p 21 6 ∷ p 21 7 ∷ p 21 8 ∷ p 21 9 ∷ p 21 10 ∷ p 21 11 ∷ p 21 12 ∷ p 21 13 ∷ p 21 14 ∷ p 21 15 ∷ p 21 16 ∷ p 21 17 ∷ p 21 18 ∷ p 21 19 ∷ p 21 20 ∷ p 21 21 ∷
    p 22 0 ∷ p 22 1 ∷ p 22 2 ∷ p 22 3 ∷ p 22 4 ∷ p 22 5 ∷ p 22 6 ∷ p 22 7 ∷ p 22 8 ∷ p 22 9 ∷ p 22 10 ∷ p 22 11 ∷ p 22 12 ∷ p 22 13 ∷ p 22 14 ∷ p 22 15 ∷ p 22 16 ∷ p 22 17 ∷ p 22 18 ∷ p 22 19 ∷ p 22 20 ∷ p 22 21 ∷ p 22 22 ∷
    p 23 0 ∷ p 23 1 ∷ p 23 2 ∷ p 23 3 ∷ p 23 4 ∷ p 23 5 ∷ p 23 6 ∷ p 23 7 ∷ p 23 8 ∷ p 23 9 ∷ p 23 10 ∷ p 23 11 ∷ p 23 12 ∷ p 23 13 ∷ p 23 14 ∷ p 23 15 ∷ p 23 16 ∷ p 23 17 ∷ p 23 18 ∷ p 23 19 ∷ p 23 20 ∷ p 23 21 ∷ p 23 22 ∷ p 23 23 ∷
    p 24 0 ∷ p 24 1 ∷ p 24 2 ∷ p 24 3 ∷ p 24 4 ∷ p 24 5 ∷ p 24 6 ∷ p 24 7 ∷ p 24 8 ∷ p 24 9 ∷ p 24 10 ∷ p 24 11 ∷ p 24 12 ∷ p 24 13 ∷ p 24 14 ∷ p 24 15 ∷ p 24 16 ∷ p 24 17 ∷ p 24 18 ∷ p 24 19 ∷ p 24 20 ∷ p 24 21 ∷ p 24 22 ∷ p 24 23 ∷ p 24 24 ∷
    p 25 0 ∷ p 25 1 ∷ p 25 2 ∷ p 25 3 ∷ p 25 4 ∷ p 25 5 ∷ p 25 6 ∷ p 25 7 ∷ p 25 8 ∷ p 25 9 ∷ p 25 10 ∷ p 25 11 ∷ p 25 12 ∷ p 25 13 ∷ p 25 14 ∷ p 25 15 ∷ p 25 16 ∷ p 25 17 ∷ p 25 18 ∷ p 25 19 ∷ p 25 20 ∷ p 25 21 ∷ p 25 22 ∷ p 25 23 ∷ p 25 24 ∷ p 25 25 ∷
    p 26 0 ∷ p 26 1 ∷ p 26 2 ∷ p 26 3 ∷ p 26 4 ∷ p 26 5 ∷ p 26 6 ∷ p 26 7 ∷ p 26 8 ∷ p 26 9 ∷ p 26 10 ∷ p 26 11 ∷ p 26 12 ∷ p 26 13 ∷ p 26 14 ∷ p 26 15 ∷ p 26 16 ∷ p 26 17 ∷ p 26 18 ∷ p 26 19 ∷ p 26 20 ∷ p 26 21 ∷ p 26 22 ∷ p 26 23 ∷ p 26 24 ∷ p 26 25 ∷ p 26 26 ∷
    p 27 0 ∷ p 27 1 ∷ p 27 2 ∷ p 27 3 ∷ p 27 4 ∷ p 27 5 ∷ p 27 6 ∷ p 27 7 ∷ p 27 8 ∷ p 27 9 ∷ p 27 10 ∷ p 27 11 ∷ p 27 12 ∷ p 27 13 ∷ p 27 14 ∷ p 27 15 ∷ p 27 16 ∷ p 27 17 ∷ p 27 18 ∷ p 27 19 ∷ p 27 20 ∷ p 27 21 ∷ p 27 22 ∷ p 27 23 ∷ p 27 24 ∷ p 27 25 ∷ p 27 26 ∷ p 27 27 ∷
    p 28 0 ∷ p 28 1 ∷ p 28 2 ∷ p 28 3 ∷ p 28 4 ∷ p 28 5 ∷ p 28 6 ∷ p 28 7 ∷ p 28 8 ∷ p 28 9 ∷ p 28 10 ∷ p 28 11 ∷ p 28 12 ∷ p 28 13 ∷ p 28 14 ∷ p 28 15 ∷ p 28 16 ∷ p 28 17 ∷ p 28 18 ∷ p 28 19 ∷ p 28 20 ∷ p 28 21 ∷ p 28 22 ∷ p 28 23 ∷ p 28 24 ∷ p 28 25 ∷ p 28 26 ∷ p 28 27 ∷ p 28 28 ∷
    p 29 0 ∷ p 29 1 ∷ p 29 2 ∷ p 29 3 ∷ p 29 4 ∷ p 29 5 ∷ p 29 6 ∷ p 29 7 ∷ p 29 8 ∷ p 29 9 ∷ p 29 10 ∷ p 29 11 ∷ p 29 12 ∷ p 29 13 ∷ p 29 14 ∷ p 29 15 ∷ p 29 16 ∷ p 29 17 ∷ p 29 18 ∷ p 29 19 ∷ p 29 20 ∷ p 29 21 ∷ p 29 22 ∷ p 29 23 ∷ p 29 24 ∷ p 29 25 ∷ p 29 26 ∷ p 29 27 ∷ p 29 28 ∷ p 29 29 ∷
    p 30 0 ∷ p 30 1 ∷ p 30 2 ∷ p 30 3 ∷ p 30 4 ∷ p 30 5 ∷ p 30 6 ∷ p 30 7 ∷ p 30 8 ∷ p 30 9 ∷ p 30 10 ∷ p 30 11 ∷ p 30 12 ∷ p 30 13 ∷ p 30 14 ∷ p 30 15 ∷ p 30 16 ∷ p 30 17 ∷ p 30 18 ∷ p 30 19 ∷ p 30 20 ∷ p 30 21 ∷ p 30 22 ∷ p 30 23 ∷ p 30 24 ∷ p 30 25 ∷ p 30 26 ∷ p 30 27 ∷ p 30 28 ∷ p 30 29 ∷ p 30 30 ∷ []

right : ℕ → Pair → Bool
right k x = eqb (pair_place x.larger x.smaller) k && leb x.smaller x.larger && ltb x.larger 31

all_right : every right 0 table ≡ true
unfolding right table
all_right = refl

long : (k : ℕ) → k < 496 → k < length table
unfolding table
long k l = l

pub table_at : (k : ℕ) (d : Pair) → k < 496 → PairAt k (get_or table k d)
unfolding right
table_at k d l =
    let x : Pair = get_or table k d in
    let t : (eqb (pair_place x.larger x.smaller) k && leb x.smaller x.larger && ltb x.larger 31) ≡ true = rw zero-add at (every_at right 0 table all_right k d (long k l)) in
    go x t
  where
    go : (x : Pair) → (eqb (pair_place x.larger x.smaller) k && leb x.smaller x.larger && ltb x.larger 31) ≡ true → PairAt k x
    go x t =
        let u : ((eqb (pair_place x.larger x.smaller) k && leb x.smaller x.larger) ≡ true) × (ltb x.larger 31 ≡ true) = and_parts (eqb (pair_place x.larger x.smaller) k && leb x.smaller x.larger) (ltb x.larger 31) t in
        let v : (eqb (pair_place x.larger x.smaller) k ≡ true) × (leb x.smaller x.larger ≡ true) = and_parts (eqb (pair_place x.larger x.smaller) k) (leb x.smaller x.larger) u.0 in
        let placed : pair_place x.larger x.smaller ≡ k = eqb-true (pair_place x.larger x.smaller) k v.0 in
        let order : x.smaller ≤ x.larger = leb-true x.smaller x.larger v.1 in
        record {
          ordered = order;
          below = ltb-true x.larger 31 u.1;
          placed = placed;
          only = λ a b e. same_place (max a b) (min a b) x.larger x.smaller (omega arith) order
              (sym (place_triangle a b) ∙ e ∙ sym placed ∙ place_le x.larger x.smaller order);
        }

-- the places of n stations are those below n (n + 1) / 2
pub place_below : (n a b : ℕ) → a < n → b < n → pair_place a b < pairs n
unfolding triangle
place_below n a b la lb =
    let m : max a b < n = omega arith in
    let l : min a b ≤ max a b = omega arith in
    omega (arith, place_triangle a b, triangle_suc (max a b), triangle_mono (suc (max a b)) n m)

-- two pairs at one place are one pair
pub place_only : (a b c d : ℕ) → pair_place a b ≡ pair_place c d → (max a b ≡ max c d) × (min a b ≡ min c d)
place_only a b c d e =
    same_place (max a b) (min a b) (max c d) (min c d) (omega arith) (omega arith) (sym (place_triangle a b) ∙ e ∙ place_triangle c d)
