-- Worked examples of sizes, places, diagonals and patterns, as one statement about the rules.
use Rattle.std.specs.Prelude.{◌≡◌, ℕ, ◌+◌, ◌%◌, ◌<◌, ◌≤◌, Bool, false, ◌&&◌, ◌||◌, List, [], ◌∷◌, ◌==◌}
use Rattle.kinds.specs.Bits.{bit_group}
use Rattle.code.specs.Places.{pair_place}
use Rattle.code.specs.Rules.{Blocks, Codeword}
use Rattle.code.specs.Sizes.{OddPrime}

-- a pair in a list of pairs, larger station first
abbrev pub listed_pair : List (ℕ × ℕ) → ℕ → ℕ → Bool
listed_pair [] a b = false
listed_pair (x ∷ xs) a b = (a == x.0 && b == x.1) || listed_pair xs a b

-- the pairs of diagonal m
abbrev pub DiagonalIs : ℕ → ℕ → List (ℕ × ℕ) → Type 0
DiagonalIs n m xs = (a b : ℕ) → a < n → b ≤ a → ((a + b) % n == m) ≡ listed_pair xs a b

-- the pattern of the data pair of a and b: in the codeword of bits with 1 there and 0 at the other data pairs, the check
-- pairs that are 1 are those of the list
abbrev pub PatternIs : ℕ → ℕ → ℕ → List (ℕ × ℕ) → Type 0
PatternIs n a b xs =
    (word : Blocks Bool) → Codeword bit_group n word → ((x y : ℕ) → x + 2 < n → y ≤ x → word x y ≡ (x == a && y == b))
    → (x y : ℕ) → x < n → y ≤ x → n ≤ x + 2 → word x y ≡ listed_pair xs x y

pub record Examples : Type 0 where
  pub two : OddPrime 2 → ⊥
  pub nine : OddPrime 9 → ⊥
  pub thirty_three : OddPrime 33 → ⊥
  pub three : OddPrime 3
  pub thirty_one : OddPrime 31
  pub place_4_2 : pair_place 4 2 ≡ 12
  pub place_30_30 : pair_place 30 30 ≡ 495
  pub diagonal_0 : DiagonalIs 5 0 ((0, 0) ∷ (4, 1) ∷ (3, 2) ∷ [])
  pub pattern_0_0 : PatternIs 5 0 0 ((3, 0) ∷ (4, 0) ∷ (3, 1) ∷ (4, 1) ∷ (4, 4) ∷ [])
  pub pattern_1_0 : PatternIs 5 1 0 ((3, 0) ∷ (4, 1) ∷ (3, 2) ∷ (4, 2) ∷ (4, 4) ∷ [])
  pub pattern_2_1 : PatternIs 5 2 1 ((3, 0) ∷ (4, 0) ∷ (3, 1) ∷ (4, 2) ∷ (3, 3) ∷ [])
  pub pattern_1_1 : PatternIs 5 1 1 ((3, 0) ∷ (3, 1) ∷ (3, 2) ∷ (3, 3) ∷ (4, 0) ∷ (4, 1) ∷ (4, 2) ∷ (4, 3) ∷ (4, 4) ∷ [])
  pub smallest_0_0 : PatternIs 3 0 0 ((1, 0) ∷ (1, 1) ∷ (2, 0) ∷ (2, 1) ∷ (2, 2) ∷ [])
