use Rattle.std.specs.Prelude.{◌≡◌, ℕ, zero, suc, ◌+◌, ◌-◌, ◌*◌, ◌%◌, ◌<◌, ◌≤◌, min, max, Bool, false, cond, not, ◌&&◌, ◌≢◌, ◌==◌}
use Rattle.kinds.specs.Group.{Group, sum_to}
use Rattle.code.specs.Rules.{Blocks, of, Codeword, Agree}
use Rattle.code.specs.Sizes.{Prime, OddPrime}

-- how many of the stations below n are absent
abbrev pub absentees : (ℕ → Bool) → ℕ → ℕ
absentees absent zero = 0
absentees absent (suc n) = absentees absent n + cond (absent n) 1 0

abbrev pub Kept : (ℕ → Bool) → ℕ → ℕ → Type 0
Kept absent a b = (absent a ≡ false) × (absent b ≡ false)

-- the sum of the other pairs of the diagonal of ⟨a,b⟩
abbrev pub rest_of_diagonal : {B : Type 0} → Group B → ℕ → Blocks B → ℕ → ℕ → B
rest_of_diagonal G n f a b =
    sum_to G (λ x. sum_to G (λ y. cond ((x + y) % n == (a + b) % n && not (x == max a b && y == min a b)) (f x y) G.none) (x + 1)) n

pub record Recovered {B : Type 0} (G : Group B) (n : ℕ) (absent : ℕ → Bool) (f : Blocks B) (a b : ℕ) (r : B) : Type 0 where
  pub stored : Kept absent a b → r ≡ of f a b
  pub one : (Kept absent a b → ⊥) → absentees absent n ≡ 1 → r ≡ rest_of_diagonal G n f a b
  pub two : (Kept absent a b → ⊥) → absentees absent n ≡ 2 → (g : Blocks B) × (Codeword G n g × Agree n (Kept absent) g f × (r ≡ of g a b))

-- a pair with neither i nor j
abbrev pub Without : ℕ → ℕ → ℕ → ℕ → Type 0
Without i j a b = (a ≢ i) × (a ≢ j) × (b ≢ i) × (b ≢ j)

-- the lost stations i and j can be rebuilt, and in one way only
pub record RebuildsPair {B : Type 0} (G : Group B) (n i j : ℕ) : Type 0 where
  pub exists : (f : Blocks B) → (g : Blocks B) × (Codeword G n g × Agree n (Without i j) g f)
  pub only : (f g : Blocks B) → Codeword G n f → Codeword G n g → Agree n (Without i j) f g → Agree n (λ _ _. Unit {0}) f g

-- any two lost stations can be rebuilt, and in one way only
pub record Rebuilds {B : Type 0} (G : Group B) (n : ℕ) : Type 0 where
  pub exists : (absent : ℕ → Bool) (f : Blocks B) → absentees absent n ≡ 2 → (g : Blocks B) × (Codeword G n g × Agree n (Kept absent) g f)
  pub only : (absent : ℕ → Bool) (f g : Blocks B) → absentees absent n ≡ 2 → Codeword G n f → Codeword G n g → Agree n (Kept absent) f g → Agree n (λ _ _. Unit {0}) f g

-- the pairs of the stations below n - 2 may hold any blocks, and these settle all the others
pub record Free {B : Type 0} (G : Group B) (n : ℕ) : Type 0 where
  pub exists : (f : Blocks B) → (g : Blocks B) × (Codeword G n g × Agree (n - 2) (λ _ _. Unit {0}) g f)
  pub only : (f g : Blocks B) → Codeword G n f → Codeword G n g → Agree (n - 2) (λ _ _. Unit {0}) f g → Agree n (λ _ _. Unit {0}) f g

-- a codeword that is none but at pairs with just one of i and j, and holds x at one of those
pub record Hidden {B : Type 0} (G : Group B) (n i j : ℕ) (x : B) (f : Blocks B) : Type 0 where
  pub code : Codeword G n f
  pub others : Agree n (Without i j) f (λ _ _. G.none)
  pub loop_i : of f i i ≡ G.none
  pub loop_j : of f j j ≡ G.none
  pub between : of f i j ≡ G.none
  pub shown : (k : ℕ) × (k < n) × (k ≢ i) × (k ≢ j) × (of f i k ≡ x)

-- where two lost stations can be rebuilt, and where they cannot
pub record Stands {B : Type 0} (G : Group B) : Type 0 where
  pub inverse : (n i j e : ℕ) → n % 2 ≡ 1 → i < j → j < n → ((j - i) * e) % n ≡ 1 → RebuildsPair G n i j
  pub every : (n : ℕ) → n % 2 ≡ 1 → ((d : ℕ) → 0 < d → d < n → (e : ℕ) × ((d * e) % n ≡ 1)) → Rebuilds G n
  pub prime : (n : ℕ) → n % 2 ≡ 1 → Prime n → Rebuilds G n
  pub size : (n : ℕ) → OddPrime n → Rebuilds G n
  pub free : (n : ℕ) → n % 2 ≡ 1 → 3 ≤ n → Free G n
  pub hidden : (n i j c : ℕ) → n % 2 ≡ 1 → i < j → j < n → 1 < c → n % c ≡ 0 → (j - i) % c ≡ 0 → (x : B) → (f : Blocks B) × Hidden G n i j x f
  pub cannot : (n i j c : ℕ) → n % 2 ≡ 1 → i < j → j < n → 1 < c → n % c ≡ 0 → (j - i) % c ≡ 0 → RebuildsPair G n i j → (x : B) → x ≡ G.none
