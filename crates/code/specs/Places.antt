-- The place of a pair: with a ≥ b, that of a and b is a (a + 1) / 2 + b.
use Rattle.std.specs.Prelude.{◌≡◌, ℕ, ◌+◌, ◌*◌, ◌/◌, ◌<◌, ◌≤◌, min, max}
use Rattle.code.specs.declared.places.Pair.{Pair}

-- of two stations in either order
abbrev pub pair_place : ℕ → ℕ → ℕ
pair_place a b = max a b * (max a b + 1) / 2 + min a b

-- x is the pair at place p, larger station first, and no other pair is
pub record PairAt (p : ℕ) (x : Pair) : Type 0 where
  pub ordered : x.smaller ≤ x.larger
  pub below : x.larger < 31
  pub placed : pair_place x.larger x.smaller ≡ p
  pub only : (a b : ℕ) → pair_place a b ≡ p → (max a b ≡ x.larger) × (min a b ≡ x.smaller)
