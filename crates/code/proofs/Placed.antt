-- How many places the pairs of 31 stations or fewer have, and whose they are.
use Rattle.std.proofs.Common.{ℕ, ◌<◌, ◌≤◌, inl, inr, arith}
use Rattle.std.proofs.lemmas.Bool.{cases_lt}
use Rattle.code.specs.Places.{pair_place}
use Rattle.code.specs.Sizes.{pairs}
use Rattle.code.proofs.Table.{triangle, triangle_mono, place_le}

-- at most 31 stations have at most 496 pairs
pub pairs_few : (n : ℕ) → n ≤ 31 → pairs n ≤ 496
unfolding triangle
pairs_few n l = triangle_mono n 31 l

-- a pair whose place is below the number of pairs of n stations is a pair of two of them
pub below_place : (n x y : ℕ) → y ≤ x → pair_place x y < pairs n → x < n
unfolding triangle
below_place n x y ly l = elim (cases_lt x n) [ inl h ↦ h | inr h ↦ absurd (omega (arith, place_le x y ly, triangle_mono n x h)) ]
