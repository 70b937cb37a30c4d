-- What exclusive or with one power of two does to the marks in a number.
use Rattle.std.proofs.Common.{◌≡◌, ℕ, ◌+◌, ◌%◌, ◌^◌, ◌<◌, ◌≤◌, false, cond, not, eqb, ◌≢◌, ◌⊎◌, ap, ◌∙◌, inl, inr, arith}
use native.Mathlib.Nat.{div-eq_of_lt}
use lib.Bits.{bit_xor}
use Rattle.std.specs.Int.{bit_at}
use Rattle.std.proofs.lemmas.Nat.{pow_below}
use Rattle.std.proofs.lemmas.Nat.Bits.{bit_at-lt, bit_at_xor, bit_at-pow_same, bit_at-pow_other}
use Rattle.std.proofs.lemmas.Bool.{cases_eq, cases_order}
use Rattle.std.proofs.lemmas.Bool.Decides.{nat_tests}
use Rattle.code.specs.Marks.{marked}

-- a number below a power of two has no mark from there on
pub unmarked : (bits w s : ℕ) → bits < 2 ^ w → w ≤ s → marked bits s ≡ false
unmarked bits w s l h = ap (λ q. eqb (q % 2) 1) (div-eq_of_lt (below (cases_order w s)))
  where
    below : (w ≡ s) ⊎ ((w < s) ⊎ (s < w)) → bits < 2 ^ s
    below (inl e) = omega (arith, ap (λ k. 2 ^ k) e)
    below (inr (inl m)) = omega (arith, pow_below w s m)
    below (inr (inr m)) = absurd (omega arith)

-- one mark turned, the others kept
pub toggled : (bits s k : ℕ) → marked (bit_xor bits (2 ^ s)) k ≡ cond (eqb k s) (not (marked bits k)) (marked bits k)
toggled bits s k = ap (λ q. eqb q 1) (bit_at_xor bits (2 ^ s) k) ∙ go (cases_eq k s)
  where
    low : bit_at bits k < 2
    low = bit_at-lt bits k

    go : (k ≡ s) ⊎ (k ≢ s) → eqb ((bit_at bits k + bit_at (2 ^ s) k) % 2) 1 ≡ cond (eqb k s) (not (marked bits k)) (marked bits k)
    go (inl e) = let p : bit_at (2 ^ s) k ≡ 1 = ap (bit_at (2 ^ s)) e ∙ bit_at-pow_same s in rw p (grind (arith, nat_tests))
    go (inr d) = let p : bit_at (2 ^ s) k ≡ 0 = bit_at-pow_other s k d in rw p (grind (arith, nat_tests))
