-- Parts of bytes.
use Rattle.std.proofs.Common.{◌≡◌, ℕ, suc, ◌+◌, ◌<◌, List, [], ◌∷◌, length, get_or, refl, ap₂, add-zero, arith}
use Rattle.kinds.specs.Parts.{part}

-- a part that has the bytes of a list is that list
pub part_is : (bs : List ℕ) (i : ℕ) (xs : List ℕ) → ((j : ℕ) → j < length xs → get_or bs (i + j) 0 ≡ get_or xs j 0) → part bs i (length xs) ≡ xs
unfolding part
part_is bs i [] h = refl
part_is bs i (x ∷ xs) h =
    ap₂ ◌∷◌ (rw add-zero at (h 0 (omega arith))) (part_is bs (suc i) xs (λ j l. let e : suc i + j ≡ i + suc j = omega arith in rw e (h (suc j) (omega arith))))
