-- Bytes from a place on, and a block of 64 of them.
use Rattle.std.specs.Prelude.{◌≡◌, ℕ, zero, suc, List, [], ◌∷◌, length, slice_index, refl}
use Rattle.std.proofs.Common.{ap}
use Rattle.kinds.specs.declared.blocks.Block.{Block}

-- k bytes from i on, 0 where there is none
unfoldable pub part : List ℕ → ℕ → ℕ → List ℕ
part bs i zero = []
part bs i (suc k) = slice_index bs i ∷ part bs (suc i) k

pub length_part : (bs : List ℕ) (i k : ℕ) → length (part bs i k) ≡ k
unfolding part
length_part bs i zero = refl
length_part bs i (suc k) = ap suc (length_part bs (suc i) k)

-- the 64 bytes from i on as a block
abbrev pub block_at : List ℕ → ℕ → Block
block_at bs i = record { bytes = part bs i 64; long = length_part bs i 64 }
