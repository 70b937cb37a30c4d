-- The 64-byte block as a block kind, summed byte by byte by exclusive or.
use Rattle.std.specs.Prelude.{◌≡◌, ℕ, suc, pred, List, [], ◌∷◌, length, replicate, bit_xor, refl}
use Rattle.std.proofs.Common.{sym, ◌∙◌, ap, ap₂}
use mathlib.Core.HLevel.{is_prop→PathP}
use Rattle.std.proofs.Math.Nat.{ℕ_set}
use Rattle.std.specs.Int.Bits.{xor_assoc, xor_self, xor_zero_r}
use Rattle.std.proofs.lemmas.Nat.{xor_comm}
use Rattle.kinds.specs.Group.{Group}
use Rattle.kinds.specs.declared.blocks.Block.{Block}

abbrev pub xors : List ℕ → List ℕ → List ℕ
xors [] ys = []
xors (x ∷ xs) [] = []
xors (x ∷ xs) (y ∷ ys) = bit_xor x y ∷ xors xs ys

-- sums of bytes keep the laws
pub xors_assoc : (xs ys zs : List ℕ) → xors (xors xs ys) zs ≡ xors xs (xors ys zs)
xors_assoc [] ys zs = refl
xors_assoc (x ∷ xs) [] zs = refl
xors_assoc (x ∷ xs) (y ∷ ys) [] = refl
xors_assoc (x ∷ xs) (y ∷ ys) (z ∷ zs) = ap₂ ◌∷◌ (xor_assoc x y z) (xors_assoc xs ys zs)

pub xors_comm : (xs ys : List ℕ) → xors xs ys ≡ xors ys xs
xors_comm [] [] = refl
xors_comm [] (y ∷ ys) = refl
xors_comm (x ∷ xs) [] = refl
xors_comm (x ∷ xs) (y ∷ ys) = ap₂ ◌∷◌ (xor_comm x y) (xors_comm xs ys)

pub xors_zeros : (xs : List ℕ) → xors xs (replicate (length xs) 0) ≡ xs
xors_zeros [] = refl
xors_zeros (x ∷ xs) = ap₂ ◌∷◌ (xor_zero_r x) (xors_zeros xs)

pub xors_self : (xs : List ℕ) → xors xs xs ≡ replicate (length xs) 0
xors_self [] = refl
xors_self (x ∷ xs) = ap₂ ◌∷◌ (xor_self x) (xors_self xs)

pub length_xors : (xs ys : List ℕ) → length xs ≡ length ys → length (xors xs ys) ≡ length xs
length_xors [] ys e = refl
length_xors (x ∷ xs) [] e = sym e
length_xors (x ∷ xs) (y ∷ ys) e = ap suc (length_xors xs ys (ap pred e))

-- blocks with the same bytes are the same
pub same_block : (x y : Block) → x.bytes ≡ y.bytes → x ≡ y
same_block x y e = λ i. record {
  bytes = e i;
  long = is_prop→PathP (λ k. length (e k) ≡ 64) (λ k. ℕ_set _ _) x.long y.long i;
}

abbrev pub zero_block : Block
zero_block = record { bytes = replicate 64 0; long = refl }

abbrev pub xor_block : Block → Block → Block
xor_block x y = record { bytes = xors x.bytes y.bytes; long = length_xors x.bytes y.bytes (x.long ∙ sym y.long) ∙ x.long }

pub zeros_of : (x : Block) → replicate (length x.bytes) 0 ≡ replicate {A = ℕ} 64 0
zeros_of x = ap (λ k. replicate k 0) x.long

abbrev pub byte_group : Group Block
byte_group = record {
  none = zero_block;
  sum = xor_block;
  assoc = λ x y z. same_block (xor_block (xor_block x y) z) (xor_block x (xor_block y z)) (xors_assoc x.bytes y.bytes z.bytes);
  comm = λ x y. same_block (xor_block x y) (xor_block y x) (xors_comm x.bytes y.bytes);
  unit = λ x. same_block (xor_block x zero_block) x (ap (xors x.bytes) (sym (zeros_of x)) ∙ xors_zeros x.bytes);
  self = λ x. same_block (xor_block x x) zero_block (xors_self x.bytes ∙ zeros_of x);
}
