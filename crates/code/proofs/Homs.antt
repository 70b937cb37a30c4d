-- Codewords of bits as codewords of any block kind: d where the bit is 1, and none where it is 0.
use Rattle.std.proofs.Common.{◌≡◌, ℕ, zero, suc, ◌+◌, ◌-◌, ◌%◌, ◌≤◌, Bool, true, false, cond, eqb, sym, refl, ap, ◌∙◌}
use Rattle.kinds.specs.Bits.{bit_group, differ}
use Rattle.kinds.specs.Group.{Group, sum_to}
use Rattle.code.specs.Rules.{Blocks, of, neighbourhood, diagonal, Codeword, Agree}
use Rattle.code.proofs.Rebuild.{stands}
use Rattle.code.proofs.Sums.{unit_left, sum_cong}

module _ {B : Type 0} (G : Group B) (d : B) where
  open G use {none, sum as ◌⊕◌}

  infixl 60 ◌⊕◌
  abbrev pub image : Bool → B
  image t = cond t d none

  abbrev pub images : Blocks Bool → Blocks B
  images f u v = image (f u v)

  image_sum : (x y : Bool) → image (differ x y) ≡ image x ⊕ image y
  image_sum true true = sym (G.self d)
  image_sum true false = sym (G.unit d)
  image_sum false y = sym (unit_left G (image y))

  pub image_cond : (t x y : Bool) → cond t (image x) (image y) ≡ image (cond t x y)
  image_cond true x y = refl
  image_cond false x y = refl

  image_sums : (f : ℕ → Bool) (n : ℕ) → sum_to G (λ k. image (f k)) n ≡ image (sum_to bit_group f n)
  image_sums f zero = refl
  image_sums f (suc n) = ap (λ w. w ⊕ image (f n)) (image_sums f n) ∙ sym (image_sum (sum_to bit_group f n) (f n))

  image_neighbourhood : (n : ℕ) (f : Blocks Bool) (h : ℕ) → neighbourhood G n (images f) h ≡ image (neighbourhood bit_group n f h)
  image_neighbourhood n f h =
      sum_cong G {g = λ k. image (cond (eqb k h) false (of f h k))} n (λ k _. image_cond (eqb k h) false (of f h k))
      ∙ image_sums (λ k. cond (eqb k h) false (of f h k)) n

  abbrev term : ℕ → Blocks Bool → ℕ → Blocks Bool
  term n f m a b = cond (eqb ((a + b) % n) m) (f a b) false

  image_diagonal : (n : ℕ) (f : Blocks Bool) (m : ℕ) → diagonal G n (images f) m ≡ image (diagonal bit_group n f m)
  image_diagonal n f m =
      sum_cong G {g = λ a. image (sum_to bit_group (term n f m a) (a + 1))} n (λ a _.
      sum_cong G {g = λ b. image (term n f m a b)} (a + 1) (λ b _. image_cond (eqb ((a + b) % n) m) (f a b) false)
      ∙ image_sums (term n f m a) (a + 1))
      ∙ image_sums (λ a. sum_to bit_group (term n f m a) (a + 1)) n

  -- a codeword of bits is one of blocks
  pub image_code : (n : ℕ) (f : Blocks Bool) → Codeword bit_group n f → Codeword G n (images f)
  image_code n f code =
      record {
        neighbourhoods = λ h l. image_neighbourhood n f h ∙ ap image (code.neighbourhoods h l);
        diagonals = λ m l. image_diagonal n f m ∙ ap image (code.diagonals m l);
      }

  -- the codeword with the images of given bits at the data pairs
  pub record Imaged (n : ℕ) (f : Blocks Bool) (word : Blocks B) : Type 0 where
    pub bits : Blocks Bool
    pub code : Codeword bit_group n bits
    pub agrees : Agree (n - 2) (λ _ _. Unit {0}) bits f
    pub same : Agree n (λ _ _. Unit {0}) word (images bits)

  pub imaged : (n : ℕ) → n % 2 ≡ 1 → 3 ≤ n → (f : Blocks Bool) (word : Blocks B) → Codeword G n word → Agree (n - 2) (λ _ _. Unit {0}) word (images f) → Imaged n f word
  imaged n odd l f word code agree =
      let r = ((stands bit_group).free n odd l).exists f in
      record {
        bits = r.0;
        code = r.1.0;
        agrees = r.1.1;
        same = ((stands G).free n odd l).only word (images r.0) code (image_code n r.0 r.1.0) (λ a b la lb t. agree a b la lb t ∙ sym (ap image (r.1.1 a b la lb t)));
      }
