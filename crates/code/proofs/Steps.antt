-- Sums taken one term at a time, as a loop takes them.
use Rattle.std.proofs.Common.{◌≡◌, ℕ, ◌+◌, sym, refl, ◌∙◌, add-one}
use Rattle.kinds.specs.Group.{Group, sum_to}
use Rattle.code.proofs.Sums.{unit}

module _ {B : Type 0} (G : Group B) where
  open G use {none, sum as ◌⊕◌}

  infixl 60 ◌⊕◌
  -- a term that counts
  pub sum_more : (f : ℕ → B) (k : ℕ) (s x : B) → s ≡ sum_to G f k → x ≡ f k → s ⊕ x ≡ sum_to G f (k + 1)
  sum_more f k s x e h = rw (add-one, e, h)

  -- and one that is none
  pub sum_skip : (f : ℕ → B) (k : ℕ) (s : B) → s ≡ sum_to G f k → f k ≡ none → s ≡ sum_to G f (k + 1)
  sum_skip f k s e h = e ∙ sym (unit G (sum_to G f k)) ∙ sum_more f k (sum_to G f k) none refl (sym h)
