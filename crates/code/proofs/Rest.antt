-- Where one station is absent, the rest of a diagonal is what stands on it.
use Rattle.std.proofs.Common.{◌≡◌, ℕ, ◌+◌, ◌%◌, ◌<◌, ◌≤◌, min, max, Bool, true, false, cond, not, ◌&&◌, ◌||◌, eqb, ◌≢◌, ◌⊎◌, sym, ap, ◌∙◌, inl, inr, arith}
use Rattle.std.proofs.lemmas.Bool.{cases_eq, both_ways, or_from}
use Rattle.std.proofs.lemmas.Bool.Decides.{nat_tests}
use Rattle.kinds.specs.Group.{Group}
use Rattle.code.specs.Rebuilt.{absentees, rest_of_diagonal}
use Rattle.code.specs.Rules.{Blocks, diagonal}
use Rattle.code.proofs.Rebuild.{one_absent}
use Rattle.code.proofs.Rows.{meets, ordered}
use Rattle.code.proofs.Sums.{tri_cong}

module _ {B : Type 0} (G : Group B) (n : ℕ) (absent : ℕ → Bool) (f : Blocks B) (a b : ℕ) (la : a < n) (lb : b < n) where
  open G use {none}

  abbrev u : ℕ
  u = max a b

  abbrev v : ℕ
  v = min a b

  -- s is absent and no other station is, and it is in the pair
  module _ (s : ℕ) (lost : absent s ≡ true) (others : (k : ℕ) → k < n → k ≢ s → absent k ≡ false) (is : (s ≡ u) ⊎ (s ≡ v)) where
    same_diagonal : (u + v) % n ≡ (a + b) % n
    same_diagonal = let e : u + v ≡ a + b = omega arith in ap (λ x. x % n) e

    here : (x y : ℕ) → x < n → y ≤ x → (x ≡ s) ⊎ (y ≡ s) → (x + y) % n ≡ (a + b) % n → (x ≡ u) × (y ≡ v)
    here x y lx ly at e = meets n u v x y s (omega arith) (omega arith) lx ly is at (e ∙ sym same_diagonal)

    term : (x y : ℕ) → x < n → y ≤ x
        → cond (eqb ((x + y) % n) ((a + b) % n)) (cond (absent x || absent y) none (f x y)) none
        ≡ cond (eqb ((x + y) % n) ((a + b) % n) && not (eqb x u && eqb y v)) (f x y) none
    term x y lx ly = go (cases_eq x s) (cases_eq y s)
      where
        ly' : y < n
        ly' = omega arith

        go : (x ≡ s) ⊎ (x ≢ s) → (y ≡ s) ⊎ (y ≢ s)
            → cond (eqb ((x + y) % n) ((a + b) % n)) (cond (absent x || absent y) none (f x y)) none
            ≡ cond (eqb ((x + y) % n) ((a + b) % n) && not (eqb x u && eqb y v)) (f x y) none
        go (inl e) q = let l : absent x ≡ true = ap absent e ∙ lost in grind (arith, nat_tests, here x y lx ly (inl e))
        go (inr d) (inl e) = let l : absent y ≡ true = ap absent e ∙ lost in grind (arith, nat_tests, here x y lx ly (inr e), others x lx d)
        go (inr d) (inr e) = grind (arith, nat_tests, others x lx d, others y ly' e)

  pub rest_stands : (absent a || absent b) ≡ true → absentees absent n ≡ 1 → diagonal G n (λ x y. cond (absent x || absent y) none (f x y)) ((a + b) % n) ≡ rest_of_diagonal G n f a b
  rest_stands lost count =
      let o : (s : ℕ) × (s < n) × (absent s ≡ true) × ((k : ℕ) → k < n → k ≢ s → absent k ≡ false) = one_absent absent n count in
      tri_cong G n (term o.0 o.2 o.3 (in_pair o.0 o.3))
    where
      in_pair : (s : ℕ) → ((k : ℕ) → k < n → k ≢ s → absent k ≡ false) → (s ≡ u) ⊎ (s ≡ v)
      in_pair s others = elim (cases_eq s a) [
        | inl e ↦ ordered (λ x y. (s ≡ x) ⊎ (s ≡ y)) a b (inl e) (inr e)
        | inr d ↦ elim (cases_eq s b) [
          | inl e ↦ ordered (λ x y. (s ≡ x) ⊎ (s ≡ y)) a b (inr e) (inl e)
          | inr e ↦ absurd (both_ways (absent a || absent b) (or_from (absent a) (absent b) (others a la (λ p. d (sym p))) (others b lb (λ p. e (sym p)))) lost)
        ]
      ]
