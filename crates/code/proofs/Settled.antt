-- What is recovered from blocks that agree with a codeword at each pair that stands is the codeword's block.
use Rattle.std.proofs.Common.{◌≡◌, ℕ, ◌+◌, ◌%◌, ◌<◌, ◌≤◌, Bool, true, false, cond, ◌||◌, ◌≢◌, ◌⊎◌, sym, ap, ◌∙◌, inl, inr, mod-lt, add_comm, arith}
use Rattle.std.proofs.lemmas.Bool.{cases_eq, cases_Bool, both_ways, or_left, or_right, or_from}
use Rattle.std.proofs.lemmas.Bool.Decides.{nat_tests}
use Rattle.kinds.specs.Group.{Group}
use Rattle.code.specs.Rebuilt.{absentees, Kept, Recovered}
use Rattle.code.specs.Rules.{Blocks, of, diagonal, Codeword, Agree}
use Rattle.code.specs.Sizes.{OddPrime}
use Rattle.code.proofs.Rebuild.{none_absent, one_absent, stands}
use Rattle.code.proofs.Rest.{rest_stands}
use Rattle.code.proofs.Rows.{wipe, of_le, of_swap, diagonal_cong, diagonal_wipe}
use Rattle.code.proofs.Sums.{equal}

-- a pair with an absent station does not stand
pub not_kept : (absent : ℕ → Bool) (a b : ℕ) → (absent a || absent b) ≡ true → Kept absent a b → ⊥
not_kept absent a b e k = both_ways (absent a || absent b) (or_from (absent a) (absent b) k.0 k.1) e

module _ {B : Type 0} (G : Group B) (n : ℕ) (prime : OddPrime n) (absent : ℕ → Bool) (f g : Blocks B)
    (code : Codeword G n g) (agree : Agree n (Kept absent) f g) where
  open G use {none}

  -- one station is absent
  module _ (s : ℕ) (ls : s < n) (lost : absent s ≡ true) (others : (k : ℕ) → k < n → k ≢ s → absent k ≡ false) where
    -- what stands is the codeword without s
    standing : (x y : ℕ) → x < n → y ≤ x → cond (absent x || absent y) none (f x y) ≡ wipe G s g x y
    standing x y lx ly = go (cases_eq x s) (cases_eq y s)
      where
        ly' : y < n
        ly' = omega arith

        go : (x ≡ s) ⊎ (x ≢ s) → (y ≡ s) ⊎ (y ≢ s) → cond (absent x || absent y) none (f x y) ≡ wipe G s g x y
        go (inl e) q = let l : absent x ≡ true = ap absent e ∙ lost in grind (arith, nat_tests)
        go (inr d) (inl e) = let l : absent y ≡ true = ap absent e ∙ lost in grind (arith, nat_tests, others x lx d)
        go (inr d) (inr e) =
            let p : absent x ≡ false = others x lx d in
            let q : absent y ≡ false = others y ly' e in
            let h : f x y ≡ g x y = sym (of_le f x y ly) ∙ agree x y lx ly' (p, q) ∙ of_le g x y ly in
            grind (arith, nat_tests)

    -- the rest of its diagonal comes to the block of s and q
    one_settled : (q : ℕ) → q < n → diagonal G n (λ x y. cond (absent x || absent y) none (f x y)) ((s + q) % n) ≡ of g s q
    one_settled q lq =
        diagonal_cong G n (λ x y. cond (absent x || absent y) none (f x y)) (wipe G s g) ((s + q) % n) standing
        ∙ equal G (diagonal G n (wipe G s g) ((s + q) % n)) (of g s q) (sym (diagonal_wipe G n g s q ls lq) ∙ code.diagonals ((s + q) % n) (mod-lt (s + q) (omega arith)))

  module _ (a b : ℕ) (la : a < n) (lb : b < n) (r : B) (h : Recovered G n absent f a b r) where
    pub settled_kept : Kept absent a b → r ≡ of g a b
    settled_kept k = h.stored k ∙ agree a b la lb k

    settled_one : (absent a || absent b) ≡ true → absentees absent n ≡ 1 → r ≡ of g a b
    settled_one e c =
        let o : (s : ℕ) × (s < n) × (absent s ≡ true) × ((k : ℕ) → k < n → k ≢ s → absent k ≡ false) = one_absent absent n c in
        h.one (not_kept absent a b e) c ∙ sym (rest_stands G n absent f a b la lb e c) ∙ go o.0 o.1 o.2 o.3 (cases_eq a o.0) (cases_eq b o.0)
      where
        go : (s : ℕ) → s < n → absent s ≡ true → ((k : ℕ) → k < n → k ≢ s → absent k ≡ false) → (a ≡ s) ⊎ (a ≢ s) → (b ≡ s) ⊎ (b ≢ s)
            → diagonal G n (λ x y. cond (absent x || absent y) none (f x y)) ((a + b) % n) ≡ of g a b
        go s ls lost others (inl p) _ =
            ap (λ x. diagonal G n (λ x y. cond (absent x || absent y) none (f x y)) ((x + b) % n)) p ∙ one_settled s ls lost others b lb ∙ ap (λ x. of g x b) (sym p)
        go s ls lost others (inr d) (inl p) =
            ap (λ x. diagonal G n (λ x y. cond (absent x || absent y) none (f x y)) (x % n)) (add_comm a b ∙ ap (λ x. x + a) p) ∙ one_settled s ls lost others a la ∙ of_swap g s a ∙ ap (of g a) (sym p)
        go s ls lost others (inr d) (inr d') = absurd (not_kept absent a b e (others a la d, others b lb d'))

    settled_two : (absent a || absent b) ≡ true → absentees absent n ≡ 2 → r ≡ of g a b
    settled_two e c =
        let t = h.two (not_kept absent a b e) c in
        t.1.2 ∙ ((stands G).size n prime).only absent t.0 g c t.1.0 code (λ x y lx ly k. t.1.1 x y lx ly k ∙ agree x y lx ly k) a b la lb tt

    some_absent : (absent a || absent b) ≡ true → absentees absent n ≢ 0
    some_absent e c = not_kept absent a b e (none_absent absent n c a la, none_absent absent n c b lb)

    -- of up to two absent stations, and of any number where the pair stands
    pub settled_few : absentees absent n ≤ 2 → r ≡ of g a b
    settled_few l = go (cases_Bool (absent a)) (cases_Bool (absent b))
      where
        lost : (absent a || absent b) ≡ true → r ≡ of g a b
        lost e = let d : absentees absent n ≢ 0 = some_absent e in elim (cases_eq (absentees absent n) 1) [ inl c ↦ settled_one e c | inr c ↦ settled_two e (omega arith) ]

        go : (absent a ≡ true) ⊎ (absent a ≡ false) → (absent b ≡ true) ⊎ (absent b ≡ false) → r ≡ of g a b
        go (inl p) _ = lost (or_left (absent a) (absent b) p)
        go (inr p) (inl q) = lost (or_right (absent a) (absent b) q)
        go (inr p) (inr q) = settled_kept (p, q)

    pub settled : (Kept absent a b) ⊎ (absentees absent n ≤ 2) → r ≡ of g a b
    settled (inl k) = settled_kept k
    settled (inr l) = settled_few l
