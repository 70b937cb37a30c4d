-- The smallest number that passes a test.
use Rattle.std.proofs.Common.{◌≡◌, ℕ, zero, suc, ◌+◌, ◌<◌, Bool, true, false, cond, Some, None, Option, sym, refl, ap, ◌∙◌, ap₂, inl, inr, le_refl, not-suc-le-zero, add-one, arith}
use native.Mathlib.Nat.{le_step}
use Rattle.std.proofs.lemmas.Bool.{cases_eq}
use Rattle.store.specs.Meaning.{first, Next}

-- one number more
after : Option ℕ → Bool → ℕ → Option ℕ
after (Some j) t k = Some j
after None t k = cond t (Some k) None

first_step : (f : ℕ → Bool) (k : ℕ) → first f (suc k) ≡ after (first f k) (f k) k
unfolding after
first_step f k = elim (first f k) as (λ o. elim o [ Some j ↦ Some j | None ↦ cond (f k) (Some k) None ] ≡ after o (f k) k) [ Some j ↦ refl | None ↦ refl ]

pub first_skip : (f : ℕ → Bool) (k : ℕ) → first f k ≡ None → f k ≡ false → first f (k + 1) ≡ None
unfolding after
first_skip f k e p = ap (first f) (add-one k) ∙ first_step f k ∙ ap (λ o. after o (f k) k) e ∙ ap (λ t. cond t (Some k) None) p

found : (f : ℕ → Bool) (k : ℕ) → first f k ≡ None → f k ≡ true → first f (suc k) ≡ Some k
unfolding after
found f k e p = first_step f k ∙ ap (λ o. after o (f k) k) e ∙ ap (λ t. cond t (Some k) None) p

-- none below n + 1 passes: neither n nor one below n
front : (f : ℕ → Bool) (n : ℕ) → first f (suc n) ≡ None → first f n ≡ None
unfolding after
front f n e = go (first f n) (sym (first_step f n) ∙ e)
  where
    go : (o : Option ℕ) → after o (f n) n ≡ None → o ≡ None
    go (Some j) e = let z : ◌≡◌ {A = ℕ} 0 1 = cc in absurd (omega arith)
    go None e = refl

last : (f : ℕ → Bool) (n : ℕ) → first f (suc n) ≡ None → f n ≡ false
unfolding after
last f n e = go (f n) (sym (ap (λ o. after o (f n) n) (front f n e)) ∙ sym (first_step f n) ∙ e)
  where
    go : (t : Bool) → cond t (Some n) None ≡ None → t ≡ false
    go true e = let z : ◌≡◌ {A = ℕ} 0 1 = cc in absurd (omega arith)
    go false e = refl

-- what is found stays
pub first_stays : (f : ℕ → Bool) (k j : ℕ) → first f k ≡ Some j → first f (suc k) ≡ Some j
unfolding after
first_stays f k j e = first_step f k ∙ ap (λ o. after o (f k) k) e

pub first_hit : (f : ℕ → Bool) (k n : ℕ) → first f k ≡ None → f k ≡ true → k < n → first f n ≡ Some k
first_hit f k zero e p l = absurd (not-suc-le-zero l)
first_hit f k (suc n) e p l = elim (cases_eq k n) [
  | inl q ↦ ap (λ j. first f (suc j)) (sym q) ∙ found f k e p
  | inr d ↦ first_stays f n k (first_hit f k n e p (omega arith))
]

-- where none passes, none is found
pub none_first : (f : ℕ → Bool) (n : ℕ) → ((k : ℕ) → k < n → f k ≡ false) → first f n ≡ None
none_first f zero h = refl
none_first f (suc n) h = sym (ap (first f) (add-one n)) ∙ first_skip f n (none_first f n (λ k l. h k (le_step l))) (h n (le_refl (suc n)))

-- where none is found, none passes
pub first_none : (f : ℕ → Bool) (n : ℕ) → first f n ≡ None → (k : ℕ) → k < n → f k ≡ false
first_none f zero e k l = absurd (not-suc-le-zero l)
first_none f (suc n) e k l = elim (cases_eq k n) [
  | inl q ↦ ap f q ∙ last f n e
  | inr d ↦ first_none f n (front f n e) k (omega arith)
]

-- tests that agree below n find the same
pub first_cong : (f g : ℕ → Bool) (n : ℕ) → ((k : ℕ) → k < n → f k ≡ g k) → first f n ≡ first g n
first_cong f g zero h = refl
first_cong f g (suc n) h =
    first_step f n ∙ ap₂ (λ o t. after o t n) (first_cong f g n (λ k l. h k (le_step l))) (h n (le_refl (suc n))) ∙ sym (first_step g n)

-- what a search from 0 on finds
pub first_is : (f : ℕ → Bool) (n : ℕ) (r : Option ℕ) → Next f n 0 r → r ≡ first f n
first_is f n None h = sym (none_first f n (λ k l. h k (omega arith) l))
first_is f n (Some i) h = sym (first_hit f i n (none_first f i (λ k l. h.3 k (omega arith) l)) h.2 h.1)
