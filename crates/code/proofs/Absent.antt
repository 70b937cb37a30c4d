-- What is said of the absent stations depends on the stations below n only.
use Rattle.std.proofs.Common.{◌≡◌, ℕ, zero, suc, ◌+◌, ◌<◌, Bool, cond, sym, refl, ◌∙◌, ap₂, le_refl}
use native.Mathlib.Nat.{le_step}
use Rattle.kinds.specs.Group.{Group}
use Rattle.code.specs.Rebuilt.{absentees, Kept, Recovered}
use Rattle.code.specs.Rules.{Blocks}

-- how many there are
pub absentees_cong : {p q : ℕ → Bool} (n : ℕ) → ((s : ℕ) → s < n → p s ≡ q s) → absentees p n ≡ absentees q n
absentees_cong zero h = refl
absentees_cong (suc n) h = ap₂ (λ x b. x + cond b 1 0) (absentees_cong n (λ s l. h s (le_step l))) (h n (le_refl (suc n)))

-- what is recovered
pub recovered_cong : {B : Type 0} (G : Group B) (n : ℕ) (p q : ℕ → Bool) (f : Blocks B) (a b : ℕ) (r : B) → a < n → b < n → ((s : ℕ) → s < n → p s ≡ q s)
    → Recovered G n p f a b r → Recovered G n q f a b r
recovered_cong G n p q f a b r la lb same h =
    let there : Kept p a b → Kept q a b = (λ k. (sym (same a la) ∙ k.0, sym (same b lb) ∙ k.1)) in
    let back : Kept q a b → Kept p a b = (λ k. (same a la ∙ k.0, same b lb ∙ k.1)) in
    record {
      stored = λ k. h.stored (back k);
      one = λ d e. h.one (λ k. d (there k)) (absentees_cong n same ∙ e);
      two = λ d e. let t = h.two (λ k. d (there k)) (absentees_cong n same ∙ e) in
          (t.0, (t.1.0, λ x y lx ly k. t.1.1 x y lx ly (same x lx ∙ k.0, same y ly ∙ k.1), t.1.2));
    }
