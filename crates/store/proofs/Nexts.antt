-- What a search of the stations that are out finds.
use Rattle.std.proofs.Common.{◌≡◌, ℕ, ◌<◌, ◌≤◌, Bool, true, false, ◌&&◌, ltb, Some, None, Option, MatchOption, sym, ap, ◌∙◌, arith}
use Rattle.std.proofs.lemmas.Bool.{lt-ltb}
use Rattle.store.specs.Meaning.{Next}

-- a station below n is out where its test says so
below : (out : ℕ → Bool) (n k : ℕ) → k < n → out k ≡ (ltb k n && out k)
below out n k l = sym (ap (λ t. t && out k) (lt-ltb k n l))

pub next_from : (out : ℕ → Bool) (start n m : ℕ) (r : Option ℕ) → n ≡ m
    → MatchOption r ((k : ℕ) → start ≤ k → k < n → (ltb k m && out k) ≡ false)
    (λ s. (start ≤ s) × (s < n) × ((ltb s m && out s) ≡ true) × ((k : ℕ) → start ≤ k → k < s → (ltb k m && out k) ≡ false))
    → Next out m start r
next_from out start n m None e h = λ k l lk. below out m k lk ∙ h k l (omega arith)
next_from out start n m (Some s) e h =
    let l : s < m = omega (arith, h.1) in
    (h.0, l, below out m s l ∙ h.2, λ k p q. let lk : k < m = omega arith in below out m k lk ∙ h.3 k p q)
