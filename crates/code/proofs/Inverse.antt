-- Below a prime each number but 0 has an inverse.
use Rattle.std.proofs.Common.{◌≡◌, ℕ, zero, suc, ◌+◌, ◌-◌, ◌*◌, ◌/◌, ◌%◌, ◌<◌, ◌≤◌, ◌≢◌, ◌⊎◌, sym, ap, ◌∙◌, inl, inr, le_refl, mod-lt, mod-eq_of_lt, arith}
use native.Mathlib.Nat.{div-add-mod, add-mul-mod_self_right}
use Rattle.std.proofs.lemmas.Bool.{cases_eq}
use Rattle.code.specs.Sizes.{Prime}

-- the inverse of d comes from that of the remainder of n by d
step : (n d e : ℕ) → 0 < n → ((n % d) * e) % n ≡ 1 → (d * ((n - 1) * (n / d) * e)) % n ≡ 1
step n d e l h =
    let m : ℕ = n - 1 in
    let s : n ≡ suc m = omega arith in
    let p : d * (m * (n / d) * e) + n % d * e * n ≡ n % d * e + m * e * n = omega (arith, ap (λ y. m * e * y) (div-add-mod n d), ap (λ y. m * e * y) s, ap (λ y. n % d * e * y) s) in
    sym (add-mul-mod_self_right (d * (m * (n / d) * e)) (n % d * e) n) ∙ ap (λ y. y % n) p ∙ add-mul-mod_self_right (n % d * e) (m * e) n ∙ h

-- by induction on d, which the remainder is below
find : (n : ℕ) → Prime n → (m d : ℕ) → 0 < d → d ≤ m → d < n → (e : ℕ) × ((d * e) % n ≡ 1)
find n p zero d z l lt = absurd (omega arith)
find n p (suc m) d z l lt = go (cases_eq d 1) (find n p m (n % d))
  where
    go : (d ≡ 1) ⊎ (d ≢ 1) → (0 < n % d → n % d ≤ m → n % d < n → (e : ℕ) × (((n % d) * e) % n ≡ 1)) → (e : ℕ) × ((d * e) % n ≡ 1)
    go (inl e) ih = (1, ap (λ y. (y * 1) % n) e ∙ mod-eq_of_lt p.0)
    go (inr e) ih =
        let r : n % d < d = mod-lt n z in
        let q : n % d ≢ 0 = p.1 d (omega arith) lt in
        let v : (e : ℕ) × (((n % d) * e) % n ≡ 1) = ih (omega arith) (omega arith) (omega arith) in
        ((n - 1) * (n / d) * v.0, step n d v.0 (omega arith) v.1)

-- the inverse
pub inverse : (n : ℕ) → Prime n → (d : ℕ) → 0 < d → d < n → (e : ℕ) × ((d * e) % n ≡ 1)
inverse n p d z l = find n p d d z (le_refl d) l
