-- Where the walk of two stations is at each time.
use Rattle.std.proofs.Common.{◌≡◌, ℕ, zero, suc, ◌+◌, ◌-◌, ◌*◌, ◌%◌, ◌<◌, ◌≢◌, sym, ap, ◌∙◌, subst, mod-lt, mod-eq_of_lt, arith}
use native.Mathlib.Nat.{add-mod-mod}
use Rattle.code.specs.Sizes.{Prime}
use Rattle.code.proofs.Inverse.{inverse}
use Rattle.code.proofs.Rows.{partner}
use Rattle.code.proofs.Walk.{Walk, walk}

-- any two of a prime number of stations start a walk
pub walk_of : (n i j : ℕ) → Prime n → i < j → j < n → Walk n i j
walk_of n i j p lij lj =
    let e : i + (j - i) ≡ j = omega arith in
    let v : (e : ℕ) × (((j - i) * e) % n ≡ 1) = inverse n p (j - i) (omega arith) (omega arith) in
    subst (Walk n i) (ap (λ x. x % n) e ∙ mod-eq_of_lt lj) (walk n i (j - i) v.0 (omega arith) v.1)

-- it goes on in equal steps
pub walk_at : (n i j : ℕ) → i < j → j < n → (w : Walk n i j) → (t : ℕ) → w.at t ≡ (i + t * (j - i)) % n
walk_at n i j lij lj w zero =
    let e : i + 0 * (j - i) ≡ i = omega arith in
    let l : i < n = omega arith in
    w.start ∙ sym (ap (λ x. x % n) e ∙ mod-eq_of_lt l)
walk_at n i j lij lj w (suc t) =
    let d : ℕ = j - i in
    let e : j + (i + t * d) ≡ i + (i + suc t * d) = omega arith in
    let l : 0 < n = omega arith in
    partner n i (w.at (suc t)) ((i + suc t * d) % n) (w.below (suc t)) (mod-lt (i + suc t * d) l)
    (sym (w.turn t) ∙ ap (λ x. (j + x) % n) (walk_at n i j lij lj w t) ∙ add-mod-mod j (i + t * d) n ∙ ap (λ x. x % n) e ∙ sym (add-mod-mod i (i + suc t * d) n))

-- and comes to each station once
pub apart : (n i j : ℕ) → Prime n → i < j → j < n → (s t : ℕ) → s < n → t < n → s ≢ t → (i + s * (j - i)) % n ≢ (i + t * (j - i)) % n
apart n i j p lij lj s t ls lt d e =
    let w : Walk n i j = walk_of n i j p lij lj in
    d (w.once s t ls lt (walk_at n i j lij lj w s ∙ e ∙ sym (walk_at n i j lij lj w t)))
