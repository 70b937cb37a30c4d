-- The hexadecimal digits of bytes, by place.
use Rattle.std.proofs.Common.{◌≡◌, ℕ, zero, suc, ◌+◌, ◌*◌, ◌/◌, ◌%◌, ◌<◌, List, [], ◌∷◌, length, get_or, set, sym, refl, ◌∙◌, subst, ap₂, inl, inr, not-suc-le-zero, arith}
use Rattle.std.proofs.lemmas.Bool.{cases_eq}
use Rattle.std.proofs.lemmas.Grind.{get_or-set_at}
use Rattle.std.proofs.lemmas.List.{get_or-set_other, length-set}
use Rattle.kinds.specs.Texts.{hex_text}

-- two digits for each byte
pub length_hex : (xs : List ℕ) → length (hex_text xs) ≡ 2 * length xs
length_hex [] = refl
length_hex (x ∷ xs) = let e = length_hex xs in omega (arith, e)

-- the digits at i and i + 1, for an even i, are those of byte i / 2
pub hex_place :
    (xs : List ℕ) (i : ℕ) → i < 2 * length xs →
    get_or (hex_text xs) i 0 ≡ get_or (hex_text (get_or xs (i / 2) 0 ∷ [])) (i % 2) 0
hex_place [] i l = absurd (not-suc-le-zero l)
hex_place (x ∷ xs) zero l = refl
hex_place (x ∷ xs) (suc zero) l = refl
hex_place (x ∷ xs) (suc (suc i)) l =
    let half : suc (suc i) / 2 ≡ suc (i / 2) = omega arith in
    let rest : suc (suc i) % 2 ≡ i % 2 = omega arith in
    rw (half, rest) (hex_place xs i (omega arith))

-- what holds of each digit laid before place 2 i, and of the two that are laid there, holds of each up to place 2 (i + 1)
pub pair_laid :
    (P : ℕ → ℕ → Type 0) (digits : List ℕ) (i high low : ℕ) → 2 * i + 1 < length digits →
    P (2 * i) high → P (2 * i + 1) low → ((k : ℕ) → k < 2 * i → P k (get_or digits k 0)) →
    (k : ℕ) → k < 2 * (i + 1) → P k (get_or (set (set digits (2 * i) high) (2 * i + 1) low) k 0)
pair_laid P digits i high low long first second before k l = elim (cases_eq k (2 * i + 1)) [
  | inl e ↦ let m : 2 * i + 1 < length (set digits (2 * i) high) = omega (arith, length-set digits (2 * i) high) in
      subst (P k) (sym (get_or-set_at (set digits (2 * i) high) (2 * i + 1) k low 0 e m)) (subst (λ j. P j low) (sym e) second)
  | inr d ↦ subst (P k) (sym (get_or-set_other (set digits (2 * i) high) (2 * i + 1) k low 0 d)) (elim (cases_eq k (2 * i)) [
    | inl e ↦ subst (P k) (sym (get_or-set_at digits (2 * i) k high 0 e (omega arith))) (subst (λ j. P j high) (sym e) first)
    | inr n ↦ subst (P k) (sym (get_or-set_other digits (2 * i) k high 0 n)) (before k (omega arith))
  ])
]

-- the digit at k, where k is b places into the digits of byte i
pub digit_at :
    (xs : List ℕ) (i b k : ℕ) → i < length xs → b < 2 → k ≡ 2 * i + b →
    get_or (hex_text (get_or xs i 0 ∷ [])) b 0 ≡ get_or (hex_text xs) k 0
digit_at xs i b k li lb e =
    let h : k / 2 ≡ i = omega arith in
    let r : k % 2 ≡ b = omega arith in
    sym (hex_place xs k (omega arith) ∙ ap₂ (λ p q. get_or (hex_text (get_or xs p 0 ∷ [])) q 0) h r)
