-- The rows of the check stations and the pair itself, added one after the other, are a codeword.
use Rattle.std.proofs.Common.{◌≡◌, ℕ, ◌+◌, ◌%◌, ◌<◌, ◌≤◌, min, max, Bool, true, false, cond, ◌&&◌, eqb, ◌⊎◌, List, get_or, take, drop, Some, Ok, sym, refl, ap, ◌∙◌, subst, ap₂, inl, inr, arith}
use Rattle.std.proofs.lemmas.Bool.{cases_eq, leb-true, lt-leb}
use Rattle.std.proofs.lemmas.Bool.Decides.{nat_tests}
use Rattle.kinds.specs.Group.{Group}
use Rattle.code.specs.Rules.{Blocks, of}
use Rattle.code.specs.declared.places.Pair.{Pair}
use Rattle.code.proofs.Homs.{images, image_cond, Imaged, imaged}
use Rattle.code.proofs.Rows.{of_le}
use Rattle.code.proofs.Sums.{unit, unit_left}
use Rattle.recovery.specs.Patterns.{impulse, spot, Touched}
use Rattle.recovery.specs.Recovery.{Two, Rows, RebuiltTwo}
use Rattle.store.specs.Meaning.{Meaning}
use Rattle.state.specs.Additions.{row_part, Added, Spread}
use Rattle.state.proofs.Addings.{spot_here, spot_other, added_same, added_more}

module _ {B : Type 0} (G : Group B) (n a b : ℕ) (d : B) (inner : max a b + 2 < n)
    (x : Pair) (two : Two (impulse G n a b d) x) (first second : List B) (rows : Rows G (impulse G n a b d) x first second) where
  open G use {none, sum as ◌⊕◌}

  infixl 60 ◌⊕◌
  late : n ≤ x.smaller + 2
  late = leb-true n (x.smaller + 2) two.lost_smaller

  -- the word at a data pair
  data_at : (p q : ℕ) → p + 2 < n → q + 2 < n → of rows.word p q ≡ of (spot none d a b) p q
  data_at p q lp lq = rows.agrees p q (omega arith) (omega arith) (lt-leb n (p + 2) lp, lt-leb n (q + 2) lq)

  -- what is added in all
  total : (u v : ℕ) → u < n → v ≤ u → row_part G x.smaller (x.smaller + 1) first u v ⊕ row_part G x.larger (x.larger + 1) second u v ⊕ spot none d a b u v ≡ rows.word u v
  total u v lu lv = go (cases_eq u x.smaller) (cases_eq u x.larger)
    where
      out : max a b + 2 < n → n ≤ u + 2 → spot none d a b u v ≡ none
      out l m = spot_other none d a b u v (λ h. omega (arith, h.0))

      go : (u ≡ x.smaller) ⊎ ((u ≡ x.smaller) → ⊥) → (u ≡ x.larger) ⊎ ((u ≡ x.larger) → ⊥)
          → row_part G x.smaller (x.smaller + 1) first u v ⊕ row_part G x.larger (x.larger + 1) second u v ⊕ spot none d a b u v ≡ rows.word u v
      go (inl p) (inl q) = absurd (omega (arith, two.before))
      go (inl p) (inr q) =
          let w : get_or first v none ≡ rows.word u v = rows.smaller v (omega arith) ∙ ap (λ s. of rows.word s v) (sym p) ∙ of_le rows.word u v lv in
          let s : spot none d a b u v ≡ none = out inner (omega (arith, late)) in
          grind (arith, nat_tests, unit G (rows.word u v))
      go (inr p) (inl q) =
          let w : get_or second v none ≡ rows.word u v = rows.larger v (omega arith) ∙ ap (λ s. of rows.word s v) (sym q) ∙ of_le rows.word u v lv in
          let s : spot none d a b u v ≡ none = out inner (omega (arith, late, two.before)) in
          grind (arith, nat_tests, unit G (rows.word u v), unit_left G (rows.word u v))
      go (inr p) (inr q) =
          let y : row_part G x.smaller (x.smaller + 1) first u v ≡ none = grind (arith, nat_tests) in
          let z : row_part G x.larger (x.larger + 1) second u v ≡ none = grind (arith, nat_tests) in
          let l : u + 2 < n = omega (arith, late, two.before, two.below) in
          let w : rows.word u v ≡ spot none d a b u v = sym (of_le rows.word u v lv) ∙ data_at u v l (omega arith) ∙ of_le (spot none d a b) u v lv in
          ap₂ (λ y z. y ⊕ z ⊕ spot none d a b u v) y z ∙ ap (λ t. t ⊕ spot none d a b u v) (unit G none) ∙ unit_left G (spot none d a b u v) ∙ sym w

  -- the same as bits
  as_bits : n % 2 ≡ 1 → Imaged G d n (spot false true a b) rows.word
  as_bits odd =
      imaged G d n odd (omega arith) (spot false true a b) rows.word rows.code
      (λ p q lp lq _. data_at p q (omega arith) (omega arith) ∙ image_cond G d (eqb (max p q) (max a b) && eqb (min p q) (min a b)) true false)

  -- a data pair with the check pairs of its pattern
  pub spread_rows : (m m₁ m₂ m₃ : Meaning B) → m.size ≡ n → n % 2 ≡ 1
      → Added G m (row_part G x.smaller (x.smaller + 1) first) m₁ → Added G m₁ (row_part G x.larger (x.larger + 1) second) m₂ → Added G m₂ (spot none d a b) m₃
      → (word : Blocks Bool) × (Touched n a b word × Added G m (λ u v. cond (word u v) d none) m₃)
  spread_rows m m₁ m₂ m₃ e odd h₁ h₂ h₃ =
      let w : Imaged G d n (spot false true a b) rows.word = as_bits odd in
      let f : Blocks B = row_part G x.smaller (x.smaller + 1) first in
      let g : Blocks B = row_part G x.larger (x.larger + 1) second in (
        w.bits,
        (
          record {
            code = w.code;
            one = w.agrees a b (omega arith) (omega arith) tt ∙ spot_here false true a b (max a b) (min a b) refl refl;
            others = λ p q lp lq h. w.agrees p q (omega arith) (omega arith) tt ∙ spot_other false true a b (max p q) (min p q) h;
          },
          added_same G m m₃ (λ u v. f u v ⊕ g u v ⊕ spot none d a b u v) (images G d w.bits)
              (λ u v lu lv. let l : u < n = omega arith in
              total u v l lv ∙ sym (of_le rows.word u v lv) ∙ w.same u v l (omega arith) tt ∙ of_le (images G d w.bits) u v lv)
              (added_more G m m₂ m₃ (λ u v. f u v ⊕ g u v) (spot none d a b) (added_more G m m₁ m₂ f g h₁ h₂) h₃),
        ),
      )

-- the same from what the calls of a spread say
module _ {B : Type 0} (G : Group B) (m : Meaning B) (a b : ℕ) (d : B) (sz n : ℕ) (pulse : Meaning B) (area area' : List B)
    (inner : max a b + 2 < m.size) (size : sz ≡ m.size) (number : n ≡ sz) (is : pulse ≡ impulse G sz a b d) where
  pub spread_from : (m₁ m₂ m₃ : Meaning B) (x : Pair) (k : ℕ) (low high : List B) → n % 2 ≡ 1 → k ≡ n → low ≡ take k area' → high ≡ drop k area'
      → RebuiltTwo G pulse area (Ok (Some x)) area'
      → Added G m (row_part G x.smaller (x.smaller + 1) low) m₁ → Added G m₁ (row_part G x.larger (x.larger + 1) high) m₂ → Added G m₂ (spot G.none d a b) m₃
      → Spread G m a b d m₃
  spread_from m₁ m₂ m₃ x k low high odd from el eh h h₁ h₂ h₃ =
      let is' : pulse ≡ impulse G m.size a b d = is ∙ ap (λ k. impulse G k a b d) size in
      let r = subst (λ p. RebuiltTwo G p area (Ok (Some x)) area') is' h in
      let e : k ≡ m.size = from ∙ number ∙ size in
      let w =
      spread_rows G m.size a b d inner x r.2 (take m.size area') (drop m.size area') r.3 m m₁ m₂ m₃ refl (ap (λ k. k % 2) (sym (number ∙ size)) ∙ odd)
      (subst (λ l. Added G m (row_part G x.smaller (x.smaller + 1) l) m₁) (el ∙ ap (λ k. take k area') e) h₁)
      (subst (λ l. Added G m₁ (row_part G x.larger (x.larger + 1) l) m₂) (eh ∙ ap (λ k. drop k area') e) h₂) h₃ in
      record { word = w.0; touched = w.1.0; added = w.1.1 }
