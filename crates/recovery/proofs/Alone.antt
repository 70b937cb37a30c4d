-- A store beside which further stations are absent, or none.
use Rattle.std.proofs.Common.{◌≡◌, ℕ, min, max, Bool, true, false, ◌&&◌, ◌||◌, ◌⊎◌, ltb, Ok, sym, ap, ◌∙◌, inl, inr, arith}
use Rattle.std.proofs.Math.Bool.{or-false}
use Rattle.std.proofs.lemmas.Bool.{cases_lt}
use Rattle.std.proofs.lemmas.Bool.Decides.{nat_tests}
use Rattle.code.specs.Marks.{marked}
use Rattle.code.proofs.Rows.{ordered}
use Rattle.recovery.specs.Recovery.{AbsentMarks}
use Rattle.store.specs.Meaning.{Meaning, get_answer}
use Rattle.store.specs.Standing.{beside}

-- it means what it means
pub alone : {B : Type 0} (m : Meaning B) (bits : ℕ) → ((s : ℕ) → marked bits s ≡ false) → beside m bits ≡ m
alone m bits h i = record {
  size = m.size;
  out = λ s. (ap (λ t. m.out s || t) (h s) ∙ or-false (m.out s)) i;
  block = m.block;
}

-- what a store and further stations answer, by the marks of all that are absent
module _ {B : Type 0} (m : Meaning B) (also bits : ℕ) (h : AbsentMarks (beside m also) bits) (a b : ℕ) where
  abbrev lost : ℕ → Bool
  lost s = ltb s m.size && (m.out s || marked also s)

  -- of two stations that stand the store alone answers the same
  pub same_answer : marked bits a ≡ false → marked bits b ≡ false → get_answer m a b ≡ get_answer (beside m also) a b
  same_answer ea eb =
      let fa : lost a ≡ false = sym (h a) ∙ ea in
      let fb : lost b ≡ false = sym (h b) ∙ eb in
      let both : (lost (max a b) ≡ false) × (lost (min a b) ≡ false) = ordered (λ x y. (lost x ≡ false) × (lost y ≡ false)) a b (fa, fb) (fb, fa) in
      grind (arith, nat_tests)

  -- of others it is refused
  pub refused : (marked bits a ≡ true) ⊎ (marked bits b ≡ true) → get_answer (beside m also) a b ≡ Ok tt → ⊥
  refused (inl e) ok = let f : lost a ≡ true = sym (h a) ∙ e in elim (cases_lt a b) [
    | inl l ↦ let q : min a b ≡ a = omega arith in grind (arith, nat_tests)
    | inr l ↦ let p : max a b ≡ a = omega arith in grind (arith, nat_tests)
  ]
  refused (inr e) ok = let f : lost b ≡ true = sym (h b) ∙ e in elim (cases_lt a b) [
    | inl l ↦ let p : max a b ≡ b = omega arith in grind (arith, nat_tests)
    | inr l ↦ let q : min a b ≡ b = omega arith in grind (arith, nat_tests)
  ]
