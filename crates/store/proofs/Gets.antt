-- When a store hands a block out.
use Rattle.std.proofs.Common.{◌≡◌, ℕ, ◌<◌, min, max, Bool, true, false, cond, not, is_ok, Ok, ap, arith}
use Rattle.std.proofs.lemmas.Bool.Decides.{nat_tests}
use Rattle.code.proofs.Rows.{ordered}
use Rattle.store.specs.Meaning.{Meaning, get_answer, mark_answer, pair_answer}

module _ {B : Type 0} (m : Meaning B) where
  pub get_ok : (a b : ℕ) → a < m.size → b < m.size → m.out a ≡ false → m.out b ≡ false → get_answer m a b ≡ Ok tt
  get_ok a b la lb oa ob =
      let both : (m.out (max a b) ≡ false) × (m.out (min a b) ≡ false) = ordered (λ x y. (m.out x ≡ false) × (m.out y ≡ false)) a b (oa, ob) (ob, oa) in
      grind (arith, nat_tests)

  -- so the block that is read is the pair's
  pub got : {X : Type 0} (a b : ℕ) (x y : X) → a < m.size → b < m.size → m.out a ≡ false → m.out b ≡ false → cond (is_ok (get_answer m a b)) x y ≡ x
  got a b x y la lb oa ob = ap (λ r. cond (is_ok r) x y) (get_ok a b la lb oa ob)

-- a pair that is admitted has two stations below n that are in
pub pair_below : (n : ℕ) (out : ℕ → Bool) (a b : ℕ) → is_ok (pair_answer n out a b) ≡ true → (a < n) × (b < n)
pair_below n out a b e = (grind (arith, nat_tests), grind (arith, nat_tests))

-- a station that is asked of and answered for is below n, and its mark is what was answered
pub mark_ok : (n : ℕ) (out : ℕ → Bool) (s : ℕ) (b : Bool) → Ok b ≡ mark_answer n out s → (s < n) × (out s ≡ not b)
mark_ok n out s b e = (grind (arith, nat_tests), elim b as (λ v. Ok v ≡ mark_answer n out s → out s ≡ not v) [ true ↦ λ h. grind (arith, nat_tests) | false ↦ λ h. grind (arith, nat_tests) ] e)
