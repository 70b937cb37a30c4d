-- The absent stations, found in rising order and counted.
use Rattle.std.proofs.Common.{◌≡◌, ℕ, ◌+◌, ◌<◌, ◌≤◌, Bool, true, false, Some, None, Option, ap, ◌∙◌, inl, inr, arith}
use Rattle.std.proofs.lemmas.Bool.{cases_eq, cases_lt, both_ways}
use Rattle.code.proofs.Rebuild.{Pair as Lost, two_absent}
use Rattle.recovery.specs.Recovery.{absent_in, Two}
use Rattle.store.specs.Meaning.{Meaning, Next}

module _ {B : Type 0} (m : Meaning B) (count : absent_in m ≡ 2) where
  abbrev n : ℕ
  n = m.size

  abbrev absent : ℕ → Bool
  absent = m.out

  -- the first absent station from p on is s, where s is absent and no other station from p up to s is
  next_is : (p s : ℕ) (r : Option ℕ) → Next absent n p r → p ≤ s → s < n → absent s ≡ true → ((k : ℕ) → p ≤ k → k < s → absent k ≡ false) → r ≡ Some s
  next_is p s None h ls sn lost before = absurd (both_ways (absent s) (h s ls sn) lost)
  next_is p s (Some r) h ls sn lost before = elim (cases_eq r s) [
    | inl e ↦ ap Some e
    | inr d ↦ elim (cases_lt s r) [
      | inl l ↦ absurd (both_ways (absent s) (h.3 s ls l) lost)
      | inr l ↦ absurd (both_ways (absent r) (before r h.0 (omega arith)) h.2)
    ]
  ]

  abbrev pub lost : Lost absent n
  lost = two_absent absent n count

  pub first_is : (r : Option ℕ) → Next absent n 0 r → r ≡ Some lost.i
  first_is r h =
      let lt : lost.i < lost.j = lost.before in
      let lj : lost.j < n = lost.below in
      next_is 0 lost.i r h (omega arith) (omega arith) lost.lost_i (λ k _ l. lost.others k (omega arith) (omega arith) (omega arith))

  pub second_is : (i : ℕ) (r : Option ℕ) → i ≡ lost.i → Next absent n (i + 1) r → r ≡ Some lost.j
  second_is i r e h =
      let lt : lost.i < lost.j = lost.before in
      let lj : lost.j < n = lost.below in
      next_is (i + 1) lost.j r h (omega arith) lj lost.lost_j (λ k p l. lost.others k (omega arith) (omega arith) (omega arith))

  pub both_found : (i j : ℕ) → i ≡ lost.i → j ≡ lost.j → Two m (record { larger = j; smaller = i })
  both_found i j e d =
      let lt : lost.i < lost.j = lost.before in
      let lj : lost.j < n = lost.below in
      record {
        before = omega arith;
        below = omega arith;
        lost_smaller = ap absent e ∙ lost.lost_i;
        lost_larger = ap absent d ∙ lost.lost_j;
        others = λ k lk p q. lost.others k lk (omega arith) (omega arith);
      }
