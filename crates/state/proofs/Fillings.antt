-- What calls did, what those that are accepted have, and what a fill leaves as it was.
use Rattle.std.proofs.Common.{◌≡◌, ℕ, ◌*◌, ◌<◌, ◌≤◌, min, max, true, false, ◌≢◌, is_ok, Some, None, Ok, Err, Option, Result, refl, ap, inl, inr, arith}
use Rattle.std.proofs.lemmas.Bool.{cases_Bool, both_ways}
use Rattle.std.proofs.lemmas.Bool.Decides.{nat_tests}
use Rattle.kinds.specs.Group.{Group}
use Rattle.code.specs.Rules.{of}
use Rattle.faults.specs.declared.faults.Fault.{Fault}
use Rattle.store.specs.Meaning.{Meaning, Written, After}
use Rattle.state.specs.Calls.{lose_answer, none_filled, fit_answer, fill_answer, too_many, Filled}
use Rattle.state.specs.States.{State, size_of, absent, being_filled}
use Rattle.state.specs.declared.records.Filling.{Filling}

-- what a call did, where it is known to be accepted or refused
pub did : {X : Type 0} (r : Result X Fault) (P Q : Type 0) → is_ok r ≡ true → After r P Q → P
did (Ok x) P Q e h = h
did (Err f) P Q e h = absurd (both_ways false refl e)

pub left_alone : {X : Type 0} (r : Result X Fault) (P Q : Type 0) → is_ok r ≡ false → After r P Q → Q
left_alone (Ok x) P Q e h = absurd (both_ways true e refl)
left_alone (Err f) P Q e h = h

-- a station whose loss is accepted stands
pub lose_fine : {B : Type 0} (st : State B) (s : ℕ) → lose_answer st s ≡ Ok tt → absent st s ≡ false
lose_fine st s e = let h : is_ok (lose_answer st s) ≡ true = ap is_ok e in grind (arith, nat_tests)

-- what a fit that is accepted has: the station is out, none is being filled, and at most two are absent
pub record Fits {B : Type 0} (st : State B) (s : ℕ) : Type 0 where
  pub station : s < size_of st
  pub out : st.store.out s ≡ true
  pub idle : st.filling ≡ None
  pub few : too_many st ≡ false

pub fits : {B : Type 0} (st : State B) (s : ℕ) → fit_answer st s ≡ Ok tt → Fits st s
fits st s e = record { station = grind (arith, nat_tests, ok); out = grind (arith, nat_tests, ok); idle = idle_of st.filling last; few = few_of st.filling last }
  where
    ok : is_ok (fit_answer st s) ≡ true
    ok = ap is_ok e

    last : is_ok (none_filled st st.filling) ≡ true
    last = grind (arith, nat_tests, ok)

    idle_of : (f : Option Filling) → is_ok (none_filled st f) ≡ true → f ≡ None
    idle_of None h = refl
    idle_of (Some u) h = absurd (both_ways false refl h)

    few_of : (f : Option Filling) → is_ok (none_filled st f) ≡ true → too_many st ≡ false
    few_of None h = grind (arith, nat_tests, h)
    few_of (Some u) h = absurd (both_ways false refl h)

-- what a fill that is accepted has
pub fill_fine : {B : Type 0} (st : State B) (len t : ℕ) → is_ok (fill_answer st len t) ≡ true → (8 * size_of st ≤ len) × (being_filled st.filling t ≡ true) × (too_many st ≡ false)
fill_fine st len t e = (grind (arith, nat_tests), grind (arith, nat_tests), grind (arith, nat_tests))

-- what a fill of the pair of s and k leaves as it was, whether the pair is put or not
pub record Framed {B : Type 0} (m : Meaning B) (s k : ℕ) (m' : Meaning B) : Type 0 where
  pub size : m'.size ≡ m.size
  pub out : (j : ℕ) → j < m.size → m'.out j ≡ m.out j
  pub others : (p q : ℕ) → p < m.size → q < m.size → ((max p q ≡ max s k) × (min p q ≡ min s k) → ⊥) → of m'.block p q ≡ of m.block p q

module _ {B : Type 0} (G : Group B) (st : State B) (s k : ℕ) (m' : Meaning B) (F : Filled G st s k m') where
  pub framed : Framed st.store s k m'
  framed = elim (cases_Bool (st.store.out k)) [
    | inl o ↦ let e : m' ≡ st.store = F.passed o in
        record { size = ap (λ m. m.size) e; out = λ j l. ap (λ m. m.out j) e; others = λ p q lp lq d. ap (λ m. of m.block p q) e }
    | inr o ↦ let w : Written st.store s k F.block m' = F.put o in record { size = w.size; out = w.out; others = w.others }
  ]

  -- the pairs without s stay
  pub without : (p q : ℕ) → p < size_of st → q < size_of st → p ≢ s → q ≢ s → of m'.block p q ≡ of st.store.block p q
  without p q lp lq np nq = framed.others p q lp lq (λ h. let x : max p q ≡ max s k = h.0 in let y : min p q ≡ min s k = h.1 in omega arith)
