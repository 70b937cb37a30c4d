-- A station that is fitted, filled with every partner and finished stands again.
use Rattle.std.proofs.Common.{◌≡◌, ℕ, ◌*◌, ◌<◌, ◌≤◌, true, false, cond, ◌||◌, eqb, ltb, None, Ok, sym, refl, ap, ◌∙◌, subst, ap₂, inl, inr, arith}
use Rattle.std.proofs.lemmas.Bool.{cases_eq, eq-eqb, ne_eqb, or_right, cond-true}
use Rattle.kinds.specs.Group.{Group}
use Rattle.code.specs.Rebuilt.{absentees}
use Rattle.code.specs.Rules.{of}
use Rattle.code.proofs.Absent.{absentees_cong}
use Rattle.store.specs.Meaning.{Remarked}
use Rattle.state.specs.Calls.{finish_answer}
use Rattle.state.specs.Fillings.{next_of}
use Rattle.state.specs.States.{State, state, size_of, absent, being_filled, filling_at, SoundAt}
use Rattle.state.proofs.Fillings.{Fits}
use Rattle.serve.specs.Matches.{Matches}
use Rattle.serve.specs.Tally.{with_filling, restored}
use Rattle.serve.proofs.Keeps.{keep_fit, keep_finish}
use Rattle.transcript.specs.Replaces.{CanFillUp, FilledTo, Replaced}

module _ {B : Type 0} (st st₁ : State B) (s : ℕ) (fit : Fits st s) (R : Remarked st.store s false st₁.store) (begun : st₁.filling ≡ filling_at s 0) where
  out_there : st₁.store.out s ≡ false
  out_there = R.out s fit.station ∙ cond-true (eqb s s) false (st.store.out s) (eq-eqb s s refl)

  same_absent : (k : ℕ) → k < size_of st → absent st₁ k ≡ absent st k
  same_absent k l = elim (cases_eq k s) [
    | inl e ↦ or_right (st₁.store.out k) (being_filled st₁.filling k) (ap (λ f. being_filled f k) begun ∙ eq-eqb k s e)
        ∙ sym (ap (λ b. b || being_filled st.filling k) (ap st.store.out e ∙ fit.out))
    | inr ne ↦ ap₂ (λ u f. u || being_filled f k) (R.out k l ∙ ap (λ b. cond b false (st.store.out k)) (ne_eqb k s ne)) begun
        ∙ ap (λ b. st.store.out k || b) (ne_eqb k s ne ∙ sym (ap (λ f. being_filled f k) fit.idle))
  ]

  -- the station that was fitted can be filled up
  pub can_fill : (len : ℕ) → 8 * size_of st ≤ len → CanFillUp st₁ s len
  can_fill len l = record {
    sound = subst (SoundAt (size_of st₁) st₁.store.out) (sym begun) (omega (arith, R.size, fit.station), out_there, omega arith);
    filling = begun;
    few = ap (λ c. ltb 2 c) (ap (absentees (absent st₁)) R.size ∙ absentees_cong (size_of st) same_absent) ∙ fit.few;
    long = omega (arith, l, ap (λ n. 8 * n) R.size);
  }

  module _ (G : Group B) (st₂ : State B) (F : FilledTo G st₁ s (size_of st₁) st₂) where
    -- and then finished
    pub can_finish : finish_answer st₂ s ≡ Ok tt
    can_finish =
        let u : being_filled st₂.filling s ≡ true = ap (λ f. being_filled f s) F.filling ∙ eq-eqb s s refl in
        let v : eqb (next_of st₂.filling) (size_of st₂) ≡ true = eq-eqb (next_of st₂.filling) (size_of st₂) (ap next_of F.filling ∙ sym F.size) in
        rw (u, v)

    pub stands : (st₃ : State B) → st₃.store ≡ st₂.store → st₃.filling ≡ None → Replaced G st s st₃
    stands st₃ e i = record {
      size = ap (λ m. m.size) e ∙ F.size ∙ R.size;
      out = λ k l. ap (λ m. m.out k) e ∙ F.out k (omega (arith, R.size)) ∙ R.out k l;
      others = λ p q lp lq np nq. ap (λ m. of m.block p q) e ∙ F.others p q (omega (arith, R.size)) (omega (arith, R.size)) np nq ∙ R.others p q lp lq np nq;
      filling = i;
      keeps = λ t M.
          let M₀ : Matches G t (state st.store None) = subst (λ f. Matches G t (state st.store f)) fit.idle M in
          let M₁ : Matches G (with_filling t (filling_at s 0)) st₁ = subst (λ f. Matches G (with_filling t (filling_at s 0)) (state st₁.store f)) (sym begun) (keep_fit G t st.store st₁.store s M₀ fit.station fit.out R) in
          let M₂ : Matches G (with_filling t (filling_at s (size_of st₁))) st₂ = F.keeps (with_filling t (filling_at s 0)) M₁ in
          let at : st₂.filling ≡ filling_at s (size_of st₂) = F.filling ∙ ap (filling_at s) (sym F.size) in
          let M₃ : Matches G (with_filling t (filling_at s (size_of st₁))) (state st₂.store (filling_at s (size_of st₂))) = subst (λ f. Matches G (with_filling t (filling_at s (size_of st₁))) (state st₂.store f)) at M₂ in
          subst (λ m. Matches G (restored t s) (state m st₃.filling)) (sym e)
          (subst (λ f. Matches G (restored t s) (state st₂.store f)) (sym i) (keep_finish G (with_filling t (filling_at s (size_of st₁))) st₂.store s M₃));
    }
