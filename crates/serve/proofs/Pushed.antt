-- A promise over a list of calls goes on with one call more.
use Rattle.std.proofs.Common.{◌≡◌, ℕ, List, [], ◌∷◌, ◌++◌, sym, refl, ap, ◌∙◌, subst}
use Rattle.kinds.specs.Group.{Group}
use Rattle.store.specs.Meaning.{Meaning}
use Rattle.serve.specs.Matches.{Matches, CarriesOn, Tells}
use Rattle.state.specs.States.{State, size_of}
use Rattle.serve.specs.Tally.{Tally, Promise, Promised, Holds, tallied, tally_after}
use Rattle.serve.specs.declared.turns.Turn.{Turn}
use Rattle.serve.specs.Turns.{Made}
use Rattle.serve.specs.Refusals.{Told, ToldAll}
use Rattle.serve.proofs.Refused.{told}
use Rattle.serve.proofs.Turned.{KeptTurn, held, turn}

module _ {B : Type 0} (G : Group B) (most : ℕ) (last : Turn B) where
  pub after_push : (n : ℕ) (t : Tally B) (xs : List (Turn B)) → tally_after n t (xs ++ last ∷ []) ≡ tallied n (tally_after n t xs) last.call last.answer
  after_push n t [] = refl
  after_push n t (x ∷ xs) = after_push n (tallied n t x.call x.answer) xs

  pub promise_push : (xs : List (Turn B)) (t : Tally B) (m : Meaning B) (st st' : State B) → size_of st ≡ m.size → Promise G most t m xs st.store
      → KeptTurn G most (tally_after m.size t xs) st last.call last.answer st' → Promise G most t m (xs ++ last ∷ []) st'.store
  promise_push [] t m st st' e p k = (
    p.1,
    subst (λ n. Promised n most t last.call last.answer) e k.promised,
    (st'.store, (k.size ∙ e, (refl, subst (λ n. Holds G (tallied n t last.call last.answer) st'.store) e (held G (tallied (size_of st) t last.call last.answer) st' k.matched)))),
  )
  promise_push (x ∷ xs) t m st st' e p k =
      let m₁ : Meaning B = p.2.0 in
      let s : m₁.size ≡ m.size = p.2.1.0 in (
        p.0,
        p.1,
        (
          m₁,
          (
            s,
            promise_push xs (tallied m.size t x.call x.answer) m₁ st st' (e ∙ sym s) p.2.1.1
                (subst (λ n. KeptTurn G most (tally_after n (tallied m.size t x.call x.answer) xs) st last.call last.answer st') (sym s) k),
          ),
        ),
      )

-- answers as the tally says, with one more
told_push : {B : Type 0} (n most : ℕ) (last : Turn B) (xs : List (Turn B)) (t : Tally B) → ToldAll n most t xs → Told n most (tally_after n t xs) last.call last.answer → ToldAll n most t (xs ++ last ∷ [])
told_push n most last [] t p k = (k, tt)
told_push n most last (x ∷ xs) t p k = (p.0, told_push n most last xs (tallied n t x.call x.answer) p.1 k)

-- a promise over no calls
pub promise_none : {B : Type 0} (G : Group B) (most : ℕ) (t : Tally B) (st : State B) → Matches G t st → Promise G most t st.store [] st.store
promise_none G most t st M = (refl, held G t st M)

-- the size stays
pub promise_size : {B : Type 0} (G : Group B) (most : ℕ) (xs : List (Turn B)) (t : Tally B) (m m' : Meaning B) → Promise G most t m xs m' → m'.size ≡ m.size
promise_size G most [] t m m' p = ap (λ x. x.size) p.0
promise_size G most (x ∷ xs) t m m' p = promise_size G most xs (tallied m.size t x.call x.answer) p.2.0 m' p.2.1.1 ∙ p.2.1.0

-- one turn more
pub carry_more : {B : Type 0} (G : Group B) (most : ℕ) (st st₁ st₂ : State B) (xs : List (Turn B)) (last : Turn B) → CarriesOn G most st xs st₁ → Made G most st₁ last.call last.answer st₂ → CarriesOn G most st (xs ++ last ∷ []) st₂
carry_more G most st st₁ st₂ xs last c h t M =
    let p = c t M in
    let e : size_of st₁ ≡ size_of st = promise_size G most xs t st.store st₁.store p.0 in
    let k = turn G most (tally_after (size_of st) t xs) st₁ st₂ p.1 last.call last.answer h in (
      promise_push G most last xs t st.store st₁ st₂ e p.0 k,
      subst (λ x. Matches G x st₂) (sym (after_push G most last (size_of st) t xs)) (subst (λ n. Matches G (tallied n (tally_after (size_of st) t xs) last.call last.answer) st₂) e k.matched),
    )

-- and it is answered as the tally says
pub tell_more : {B : Type 0} (G : Group B) (most : ℕ) (st st₁ st₂ : State B) (xs : List (Turn B)) (last : Turn B) → CarriesOn G most st xs st₁ → Tells G most st xs → Made G most st₁ last.call last.answer st₂ → Tells G most st (xs ++ last ∷ [])
tell_more G most st st₁ st₂ xs last c d h t M =
    let p = c t M in
    let e : size_of st₁ ≡ size_of st = promise_size G most xs t st.store st₁.store p.0 in
    told_push (size_of st) most last xs t (d t M) (subst (λ n. Told n most (tally_after (size_of st) t xs) last.call last.answer) e (told G (tally_after (size_of st) t xs) st₁ p.1 most last.call last.answer st₂ h))
