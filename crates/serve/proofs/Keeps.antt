-- Each accepted call keeps a book matched with the tally.
use Rattle.std.proofs.Common.{◌≡◌, ℕ, ◌+◌, ◌<◌, min, max, Bool, true, false, cond, ◌||◌, eqb, ◌≢◌, ◌⊎◌, Some, None, Option, sym, refl, ap, ◌∙◌, subst, ap₂, inl, inr, arith}
use Rattle.std.proofs.Math.Bool.{or-true}
use Rattle.std.proofs.lemmas.Bool.{cases_eq, cases_lt, both_ways, eq-eqb, ne_eqb, or_parts, or_from, ltb-false, lt-ltb, le-ltb}
use Rattle.kinds.specs.Group.{Group}
use Rattle.code.specs.Rules.{of, Codeword}
use Rattle.code.specs.Sizes.{OddPrime}
use Rattle.code.proofs.Rebuild.{zeros}
use Rattle.code.proofs.Rows.{of_swap}
use Rattle.code.proofs.Settled.{settled}
use Rattle.store.specs.Meaning.{Meaning, Remarked}
use Rattle.state.specs.Calls.{too_many, Opened, Filled, FilledNext}
use Rattle.state.specs.Fillings.{stepped}
use Rattle.state.proofs.Fillings.{Framed, framed, without}
use Rattle.serve.specs.Matches.{Matches, FilledPairs}
use Rattle.state.specs.States.{State, state, size_of, absent, absent_count, being_filled, filling_at, Sound, SoundAt}
use Rattle.code.specs.Marks.{turned}
use Rattle.serve.specs.Tally.{Tally, at_start, lost, with_filling, restored}
use Rattle.state.specs.declared.records.Filling.{Filling}

module _ {B : Type 0} (G : Group B) (t : Tally B) (st : State B) (M : Matches G t st) where
  -- a new store and record with the same last writes
  pub rematch : (t' : Tally B) (st' : State B) → size_of st' ≡ size_of st → t'.last ≡ t.last
      → ((s : ℕ) → s < size_of st → t'.absent s ≡ absent st' s) → t'.filling ≡ st'.filling → Sound st'
      → ((p q : ℕ) → p < size_of st → q < size_of st → absent st' p ≡ false → absent st' q ≡ false → of st'.store.block p q ≡ of M.word p q)
      → FilledPairs (absent st') st'.store.block M.word st'.filling → Matches G t' st'
  rematch t' st' e l gone f sound standing filled = record {
    prime = subst OddPrime (sym e) M.prime;
    gone = λ s ls. gone s (omega (arith, e));
    filling = f;
    sound = sound;
    word = M.word;
    code = subst (λ n. Codeword G n M.word) (sym e) M.code;
    last = λ p q lp lq d. M.last p q (omega (arith, e)) (omega (arith, e)) (omega (arith, e, d.0), omega (arith, e, d.1)) ∙ ap (λ x. of x p q) (sym l);
    standing = λ p q lp lq k. standing p q (omega (arith, e)) (omega (arith, e)) k.0 k.1;
    filled = filled;
  }

-- a station that is out or being filled is absent
out_absent : {B : Type 0} (m : Meaning B) (f : Option Filling) (s : ℕ) → absent (state m f) s ≡ false → (m.out s ≡ false) × (being_filled f s ≡ false)
out_absent m f s e = or_parts (m.out s) (being_filled f s) e

module _ {B : Type 0} (G : Group B) (t : Tally B) (m m' : Meaning B) (s : ℕ) where
  -- s was lost
  pub keep_lose : (f : Option Filling) → Matches G t (state m f) → absent (state m f) s ≡ false → Remarked m s true m'
      → Matches G (lost t s) (state m' f)
  keep_lose f M here r =
      rematch G t (state m f) M (lost t s) (state m' f) r.size refl gone M.filling (sound f M.sound here) standing (filled f M.sound here M.filled)
    where
      now_out : (k : ℕ) → k < m.size → m'.out k ≡ cond (eqb k s) true (m.out k)
      now_out k l = r.out k l

      gone : (k : ℕ) → k < m.size → turned t.absent s true k ≡ absent (state m' f) k
      gone k l = elim (cases_eq k s) [
        | inl e ↦ let p : eqb k s ≡ true = eq-eqb k s e in rw (now_out k l, p)
        | inr d ↦ let p : eqb k s ≡ false = ne_eqb k s d in rw (now_out k l, p) (M.gone k l)
      ]

      sound : (f : Option Filling) → Sound (state m f) → absent (state m f) s ≡ false → Sound (state m' f)
      sound None w h = tt
      sound (Some f) w h =
          let u = f.station in
          let d : u ≢ s = (λ e. both_ways (eqb s u) (out_absent m (Some f) s h).1 (eq-eqb s u (sym e))) in
          (omega (arith, r.size, w.0), r.out u w.0 ∙ ap (λ b. cond b true (m.out u)) (ne_eqb u s d) ∙ w.1, omega (arith, r.size, w.2))

      apart : (f : Option Filling) (k : ℕ) → k < m.size → absent (state m' f) k ≡ false → (k ≢ s) × (absent (state m f) k ≡ false)
      apart f k l h =
          let p = out_absent m' f k h in
          let d : k ≢ s = (λ e. both_ways (m'.out k) p.0 (now_out k l ∙ ap (λ b. cond b true (m.out k)) (eq-eqb k s e))) in
          (d, or_from (m.out k) (being_filled f k) (sym (now_out k l ∙ ap (λ b. cond b true (m.out k)) (ne_eqb k s d)) ∙ p.0) p.1)

      standing : (p q : ℕ) → p < m.size → q < m.size → absent (state m' f) p ≡ false → absent (state m' f) q ≡ false → of m'.block p q ≡ of M.word p q
      standing p q lp lq hp hq =
          r.others p q lp lq (apart f p lp hp).0 (apart f q lq hq).0 ∙ M.standing p q lp lq ((apart f p lp hp).1, (apart f q lq hq).1)

      filled : (f : Option Filling) → Sound (state m f) → absent (state m f) s ≡ false → FilledPairs (absent (state m f)) m.block M.word f → FilledPairs (absent (state m' f)) m'.block M.word f
      filled None w h F = tt
      filled (Some f) w h F = λ q lq c.
          let u = f.station in
          let lqn : q < m.size = omega (arith, w.2) in
          let d : u ≢ s = (λ e. both_ways (eqb s u) (out_absent m (Some f) s h).1 (eq-eqb s u (sym e))) in
          elim c [
            | inl e ↦ r.others u q w.0 lqn d (apart (Some f) q lqn e).0 ∙ F q lq (inl (apart (Some f) q lqn e).1)
            | inr e ↦ r.others u q w.0 lqn d (λ x. d (sym e ∙ x)) ∙ F q lq (inr e)
          ]

  -- s was fitted
  pub keep_fit : Matches G t (state m None) → s < m.size → m.out s ≡ true → Remarked m s false m'
      → Matches G (with_filling t (filling_at s 0)) (state m' (filling_at s 0))
  keep_fit M ls o r =
      rematch G t (state m None) M (with_filling t (filling_at s 0)) (state m' (filling_at s 0)) r.size refl (λ k l. M.gone k l ∙ same k l) refl
      (omega (arith, r.size), r.out s ls ∙ ap (λ b. cond b false (m.out s)) (eq-eqb s s refl), omega arith) standing (λ q l. absurd (omega arith))
    where
      same : (k : ℕ) → k < m.size → absent (state m None) k ≡ absent (state m' (filling_at s 0)) k
      same k l = elim (cases_eq k s) [
        | inl e ↦ let p : eqb k s ≡ true = eq-eqb k s e in let q : m.out k ≡ true = ap m.out e ∙ o in rw (r.out k l, p, q)
        | inr d ↦ let p : eqb k s ≡ false = ne_eqb k s d in rw (r.out k l, p)
      ]

      standing : (p q : ℕ) → p < m.size → q < m.size → absent (state m' (filling_at s 0)) p ≡ false → absent (state m' (filling_at s 0)) q ≡ false → of m'.block p q ≡ of M.word p q
      standing p q lp lq hp hq =
          r.others p q lp lq (λ e. both_ways (eqb p s) (out_absent m' (filling_at s 0) p hp).1 (eq-eqb p s e)) (λ e. both_ways (eqb q s) (out_absent m' (filling_at s 0) q hq).1 (eq-eqb q s e))
          ∙ M.standing p q lp lq (same p lp ∙ hp, same q lq ∙ hq)

  -- the filling of s was abandoned
  pub keep_abandon : (k : ℕ) → Matches G t (state m (filling_at s k)) → Remarked m s true m' → Matches G (with_filling t None) (state m' None)
  keep_abandon k M r =
      rematch G t (state m (filling_at s k)) M (with_filling t None) (state m' None) r.size refl (λ j l. M.gone j l ∙ same j l) refl tt standing tt
    where
      same : (j : ℕ) → j < m.size → absent (state m (filling_at s k)) j ≡ absent (state m' None) j
      same j l = elim (cases_eq j s) [
        | inl e ↦ let p : eqb j s ≡ true = eq-eqb j s e in rw (r.out j l, p) (or-true (m.out j))
        | inr d ↦ let p : eqb j s ≡ false = ne_eqb j s d in rw (r.out j l, p)
      ]

      standing : (p q : ℕ) → p < m.size → q < m.size → absent (state m' None) p ≡ false → absent (state m' None) q ≡ false → of m'.block p q ≡ of M.word p q
      standing p q lp lq hp hq =
          let a : absent (state m (filling_at s k)) p ≡ false = same p lp ∙ hp in
          let b : absent (state m (filling_at s k)) q ≡ false = same q lq ∙ hq in
          r.others p q lp lq (λ e. both_ways (eqb p s) (out_absent m (filling_at s k) p a).1 (eq-eqb p s e)) (λ e. both_ways (eqb q s) (out_absent m (filling_at s k) q b).1 (eq-eqb q s e))
          ∙ M.standing p q lp lq (a, b)

module _ {B : Type 0} (G : Group B) (t : Tally B) (m : Meaning B) (s : ℕ) where
  -- the station s, filled with all partners, stands
  pub keep_finish : Matches G t (state m (filling_at s m.size)) → Matches G (restored t s) (state m None)
  keep_finish M =
      rematch G t (state m (filling_at s m.size)) M (restored t s) (state m None) refl refl gone refl tt standing tt
    where
      was : (k : ℕ) → k ≢ s → absent (state m None) k ≡ false → absent (state m (filling_at s m.size)) k ≡ false
      was k d h = or_from (m.out k) (eqb k s) (out_absent m None k h).0 (ne_eqb k s d)

      gone : (k : ℕ) → k < m.size → turned t.absent s false k ≡ absent (state m None) k
      gone k l = elim (cases_eq k s) [
        | inl e ↦ let p : eqb k s ≡ true = eq-eqb k s e in let q : m.out k ≡ false = ap m.out e ∙ M.sound.1 in rw (p, q)
        | inr d ↦ let p : eqb k s ≡ false = ne_eqb k s d in let h : t.absent k ≡ (m.out k || eqb k s) = M.gone k l in rw (p, h, p)
      ]

      -- a pair of s
      with_s : (q : ℕ) → q < m.size → absent (state m None) q ≡ false → of m.block s q ≡ of M.word s q
      with_s q l h = elim (cases_eq q s) [ inl e ↦ M.filled q l (inr e) | inr d ↦ M.filled q l (inl (was q d h)) ]

      standing : (p q : ℕ) → p < m.size → q < m.size → absent (state m None) p ≡ false → absent (state m None) q ≡ false → of m.block p q ≡ of M.word p q
      standing p q lp lq hp hq = elim (cases_eq p s) [
        | inl e ↦ ap (λ x. of m.block x q) e ∙ with_s q lq hq ∙ ap (λ x. of M.word x q) (sym e)
        | inr d ↦ elim (cases_eq q s) [
          | inl e ↦ of_swap m.block p q ∙ ap (λ x. of m.block x p) e ∙ with_s p lp hp ∙ ap (λ x. of M.word x p) (sym e) ∙ of_swap M.word q p
          | inr c ↦ M.standing p q lp lq (was p d hp, was q c hq)
        ]
      ]

module _ {B : Type 0} (G : Group B) (t : Tally B) (m m' : Meaning B) (s k : ℕ) (M : Matches G t (state m (filling_at s k))) where
  -- one more pair of s was filled
  module _ (lk : k < m.size) (few : too_many (state m (filling_at s k)) ≡ false) (F : Filled G (state m (filling_at s k)) s k m') where
    abbrev before : State B
    before = state m (filling_at s k)

    abbrev after : State B
    after = state m' (filling_at s (k + 1))

    ls : s < m.size
    ls = M.sound.0

    -- what was recovered is the codeword's block
    right : F.block ≡ of M.word s k
    right =
        settled G m.size M.prime (absent before) m.block M.word M.code M.standing s k ls lk F.block F.recovered
        (inr (omega (arith, ltb-false 2 (absent_count before) few)))

    frame : Framed m s k m'
    frame = framed G before s k m' F

    same : (j : ℕ) → j < m.size → absent before j ≡ absent after j
    same j l = ap (λ b. b || eqb j s) (sym (frame.out j l))

    -- the pair itself, where its partner is in
    here : m.out k ≡ false → of m'.block s k ≡ of M.word s k
    here e = (F.put e).here ∙ right

    not_s : (j : ℕ) → absent before j ≡ false → j ≢ s
    not_s j h e = both_ways (eqb j s) (out_absent m (filling_at s k) j h).1 (eq-eqb j s e)

    standing : (p q : ℕ) → p < m.size → q < m.size → absent after p ≡ false → absent after q ≡ false → of m'.block p q ≡ of M.word p q
    standing p q lp lq hp hq =
        let a : absent before p ≡ false = same p lp ∙ hp in
        let b : absent before q ≡ false = same q lq ∙ hq in
        without G before s k m' F p q lp lq (not_s p a) (not_s q b) ∙ M.standing p q lp lq (a, b)

    filled : (q : ℕ) → q < k + 1 → (absent after q ≡ false) ⊎ (q ≡ s) → of m'.block s q ≡ of M.word s q
    filled q lq c = elim (cases_eq q k) [
      | inl e ↦ ap (of m'.block s) e ∙ here (ap m.out (sym e) ∙ inside c) ∙ ap (of M.word s) (sym e)
      | inr d ↦ frame.others s q ls (omega arith) (λ x. d (other q x.0 x.1)) ∙ M.filled q (omega arith) (was c)
    ]
      where
        lqn : q < m.size
        lqn = omega arith

        inside : (absent after q ≡ false) ⊎ (q ≡ s) → m.out q ≡ false
        inside (inl h) = (out_absent m (filling_at s k) q (same q lqn ∙ h)).0
        inside (inr e) = ap m.out e ∙ M.sound.1

        was : (absent after q ≡ false) ⊎ (q ≡ s) → (absent before q ≡ false) ⊎ (q ≡ s)
        was (inl h) = inl (same q lqn ∙ h)
        was (inr e) = inr e

        other : (q : ℕ) → max s q ≡ max s k → min s q ≡ min s k → q ≡ k
        other q x y = omega arith

    pub keep_step : Matches G (with_filling t (filling_at s (k + 1))) (state m' (filling_at s (k + 1)))
    keep_step =
        rematch G t before M (with_filling t (filling_at s (k + 1))) after frame.size refl (λ j l. M.gone j l ∙ same j l) refl
        (omega (arith, frame.size, M.sound.0), frame.out s ls ∙ M.sound.1, omega (arith, frame.size)) standing filled

  -- a fill that is accepted
  pub keep_fill : too_many (state m (filling_at s k)) ≡ false → FilledNext G (state m (filling_at s k)) (filling_at s k) m'
      → Matches G (with_filling t (stepped m.size t.filling)) (state m' (stepped m.size (filling_at s k)))
  keep_fill few F =
      subst (λ f. Matches G (with_filling t (stepped m.size f)) (state m' (stepped m.size (filling_at s k)))) (sym M.filling)
      (elim (cases_lt k m.size) [
        | inl l ↦ subst (λ c. Matches G (with_filling t (next c)) (state m' (next c))) (sym (lt-ltb k m.size l)) (keep_step l few (F.0 l))
        | inr l ↦ subst (λ c. Matches G (with_filling t (next c)) (state m' (next c))) (sym (le-ltb k m.size l))
            (subst (λ x. Matches G (with_filling t (filling_at s k)) (state x (filling_at s k))) (sym (F.1 l)) still)
      ])
    where
      -- the record after it, where there was a next partner and where there was none
      next : Bool → Option Filling
      next c = cond c (filling_at s (k + 1)) (filling_at s k)

      still : Matches G (with_filling t (filling_at s k)) (state m (filling_at s k))
      still = subst (λ f. Matches G (with_filling t f) (state m (filling_at s k))) M.filling M

module _ {B : Type 0} (G : Group B) (st st' : State B) where
  -- a book that was just opened
  pub keep_open : ((s : ℕ) → s < size_of st → st.store.out s ≡ false) → Opened G st st' → Matches G (at_start G) st'
  keep_open all o = record {
    prime = subst OddPrime (sym o.size) o.prime;
    gone = λ s l. sym (ap₂ ◌||◌ (o.out s (omega (arith, o.size)) ∙ all s (omega (arith, o.size))) (ap (λ f. being_filled f s) o.filling));
    filling = sym o.filling;
    sound = subst (SoundAt (size_of st') st'.store.out) (sym o.filling) tt;
    word = λ _ _. G.none;
    code = zeros G (size_of st');
    last = λ p q _ _ _. refl;
    standing = λ p q lp lq _. o.blocks p q (omega (arith, o.size)) (omega (arith, o.size));
    filled = subst (FilledPairs (absent st') st'.store.block (λ _ _. G.none)) (sym o.filling) tt;
  }
