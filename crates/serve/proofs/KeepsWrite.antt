-- An accepted write keeps a book matched with the tally.
use Rattle.std.proofs.Common.{◌≡◌, ℕ, ◌+◌, ◌<◌, ◌≤◌, min, max, Bool, true, false, cond, ◌&&◌, ◌||◌, eqb, Some, None, Option, sym, refl, ap, ◌∙◌, subst, ap₂, inl, inr, arith}
use Rattle.std.proofs.lemmas.Bool.{cases_eq, eq-eqb, ne_eqb, or_parts, cond-false, and_left, and_right}
use Rattle.kinds.specs.Group.{Group}
use Rattle.code.specs.Rules.{Blocks, of, changed, Codeword}
use Rattle.code.specs.Sizes.{OddPrime}
use Rattle.code.proofs.Homs.{images, image_code}
use Rattle.code.proofs.Only.{both}
use Rattle.code.proofs.Settled.{settled}
use Rattle.code.proofs.Sums.{laws}
use Rattle.state.specs.Calls.{Wrote}
use Rattle.serve.specs.Matches.{Matches, FilledPairs}
use Rattle.state.specs.States.{State, size_of, absent, absent_count, being_filled, SoundAt}
use Rattle.serve.specs.Tally.{Tally, DataPair, written}
use Rattle.state.specs.declared.records.Filling.{Filling}

module _ {B : Type 0} (G : Group B) (t : Tally B) (st st' : State B) (a b : ℕ) (x : B) (M : Matches G t st) (few : absent_count st ≤ 2) (la : a < size_of st) (lb : b < size_of st) (W : Wrote G st a b x st') where
  open G use {none, sum as ◌⊕◌}

  infixl 60 ◌⊕◌
  -- what was added
  d : B
  d = x ⊕ W.old

  -- what was recovered is the codeword's block, so the last write
  right : W.old ≡ of M.word a b
  right = settled G (size_of st) M.prime (absent st) st.store.block M.word M.code M.standing a b la lb W.old W.recovered (inr few)

  -- the new codeword
  word' : Blocks B
  word' p q = M.word p q ⊕ cond (W.word p q) d none

  code' : Codeword G (size_of st) word'
  unfolding word'
  code' = both G (size_of st) M.word (images G d W.word) M.code (image_code G d (size_of st) W.word W.touched.code)

  of_word' : (p q : ℕ) → of word' p q ≡ of M.word p q ⊕ cond (of W.word p q) d none
  unfolding word'
  of_word' p q = refl

  -- at the written pair it has the new block
  new : of word' a b ≡ x
  unfolding d
  new =
      of_word' a b ∙ ap (λ c. of M.word a b ⊕ cond c d none) W.touched.one ∙ ap (λ y. of M.word a b ⊕ (x ⊕ y)) right
      ∙ simp laws

  -- at any other data pair it stays
  kept : (p q : ℕ) → p + 2 < size_of st → q + 2 < size_of st → ((max p q ≡ max a b) × (min p q ≡ min a b) → ⊥) → of word' p q ≡ of M.word p q
  kept p q lp lq h = of_word' p q ∙ ap (λ c. of M.word p q ⊕ cond c d none) (W.touched.others p q lp lq h) ∙ G.unit (of M.word p q)

  -- a pair of stations that are in took what the codeword took
  follows : (p q : ℕ) → p < size_of st → q < size_of st → st.store.out p ≡ false → st.store.out q ≡ false → of st.store.block p q ≡ of M.word p q → of st'.store.block p q ≡ of word' p q
  unfolding d
  follows p q lp lq op oq e =
      W.blocks p q lp lq ∙ ap₂ (λ u v. cond ((u || v) || cond (of W.word p q) false true) (of st.store.block p q) (of st.store.block p q ⊕ d)) op oq
      ∙ go (of W.word p q) ∙ sym (of_word' p q)
    where
      go : (c : Bool) → cond (cond c false true) (of st.store.block p q) (of st.store.block p q ⊕ d) ≡ of M.word p q ⊕ cond c d none
      go true = ap (λ y. y ⊕ d) e
      go false = e ∙ sym (G.unit (of M.word p q))

  same : (s : ℕ) → s < size_of st → absent st s ≡ absent st' s
  same s l = sym (ap₂ (λ u f. u || being_filled f s) (W.out s l) W.filling)

  inside : (s : ℕ) → absent st s ≡ false → st.store.out s ≡ false
  inside s h = (or_parts (st.store.out s) (being_filled st.filling s) h).0

  agrees : (p q : ℕ) → p < size_of st → q < size_of st → DataPair (size_of st) p q → of word' p q ≡ of (changed t.last a b x) p q
  agrees p q lp lq dp = elim (cases_eq (max p q) (max a b)) [
    | inl e ↦ elim (cases_eq (min p q) (min a b)) [
      | inl f ↦ ap₂ word' e f ∙ new ∙ sym (ap₂ (λ u v. cond (u && v) x (of t.last p q)) (eq-eqb (max p q) (max a b) e) (eq-eqb (min p q) (min a b) f))
      | inr g ↦ kept p q dp.0 dp.1 (λ h. g h.1) ∙ M.last p q lp lq dp ∙ sym (cond-false (eqb (max p q) (max a b) && eqb (min p q) (min a b)) x (of t.last p q) (and_right (eqb (max p q) (max a b)) (eqb (min p q) (min a b)) (ne_eqb (min p q) (min a b) g)))
    ]
    | inr g ↦ kept p q dp.0 dp.1 (λ h. g h.0) ∙ M.last p q lp lq dp ∙ sym (cond-false (eqb (max p q) (max a b) && eqb (min p q) (min a b)) x (of t.last p q) (and_left (eqb (max p q) (max a b)) (eqb (min p q) (min a b)) (ne_eqb (max p q) (max a b) g)))
  ]

  pairs_filled : (f : Option Filling) → SoundAt (size_of st) st.store.out f → FilledPairs (absent st) st.store.block M.word f → FilledPairs (absent st') st'.store.block word' f
  pairs_filled None w F = tt
  pairs_filled (Some f) w F = λ q lq c.
      let u = f.station in
      let lqn : q < size_of st = omega (arith, w.2) in
      elim c [
        | inl h ↦ follows u q w.0 lqn w.1 (inside q (same q lqn ∙ h)) (F q lq (inl (same q lqn ∙ h)))
        | inr e ↦ follows u q w.0 lqn w.1 (ap st.store.out e ∙ w.1) (F q lq (inr e))
      ]

  sound_same : (f : Option Filling) → SoundAt (size_of st) st.store.out f → SoundAt (size_of st') st'.store.out f
  sound_same None w = tt
  sound_same (Some f) w = (omega (arith, W.size, w.0), W.out f.station w.0 ∙ w.1, omega (arith, W.size, w.2))

  pub keep_write : Matches G (written t a b x) st'
  keep_write = record {
    prime = subst OddPrime (sym W.size) M.prime;
    gone = λ s l. M.gone s (omega (arith, W.size)) ∙ same s (omega (arith, W.size));
    filling = M.filling ∙ sym W.filling;
    sound = subst (SoundAt (size_of st') st'.store.out) (sym W.filling) (sound_same st.filling M.sound);
    word = word';
    code = subst (λ k. Codeword G k word') (sym W.size) code';
    last = λ p q lp lq dp. agrees p q (omega (arith, W.size)) (omega (arith, W.size)) (omega (arith, W.size, dp.0), omega (arith, W.size, dp.1));
    standing = λ p q lp lq k.
        let hp : absent st p ≡ false = same p (omega (arith, W.size)) ∙ k.0 in
        let hq : absent st q ≡ false = same q (omega (arith, W.size)) ∙ k.1 in
        follows p q (omega (arith, W.size)) (omega (arith, W.size)) (inside p hp) (inside q hq) (M.standing p q (omega (arith, W.size)) (omega (arith, W.size)) (hp, hq));
    filled = subst (FilledPairs (absent st') st'.store.block word') (sym W.filling) (pairs_filled st.filling M.sound M.filled);
  }
