-- Two lost stations can be rebuilt in exactly one way.
use Rattle.std.proofs.Common.{◌≡◌, ℕ, zero, suc, ◌+◌, ◌-◌, ◌*◌, ◌%◌, ◌<◌, ◌≤◌, Bool, true, false, cond, ◌≢◌, ◌⊎◌, sym, refl, ap, ◌∙◌, subst, inl, inr, le_refl, not-suc-le-zero, mod-eq_of_lt, arith}
use native.Mathlib.Nat.{le_step}
use Rattle.std.proofs.lemmas.Bool.{both_ways}
use Rattle.kinds.specs.Group.{Group}
use Rattle.code.specs.Rules.{Blocks, Codeword, Agree}
use Rattle.code.specs.Rebuilt.{absentees, Without, RebuildsPair, Rebuilds, Free, Hidden, Stands}
use Rattle.code.proofs.Primes.{upto}
use Rattle.code.proofs.Walk.{Walk, walk}
use Rattle.code.proofs.Rows.{ordered, neighbourhood_none, diagonal_none}
use Rattle.code.proofs.Only.{only_one}
use Rattle.code.proofs.Exists.{rebuilt, off_lost, codeword}
use Rattle.code.proofs.Unsettled.{hidden}
use Rattle.code.proofs.Inverse.{inverse}

-- the stations that are absent, where there are two
pub record Pair (absent : ℕ → Bool) (n : ℕ) : Type 0 where
  pub i : ℕ
  pub j : ℕ
  pub before : i < j
  pub below : j < n
  pub lost_i : absent i ≡ true
  pub lost_j : absent j ≡ true
  pub others : (k : ℕ) → k < n → k ≢ i → k ≢ j → absent k ≡ false

-- what one station adds to the count
counted : (b : Bool) → ((b ≡ true) × (◌≡◌ {A = ℕ} (cond b 1 0) 1)) ⊎ ((b ≡ false) × (◌≡◌ {A = ℕ} (cond b 1 0) 0))
counted true = inl (refl, refl)
counted false = inr (refl, refl)

-- where the count is 0, 1 or 2
pub none_absent : (absent : ℕ → Bool) (n : ℕ) → absentees absent n ≡ 0 → (k : ℕ) → k < n → absent k ≡ false
none_absent absent zero e = λ k l. absurd (not-suc-le-zero l)
none_absent absent (suc n) e = elim (counted (absent n)) [
  | inl c ↦ absurd (omega arith)
  | inr c ↦ upto (λ k. absent k ≡ false) n (none_absent absent n (omega arith)) c.0
]

pub one_absent : (absent : ℕ → Bool) (n : ℕ) → absentees absent n ≡ 1 → (i : ℕ) × (i < n) × (absent i ≡ true) × ((k : ℕ) → k < n → k ≢ i → absent k ≡ false)
one_absent absent zero e = absurd (omega arith)
one_absent absent (suc n) e = elim (counted (absent n)) [
  | inl c ↦ (n, le_refl (suc n), c.0, upto (λ k. k ≢ n → absent k ≡ false) n (λ k l d. none_absent absent n (omega arith) k l) (λ d. absurd (d refl)))
  | inr c ↦ let r : (i : ℕ) × (i < n) × (absent i ≡ true) × ((k : ℕ) → k < n → k ≢ i → absent k ≡ false) = one_absent absent n (omega arith) in
      (r.0, le_step r.1, r.2, upto (λ k. k ≢ r.0 → absent k ≡ false) n r.3 (λ _. c.0))
]

pub two_absent : (absent : ℕ → Bool) (n : ℕ) → absentees absent n ≡ 2 → Pair absent n
two_absent absent zero e = absurd (omega arith)
two_absent absent (suc n) e = elim (counted (absent n)) [
  | inl c ↦ let r : (i : ℕ) × (i < n) × (absent i ≡ true) × ((k : ℕ) → k < n → k ≢ i → absent k ≡ false) = one_absent absent n (omega arith) in
      record {
        i = r.0;
        j = n;
        before = r.1;
        below = le_refl (suc n);
        lost_i = r.2;
        lost_j = c.0;
        others = upto (λ k. k ≢ r.0 → k ≢ n → absent k ≡ false) n (λ k l d _. r.3 k l d) (λ _ d. absurd (d refl));
      }
  | inr c ↦ let r : Pair absent n = two_absent absent n (omega arith) in
      record {
        i = r.i;
        j = r.j;
        before = r.before;
        below = le_step r.below;
        lost_i = r.lost_i;
        lost_j = r.lost_j;
        others = upto (λ k. k ≢ r.i → k ≢ r.j → absent k ≡ false) n r.others (λ _ _. c.0);
      }
]

module _ {B : Type 0} (G : Group B) where
  -- where the distance of i and j has an inverse
  pub pair : (n i j e : ℕ) → n % 2 ≡ 1 → i < j → j < n → ((j - i) * e) % n ≡ 1 → RebuildsPair G n i j
  pair n i j e odd lij lj inv =
      let li : i < n = omega arith in
      let ij : i ≢ j = omega arith in
      let p : i + (j - i) ≡ j = omega arith in
      let w : Walk n i j = subst (Walk n i) (ap (λ x. x % n) p ∙ mod-eq_of_lt lj) (walk n i (j - i) e li inv) in
      record {
        exists = λ f. (
          rebuilt G n i j odd li lj ij w f,
          (
            codeword G n i j odd li lj ij w f,
            λ a b la lb h. ordered (λ x y. rebuilt G n i j odd li lj ij w f x y ≡ f x y) a b (off_lost G n i j odd li lj ij w f a b h.0 h.1 h.2 h.3) (off_lost G n i j odd li lj ij w f b a h.2 h.3 h.0 h.1),
          ),
        );
        only = λ f g cf cg h a b la lb _. only_one G n i j odd li lj ij w f g cf cg (λ c d lc ld p q r s. h c d lc ld (p, q, r, s)) a b la lb;
      }

  -- where each distance has an inverse
  pub every : (n : ℕ) → n % 2 ≡ 1 → ((d : ℕ) → 0 < d → d < n → (e : ℕ) × ((d * e) % n ≡ 1)) → Rebuilds G n
  every n odd inv =
      record {
        exists = λ absent f e. let s : Pair absent n = two_absent absent n e in
            let r : (g : Blocks B) × (Codeword G n g × Agree n (Without s.i s.j) g f) = (at absent s).exists f in
            (r.0, (r.1.0, λ a b la lb h. r.1.1 a b la lb ((lost absent s a h.0).0, (lost absent s a h.0).1, (lost absent s b h.1).0, (lost absent s b h.1).1)));
        only = λ absent f g e cf cg h. let s : Pair absent n = two_absent absent n e in
            (at absent s).only f g cf cg (λ a b la lb d. h a b la lb (s.others a la d.0 d.1, s.others b lb d.2 d.3));
      }
    where
      at : (absent : ℕ → Bool) (s : Pair absent n) → RebuildsPair G n s.i s.j
      at absent s =
          let lt : s.i < s.j = s.before in
          let lj : s.j < n = s.below in
          let v : (e : ℕ) × (((s.j - s.i) * e) % n ≡ 1) = inv (s.j - s.i) (omega arith) (omega arith) in
          pair n s.i s.j v.0 odd lt lj v.1

      lost : (absent : ℕ → Bool) (s : Pair absent n) (a : ℕ) → absent a ≡ false → (a ≢ s.i) × (a ≢ s.j)
      lost absent s a h = (
        λ e. both_ways (absent a) h (ap absent e ∙ s.lost_i),
        λ e. both_ways (absent a) h (ap absent e ∙ s.lost_j),
      )

  -- the last two stations are one apart
  pub free : (n : ℕ) → n % 2 ≡ 1 → 3 ≤ n → Free G n
  free n odd l =
      let p : n - 1 - (n - 2) ≡ 1 = omega arith in
      let q : 1 < n = omega arith in
      let r : RebuildsPair G n (n - 2) (n - 1) = pair n (n - 2) (n - 1) 1 odd (omega arith) (omega arith) (ap (λ d. (d * 1) % n) p ∙ mod-eq_of_lt q) in
      record {
        exists = λ f. ((r.exists f).0, ((r.exists f).1.0, λ a b la lb _. (r.exists f).1.1 a b (omega arith) (omega arith) (omega arith)));
        only = λ f g cf cg h. r.only f g cf cg (λ a b la lb d. h a b (omega arith) (omega arith) tt);
      }

  -- none at each pair is a codeword
  pub zeros : (n : ℕ) → Codeword G n (λ _ _. G.none)
  zeros n =
      record {
        neighbourhoods = λ h l. neighbourhood_none G n (λ _ _. G.none) h (λ k _. refl);
        diagonals = λ m l. diagonal_none G n (λ _ _. G.none) (λ a b _ _. refl) m;
      }

  -- a hidden codeword would be a second way to rebuild that one
  pub cannot : (n i j c : ℕ) → n % 2 ≡ 1 → i < j → j < n → 1 < c → n % c ≡ 0 → (j - i) % c ≡ 0 → RebuildsPair G n i j → (x : B) → x ≡ G.none
  cannot n i j c odd lij lj lc cn cd r x =
      let f : Blocks B = (hidden G n i j c odd lij lj lc cn cd x).0 in
      let h : Hidden G n i j x f = (hidden G n i j c odd lij lj lc cn cd x).1 in
      sym h.shown.4 ∙ r.only f (λ _ _. G.none) h.code (zeros n) h.others i h.shown.0 (omega arith) h.shown.1 tt

-- the theorem
pub stands : {B : Type 0} (G : Group B) → Stands G
stands G =
    record {
      inverse = pair G;
      every = every G;
      prime = λ n odd p. every G n odd (inverse n p);
      size = λ n p. every G n p.0 (inverse n p.2);
      free = free G;
      hidden = hidden G;
      cannot = cannot G;
    }
