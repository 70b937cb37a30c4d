-- The rows that a rebuild lays are those of the codeword.
use Rattle.std.proofs.Common.{◌≡◌, ℕ, suc, ◌+◌, ◌-◌, ◌%◌, ◌<◌, ◌≤◌, Bool, false, ◌≢◌, List, length, take, drop, get_or, set, sym, ap, ◌∙◌, subst, ap₂, inl, inr, ◌++◌, arith, length-set}
use Rattle.std.proofs.lemmas.List.{get_or-set_same, get_or-set_other, get_or-take, get_or-drop, get_or_append_left, get_or-append-add}
use Rattle.std.proofs.lemmas.Bool.{cases_eq, both_ways}
use Rattle.std.proofs.lemmas.Bool.Decides.{nat_tests}
use Rattle.kinds.specs.Group.{Group}
use Rattle.code.specs.Rules.{Blocks, of, neighbourhood, diagonal}
use Rattle.code.specs.Sizes.{OddPrime}
use Rattle.code.specs.declared.places.Pair.{Pair}
use Rattle.code.proofs.Exists.{near, across, change, drift as drift_of, third, row_i, row_j, rebuilt, at_i, at_j, loop_i, off_lost, row_i_j, row_i_far, row_j_j, row_j_far, outside_cong, codeword}
use Rattle.code.proofs.Lost.{kept}
use Rattle.code.proofs.Rows.{ordered, of_swap, neighbourhood_cong, diagonal_cong}
use Rattle.code.proofs.Stations.{walk_of, walk_at}
use Rattle.code.proofs.Sums.{sum_cong}
use Rattle.code.proofs.Walk.{Walk, far}
use Rattle.store.specs.Meaning.{Meaning}
use Rattle.store.specs.Standing.{standing}
use Rattle.recovery.specs.Recovery.{Two, Rows}
use Rattle.recovery.specs.Work.{station, block_at, gathered, all_gathered, first_closed, second_closed}

-- a row with two blocks laid: what is at a place
pub laid_twice : {B : Type 0} (row : List B) (p q k : ℕ) (x y d z : B) → p < length row → q < length row → p ≢ q
    → (k ≡ p → x ≡ z) → (k ≡ q → y ≡ z) → (k ≢ p → k ≢ q → get_or row k d ≡ z) → get_or (set (set row p x) q y) k d ≡ z
laid_twice row p q k x y d z lp lq pq at_p at_q far = elim (cases_eq k q) [
  | inl e ↦ ap (λ s. get_or (set (set row p x) q y) s d) e ∙ get_or-set_same (set row p x) q y d (simp length-set lq) ∙ at_q e
  | inr f ↦ get_or-set_other (set row p x) q k y d f ∙ (elim (cases_eq k p) [
    | inl e ↦ ap (λ s. get_or (set row p x) s d) e ∙ get_or-set_same row p x d lp ∙ at_p e
    | inr f' ↦ get_or-set_other row p k x d f' ∙ far f' f
  ])
]

-- what is said of a walk's numbers, of equal ones
pub along : (P : ℕ → ℕ → ℕ → Type 0) (n i j n' i' j' : ℕ) → n ≡ n' → i ≡ i' → j ≡ j' → P n i j → P n' i' j'
along P n i j n' i' j' en ei ej h = subst (λ n. P n i' j') en (subst (λ i. P n i j') ei (subst (P n i) ej h))

-- two rows at the front of an area
pub joined : {B : Type 0} (G : Group B) (m : Meaning B) (x : Pair) (first second rest : List B) → length first ≡ m.size → length second ≡ m.size
    → Rows G m x first second → Rows G m x (take m.size (first ++ (second ++ rest))) (drop m.size (first ++ (second ++ rest)))
joined G m x first second rest lf ls r = record {
  word = r.word;
  code = r.code;
  agrees = r.agrees;
  smaller = λ k lk. get_or-take m.size (first ++ (second ++ rest)) k G.none lk ∙ get_or_append_left first (second ++ rest) G.none k (omega arith) ∙ r.smaller k lk;
  larger = λ k lk. get_or-drop m.size (first ++ (second ++ rest)) k G.none ∙ ap (λ p. get_or (first ++ (second ++ rest)) (p + k) G.none) (sym lf) ∙ get_or-append-add first (second ++ rest) k G.none ∙ get_or_append_left second rest G.none k (omega arith) ∙ r.larger k lk;
}

module _ {B : Type 0} (G : Group B) (m : Meaning B) (prime : OddPrime m.size) (pair : Pair) (two : Two m pair) where
  open G use {none, sum as ◌⊕◌}

  infixl 60 ◌⊕◌
  abbrev n : ℕ
  n = m.size

  abbrev absent : ℕ → Bool
  absent = m.out

  abbrev f : Blocks B
  f = m.block

  abbrev i : ℕ
  i = pair.smaller

  abbrev j : ℕ
  j = pair.larger

  odd : n % 2 ≡ 1
  odd = prime.0

  lij : i < j
  lij = two.before

  lj : j < n
  lj = two.below

  li : i < n
  li = omega (arith, lij, lj)

  ij : i ≢ j
  ij = omega (arith, lij)

  ln : 3 ≤ n
  ln = omega (arith, prime.0, prime.2.0)

  w : Walk n i j
  w = walk_of n i j prime.2 lij lj

  w_at : (t : ℕ) → w.at t ≡ station n i j t
  w_at t = walk_at n i j lij lj w t

  -- a pair without absent stations is one with neither i nor j
  stands : (s : ℕ) → absent s ≡ false → (s ≢ i) × (s ≢ j)
  stands s e = (
    λ d. both_ways (absent s) e (ap absent d ∙ two.lost_smaller),
    λ d. both_ways (absent s) e (ap absent d ∙ two.lost_larger),
  )

  -- what is left without the absent stations
  left : (a b : ℕ) → a < n → b < n → standing G m a b ≡ kept G i j f a b
  left a b la lb = grind (arith, nat_tests, two.others a la, two.others b lb, stands a, stands b)

  abbrev N : ℕ → B
  N = near G n i j odd li lj ij w f

  abbrev D : ℕ → B
  D = across G n i j odd li lj ij w f

  near_is : (k : ℕ) → k < n → neighbourhood G n (standing G m) k ≡ N k
  unfolding near
  near_is k lk =
      neighbourhood_cong G n (standing G m) (kept G i j f) k (λ h lh _. ordered (λ a b. standing G m a b ≡ kept G i j f a b) k h (left k h lk lh) (left h k lh lk))

  across_is : (k : ℕ) → diagonal G n (standing G m) ((i + k) % n) ≡ D k
  unfolding across
  across_is k = diagonal_cong G n (standing G m) (kept G i j f) ((i + k) % n) (λ a b la lb. left a b la (omega arith))

  -- the steps of a rebuild: the sums are laid, the walk gives the drift, and then the rows of both are opened and closed
  module _ (near across drift open_first open_second first second : List B) (x : B)
      (near_laid : (k : ℕ) → k < n → block_at G near k ≡ neighbourhood G n (standing G m) k)
      (across_laid : (k : ℕ) → k < n → block_at G across k ≡ diagonal G n (standing G m) ((i + k) % n))
      (walked : (s : ℕ) → s + 2 < n → block_at G drift (station n i j (s + 2)) ≡ gathered G n i j near across s)
      (x_is : x ≡ block_at G across j ⊕ all_gathered G n i j drift)
      (first_opened : (k : ℕ) → k < n → block_at G open_first k ≡ x ⊕ block_at G drift k)
      (second_opened : (k : ℕ) → k < n → block_at G open_second k ≡ block_at G near k ⊕ block_at G open_first k)
      (first_long : length open_first ≡ n)
      (second_long : length open_second ≡ n)
      (first_is : first ≡ first_closed G n i j across open_first open_second)
      (second_is : second ≡ second_closed G n i j across open_first open_second) where
    abbrev R : ℕ → B
    R = row_i G n i j odd li lj ij w f

    abbrev S : ℕ → B
    S = row_j G n i j odd li lj ij w f

    abbrev g : Blocks B
    g = rebuilt G n i j odd li lj ij w f

    near_at : (k : ℕ) → k < n → block_at G near k ≡ N k
    near_at k lk = near_laid k lk ∙ near_is k lk

    across_at : (k : ℕ) → k < n → block_at G across k ≡ D k
    across_at k lk = across_laid k lk ∙ across_is k

    -- what the walk gathers
    change_is : (s : ℕ) → gathered G n i j near across s ≡ change G n i j odd li lj ij w f s
    unfolding change
    change_is s =
        sum_cong G s (λ u _.
        let p : u + 2 ≡ suc (suc u) = omega arith in
        let q : u + 3 ≡ suc (suc (suc u)) = omega arith in
        let a : station n i j (u + 2) ≡ w.at (suc (suc u)) = ap (station n i j) p ∙ sym (w_at (suc (suc u))) in
        let b : station n i j (u + 3) ≡ w.at (suc (suc (suc u))) = ap (station n i j) q ∙ sym (w_at (suc (suc (suc u)))) in
        ap₂ ◌⊕◌
        (ap (block_at G near) a ∙ near_at (w.at (suc (suc u))) (w.below (suc (suc u))))
        (ap (block_at G across) b ∙ across_at (w.at (suc (suc (suc u)))) (w.below (suc (suc (suc u))))))

    -- the same by station
    drift_is : (k : ℕ) → k < n → k ≢ i → k ≢ j → block_at G drift k ≡ drift_of G n i j odd li lj ij w f k
    unfolding drift_of
    drift_is k lk di dj =
        let t : ℕ = w.time k in
        let lt : t < n = w.in_time k lk in
        let here : w.at t ≡ k = w.at_time k lk in
        let t0 : t ≢ 0 = (λ e. di (sym here ∙ ap w.at e ∙ w.start)) in
        let t1 : t ≢ 1 = (λ e. dj (sym here ∙ ap w.at e ∙ w.second)) in
        let p : t - 2 + 2 ≡ t = omega arith in
        ap (block_at G drift) (sym (ap (station n i j) p ∙ sym (w_at t) ∙ here)) ∙ walked (t - 2) (omega arith) ∙ change_is (t - 2)

    third_is : x ≡ third G n i j odd li lj ij w f
    unfolding third
    third_is = x_is ∙ ap₂ ◌⊕◌ (across_at j lj) (outside_cong G i j n (block_at G drift) (drift_of G n i j odd li lj ij w f) drift_is)

    -- the rows away from i and j
    open_i : (k : ℕ) → k < n → k ≢ i → k ≢ j → block_at G open_first k ≡ R k
    open_i k lk di dj = first_opened k lk ∙ ap₂ ◌⊕◌ third_is (drift_is k lk di dj) ∙ sym (row_i_far G n i j odd li lj ij w f k dj)

    open_j : (k : ℕ) → k < n → k ≢ i → k ≢ j → block_at G open_second k ≡ S k
    open_j k lk di dj = second_opened k lk ∙ ap₂ ◌⊕◌ (near_at k lk) (open_i k lk di dj) ∙ sym (row_j_far G n i j odd li lj ij w f k dj)

    -- the pairs of i and j
    between : block_at G across j ≡ of g i j
    between = across_at j lj ∙ sym (row_i_j G n i j odd li lj ij w f) ∙ sym (at_i G n i j odd li lj ij w f j (λ e. ij (sym e)))

    last_j : block_at G across (station n i j 2) ⊕ block_at G open_first (station n i j 2) ≡ of g j j
    last_j =
        let d : (w.at 2 ≢ i) × (w.at 2 ≢ j) = far li w 2 (omega arith) ln in
        ap (λ k. block_at G across k ⊕ block_at G open_first k) (sym (w_at 2))
        ∙ ap₂ ◌⊕◌ (across_at (w.at 2) (w.below 2)) (open_i (w.at 2) (w.below 2) d.0 d.1)
        ∙ sym (row_j_j G n i j odd li lj ij w f) ∙ sym (at_j G n i j odd li lj ij w f j (λ e. ij (sym e)))

    last_i : block_at G across i ⊕ block_at G open_second (station n i j (n - 1)) ≡ of g i i
    last_i =
        let l : 2 ≤ n - 1 = omega (arith, ln) in
        let m : n - 1 < n = omega (arith, ln) in
        let d : (w.at (n - 1) ≢ i) × (w.at (n - 1) ≢ j) = far li w (n - 1) l m in
        ap₂ ◌⊕◌ (across_at i li) (ap (block_at G open_second) (sym (w_at (n - 1))) ∙ open_j (w.at (n - 1)) (w.below (n - 1)) d.0 d.1)
        ∙ sym (loop_i G n i j odd li lj ij w f)

    first_row : (k : ℕ) → k < n → block_at G first k ≡ of g i k
    first_row k lk = ap (λ r. block_at G r k) first_is
        ∙ laid_twice open_first j i k _ _ none (of g i k) (omega arith) (omega arith) (λ e. ij (sym e))
        (λ e. between ∙ ap (of g i) (sym e)) (λ e. last_i ∙ ap (of g i) (sym e)) (λ d d'. open_i k lk d' d ∙ sym (at_i G n i j odd li lj ij w f k d'))

    second_row : (k : ℕ) → k < n → block_at G second k ≡ of g j k
    second_row k lk = ap (λ r. block_at G r k) second_is
        ∙ laid_twice open_second i j k _ _ none (of g j k) (omega arith) (omega arith) ij
        (λ e. between ∙ of_swap g i j ∙ ap (of g j) (sym e)) (λ e. last_j ∙ ap (of g j) (sym e)) (λ d d'. open_j k lk d d' ∙ sym (at_j G n i j odd li lj ij w f k d))

    -- the rows are those of a codeword
    pub assembled : Rows G m pair first second
    assembled =
        record {
          word = g;
          code = codeword G n i j odd li lj ij w f;
          agrees = λ a b la lb h.
              let p = stands a h.0 in
              let q = stands b h.1 in
              ordered (λ u v. g u v ≡ f u v) a b (off_lost G n i j odd li lj ij w f a b p.0 p.1 q.0 q.1) (off_lost G n i j odd li lj ij w f b a q.0 q.1 p.0 p.1);
          smaller = first_row;
          larger = second_row;
        }
