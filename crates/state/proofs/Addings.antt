-- Blocks added to the pairs of a store: one pair, then a row, then a codeword.
use Rattle.std.proofs.Common.{◌≡◌, ℕ, ◌+◌, ◌<◌, ◌≤◌, min, max, Bool, true, false, cond, ◌&&◌, ◌||◌, eqb, ◌⊎◌, List, get_or, is_ok, Result, sym, refl, ap, ◌∙◌, subst, ap₂, inl, inr, arith}
use Rattle.std.proofs.Math.Bool.{or_comm}
use Rattle.std.proofs.lemmas.Bool.{cases_eq, and_left, and_right, ne_eqb, eq-eqb, and_from, cond-true, cond-false}
use Rattle.std.proofs.lemmas.Bool.Decides.{nat_tests}
use Rattle.kinds.specs.Group.{Group}
use Rattle.code.specs.Rules.{Blocks, of}
use Rattle.code.proofs.Rows.{ordered}
use Rattle.code.proofs.Sums.{unit, unit_left}
use Rattle.faults.specs.declared.faults.Fault.{Fault}
use Rattle.store.specs.Meaning.{Meaning, get_answer}
use Rattle.recovery.specs.Patterns.{spot}
use Rattle.state.specs.Additions.{row_part, Added}

-- whether a station of a pair is out, by the larger and the smaller
either_out : (out : ℕ → Bool) (p q : ℕ) → (out (max p q) || out (min p q)) ≡ (out p || out q)
either_out out p q = ordered (λ x y. (out x || out y) ≡ (out p || out q)) p q refl (or_comm (out q) (out p))

-- d at one pair, and none elsewhere
module _ {X : Type 0} (none d : X) (a b u v : ℕ) where
  pub spot_here : u ≡ max a b → v ≡ min a b → spot none d a b u v ≡ d
  spot_here p q = cond-true (eqb u (max a b) && eqb v (min a b)) d none (and_from (eqb u (max a b)) (eqb v (min a b)) (eq-eqb u (max a b) p) (eq-eqb v (min a b) q))

  pub spot_other : ((u ≡ max a b) × (v ≡ min a b) → ⊥) → spot none d a b u v ≡ none
  spot_other h = elim (cases_eq u (max a b)) [
    | inl p ↦ cond-false (eqb u (max a b) && eqb v (min a b)) d none (and_right (eqb u (max a b)) (eqb v (min a b)) (ne_eqb v (min a b) (λ q. h (p, q))))
    | inr p ↦ cond-false (eqb u (max a b) && eqb v (min a b)) d none (and_left (eqb u (max a b)) (eqb v (min a b)) (ne_eqb u (max a b) p))
  ]

same_or_other : (a b u v : ℕ) → ((u ≡ max a b) × (v ≡ min a b)) ⊎ ((u ≡ max a b) × (v ≡ min a b) → ⊥)
same_or_other a b u v = elim (cases_eq u (max a b)) [
  | inr p ↦ inr (λ h. p h.0)
  | inl p ↦ elim (cases_eq v (min a b)) [ inl q ↦ inl (p, q) | inr q ↦ inr (λ h. q h.1) ]
]

module _ {B : Type 0} (G : Group B) where
  open G use {none, sum as ◌⊕◌}

  infixl 60 ◌⊕◌
  -- a block that nothing was added to
  with_none : (t : Bool) (x : B) → x ≡ cond t x (x ⊕ none)
  with_none true x = refl
  with_none false x = sym (G.unit x)

  -- and one that was added to twice
  twice : (t : Bool) (x y z u v : B) → y ≡ cond t x (x ⊕ u) → z ≡ cond t y (y ⊕ v) → z ≡ cond t x (x ⊕ (u ⊕ v))
  twice true x y z u v e h = h ∙ e
  twice false x y z u v e h = h ∙ ap (λ w. w ⊕ v) e ∙ G.assoc x u v

  -- the same was added
  pub added_same : (m m' : Meaning B) (f g : Blocks B) → ((u v : ℕ) → u < m.size → v ≤ u → f u v ≡ g u v) → Added G m f m' → Added G m g m'
  added_same m m' f g e h =
      record {
        size = h.size;
        out = h.out;
        blocks = λ p q lp lq. h.blocks p q lp lq ∙ ap (λ w. cond (m.out p || m.out q) (of m.block p q) (of m.block p q ⊕ w)) (e (max p q) (min p q) (omega arith) (omega arith));
      }

  -- one after the other
  pub added_more : (m m' m'' : Meaning B) (f g : Blocks B) → Added G m f m' → Added G m' g m'' → Added G m (λ u v. f u v ⊕ g u v) m''
  added_more m m' m'' f g h k =
      let z : m'.size ≡ m.size = h.size in
      record {
        size = k.size ∙ h.size;
        out = λ s l. k.out s (omega arith) ∙ h.out s l;
        blocks = λ p q lp lq. twice (m.out p || m.out q) (of m.block p q) (of m'.block p q) (of m''.block p q) (of f p q) (of g p q) (h.blocks p q lp lq)
            (k.blocks p q (omega arith) (omega arith) ∙ ap (λ t. cond t (of m'.block p q) (of m'.block p q ⊕ of g p q)) (ap₂ ◌||◌ (h.out p lp) (h.out q lq)));
      }

  module _ (m : Meaning B) (a b : ℕ) (d : B) (la : a < m.size) (lb : b < m.size) where
    -- a pair is refused if one of its stations is out
    out_pair : is_ok (get_answer m a b) ≡ false → (m.out (max a b) || m.out (min a b)) ≡ true
    out_pair e = grind (arith, nat_tests)

    -- whether a station of the same pair is out
    same_out : (p q : ℕ) → max p q ≡ max a b → min p q ≡ min a b → (m.out p || m.out q) ≡ (m.out (max a b) || m.out (min a b))
    same_out p q e h = sym (either_out m.out p q) ∙ ap₂ (λ x y. m.out x || m.out y) e h

    -- the pair was refused
    pub added_not : is_ok (get_answer m a b) ≡ false → Added G m (spot none d a b) m
    added_not ko = record { size = refl; out = λ s _. refl; blocks = at }
      where
        at : (p q : ℕ) → p < m.size → q < m.size → of m.block p q ≡ cond (m.out p || m.out q) (of m.block p q) (of m.block p q ⊕ of (spot none d a b) p q)
        at p q lp lq = elim (same_or_other a b (max p q) (min p q)) [
          | inl e ↦ sym (cond-true (m.out p || m.out q) (of m.block p q) (of m.block p q ⊕ of (spot none d a b) p q) (same_out p q e.0 e.1 ∙ out_pair ko))
          | inr e ↦ with_none (m.out p || m.out q) (of m.block p q)
              ∙ ap (λ x. cond (m.out p || m.out q) (of m.block p q) (of m.block p q ⊕ x)) (sym (spot_other none d a b (max p q) (min p q) e))
        ]

    -- the get was refused
    pub added_refused : (got : Result (Unit {0}) Fault) → false ≡ is_ok got → got ≡ get_answer m a b → Added G m (spot none d a b) m
    added_refused got t e = added_not (ap is_ok (sym e) ∙ sym t)

  module _ (c : ℕ) (row : List B) where
    -- one pair more
    pub row_more : (k : ℕ) (x : B) → k ≤ c → x ≡ get_or row k none → (u v : ℕ) → v ≤ u → row_part G c k row u v ⊕ spot none x c k u v ≡ row_part G c (k + 1) row u v
    row_more k x l e u v lv = go (cases_eq u c) (cases_eq v k)
      where
        go : (u ≡ c) ⊎ ((u ≡ c) → ⊥) → (v ≡ k) ⊎ ((v ≡ k) → ⊥) → row_part G c k row u v ⊕ spot none x c k u v ≡ row_part G c (k + 1) row u v
        go (inl p) (inl q) =
            let s : spot none x c k u v ≡ x = spot_here none x c k u v (omega arith) (omega arith) in
            let r : get_or row v none ≡ x = ap (λ w. get_or row w none) q ∙ sym e in
            grind (arith, nat_tests, unit_left G x)
        go (inl p) (inr q) =
            let s : spot none x c k u v ≡ none = spot_other none x c k u v (λ h. q (omega (arith, h.1))) in
            grind (arith, nat_tests, unit G)
        go (inr p) _ =
            let s : spot none x c k u v ≡ none = spot_other none x c k u v (λ h. p (omega (arith, h.0))) in
            grind (arith, nat_tests, unit G none)

    -- and the block added there
    pub row_step : (m m₁ m₂ : Meaning B) (k e : ℕ) (x : B) → k ≤ c → e ≡ k + 1 → x ≡ get_or row k none → Added G m (row_part G c k row) m₁ → Added G m₁ (spot none x c k) m₂
        → Added G m (row_part G c e row) m₂
    row_step m m₁ m₂ k e x l is at h₁ h₂ =
        subst (λ e. Added G m (row_part G c e row) m₂) (sym is)
        (added_same m m₂ (λ u v. row_part G c k row u v ⊕ spot none x c k u v) (row_part G c (k + 1) row) (λ u v _ lv. row_more k x l at u v lv)
        (added_more m m₁ m₂ (row_part G c k row) (spot none x c k) h₁ h₂))
