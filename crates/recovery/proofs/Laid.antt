-- Bits laid in place order.
use Rattle.std.proofs.Common.{◌≡◌, ℕ, ◌+◌, ◌<◌, ◌≤◌, Bool, false, List, length, get_or, set, sym, ap, ◌∙◌, ap₂, inl, inr, arith}
use native.Mathlib.Nat.{max-eq_left, min-eq_right}
use Rattle.std.proofs.lemmas.List.{get_or-set_same, get_or-set_other}
use Rattle.std.proofs.lemmas.Bool.{cases_eq}
use Rattle.code.specs.Places.{pair_place, PairAt}
use Rattle.code.specs.declared.places.Pair.{Pair}

-- one more bit
pub lay_bit : (n p : ℕ) (into : List Bool) (bit : ℕ → ℕ → Bool) (pair : Pair) → PairAt p pair → p < length into
    → ((x y : ℕ) → x < n → y ≤ x → pair_place x y < p → get_or into (pair_place x y) false ≡ bit x y)
    → (v : Bool) → v ≡ bit pair.larger pair.smaller
    → (x y : ℕ) → x < n → y ≤ x → pair_place x y < p + 1 → get_or (set into p v) (pair_place x y) false ≡ bit x y
lay_bit n p into bit pair at long before v here x y lx ly l = elim (cases_eq (pair_place x y) p) [
  | inl e ↦ let o = at.only x y e in
      ap (λ q. get_or (set into p v) q false) e ∙ get_or-set_same into p v false long ∙ here ∙ ap₂ bit (sym o.0 ∙ max-eq_left ly) (sym o.1 ∙ min-eq_right ly)
  | inr d ↦ get_or-set_other into p (pair_place x y) v false d ∙ before x y lx ly (omega arith)
]
