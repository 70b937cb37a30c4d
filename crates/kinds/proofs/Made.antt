-- Arrays made place by place.
use Rattle.std.proofs.Common.{◌≡◌, ℕ, zero, suc, ◌+◌, ◌<◌, ◌≤◌, List, get_or, sym, ◌∙◌, subst, add-zero, not-suc-le-zero, arith}
use denote.Param.Members.{Mut}
use Rattle.std.specs.Array.{IsFromFnResultFrom}
use Rattle.std.specs.Fn.{Called}

-- what holds of each answer of a closure that no call changes, at places below a bound, holds of each item
pub made_each :
    {F B : Type 0} (g : Mut F (ℕ × Unit {0}) B) (P : ℕ → B → Type 0) (f : F) (bound : ℕ) →
    ((i : ℕ) (y : B) (f' : F) → i < bound → Called g f (i, tt) y f' → P i y × (f' ≡ f)) →
    (ys : List B) (i n : ℕ) → i + n ≤ bound → IsFromFnResultFrom g f ys i n → (j k : ℕ) (d : B) → j < n → i + j ≡ k → P k (get_or ys k d)
made_each g P f bound step ys i zero h w j k d l e = absurd (not-suc-le-zero l)
made_each g P f bound step ys i (suc n) h (q, y, found, called, rest) zero k d l e =
    subst (λ x. P x (get_or ys x d)) (sym (add-zero i) ∙ e) (subst (P i) (sym (found.1 d)) (step i y q (omega arith) called).0)
made_each g P f bound step ys i (suc n) h (q, y, found, called, rest) (suc j) k d l e =
    made_each g P f bound step ys (i + 1) n (omega arith) (subst (λ u. IsFromFnResultFrom g u ys (i + 1) n) (step i y q (omega arith) called).1 rest) j k d (omega arith) (omega arith)
