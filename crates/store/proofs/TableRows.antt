-- What a change of a row or of the marks does to what a table means.
use Rattle.std.proofs.Common.{◌≡◌, ℕ, ◌<◌, min, max, List, length, get_or, set, sym, refl, ap, ◌∙◌, arith}
use Rattle.std.proofs.lemmas.List.{get_or-set_same, get_or-set_other}
use Rattle.code.specs.Places.{pair_place}
use Rattle.code.proofs.Table.{place_only}
use Rattle.store.specs.Meaning.{Written}
use Rattle.store.specs.Tables.{table_meaning}

-- a pair's place, with the larger station first
pub place_ordered : (a b : ℕ) → pair_place (max a b) (min a b) ≡ pair_place a b
place_ordered a b =
    let p : max (max a b) (min a b) ≡ max a b = omega arith in
    let q : min (max a b) (min a b) ≡ min a b = omega arith in
    rw (p, q)

-- a row with a block laid at a pair's place
pub row_written : {B : Type 0} (none : B) (n bits : ℕ) (row : List B) (a b at : ℕ) (x : B) → at ≡ pair_place a b → at < length row → Written (table_meaning none n bits row) a b x (table_meaning none n bits (set row at x))
row_written none n bits row a b at x e l = record {
  size = refl;
  out = λ s _. refl;
  here = ap (λ k. get_or (set row at x) k none) (place_ordered a b ∙ sym e) ∙ get_or-set_same row at x none l;
  others = λ p q _ _ d. get_or-set_other row at (pair_place (max p q) (min p q)) x none (λ f. d (place_only p q a b (sym (place_ordered p q) ∙ f ∙ e)));
}
