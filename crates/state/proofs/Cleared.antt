-- A store that was cleared is that of an opened book.
use Rattle.std.proofs.Common.{min, max, None, Option, sym, refl, ◌∙◌, arith}
use Rattle.kinds.specs.Group.{Group}
use Rattle.code.specs.Sizes.{OddPrime}
use Rattle.code.proofs.Rows.{of_le}
use Rattle.store.specs.Meaning.{Meaning}
use Rattle.state.specs.Calls.{Opened}
use Rattle.state.specs.Opens.{RowsCleared}
use Rattle.state.specs.States.{state}
use Rattle.state.specs.declared.records.Filling.{Filling}

module _ {B : Type 0} (G : Group B) where
  -- all rows
  pub all_cleared : (m m' : Meaning B) (f : Option Filling) → OddPrime m.size → RowsCleared G m m.size m' → Opened G (state m f) (state m' None)
  all_cleared m m' f prime done = record {
    prime = prime;
    size = done.size;
    out = done.out;
    blocks = λ p q lp lq. sym (of_le m'.block (max p q) (min p q) (omega arith)) ∙ done.cleared (max p q) (min p q) (omega arith) (omega arith);
    filling = refl;
  }
