-- Blocks added to the pairs of a store.
use Rattle.std.specs.Prelude.{◌≡◌, ℕ, ◌<◌, Bool, cond, ◌&&◌, ◌||◌, List, ◌==◌, nat_lt, slice_index_or}
use Rattle.kinds.specs.Group.{Group}
use Rattle.code.specs.Rules.{Blocks, of}
use Rattle.store.specs.Meaning.{Meaning}
use Rattle.recovery.specs.Patterns.{Touched}

-- the pairs of c with the stations below k, from a row
abbrev pub row_part : {B : Type 0} → Group B → ℕ → ℕ → List B → Blocks B
row_part G c k row u v = cond (u == c && nat_lt v k) (slice_index_or row v G.none) G.none

-- m' is m with the blocks of f added to the pairs whose stations are both in
pub record Added {B : Type 0} (G : Group B) (m : Meaning B) (f : Blocks B) (m' : Meaning B) : Type 0 where
  pub size : m'.size ≡ m.size
  pub out : (s : ℕ) → s < m.size → m'.out s ≡ m.out s
  pub blocks : (p q : ℕ) → p < m.size → q < m.size → of m'.block p q ≡ cond (m.out p || m.out q) (of m.block p q) (G.sum (of m.block p q) (of f p q))

-- d is added to the pair of a and b and to the pairs of its pattern
pub record Spread {B : Type 0} (G : Group B) (m : Meaning B) (a b : ℕ) (d : B) (m' : Meaning B) : Type 0 where
  pub word : Blocks Bool
  pub touched : Touched m.size a b word
  pub added : Added G m (λ u v. cond (word u v) d G.none) m'
