-- A store while it is cleared: zero at the pairs whose larger station is below k, or with a at the partners below k.
use Rattle.std.specs.Prelude.{◌≡◌, ℕ, ◌<◌, ◌≤◌, ◌≢◌}
use Rattle.kinds.specs.Group.{Group}
use Rattle.code.specs.Rules.{of}
use Rattle.store.specs.Meaning.{Meaning}

pub record RowCleared {B : Type 0} (G : Group B) (m : Meaning B) (a k : ℕ) (m' : Meaning B) : Type 0 where
  pub size : m'.size ≡ m.size
  pub out : (s : ℕ) → s < m.size → m'.out s ≡ m.out s
  pub cleared : (q : ℕ) → q < k → of m'.block a q ≡ G.none
  pub others : (p q : ℕ) → p < m.size → q ≤ p → p ≢ a → of m'.block p q ≡ of m.block p q

pub record RowsCleared {B : Type 0} (G : Group B) (m : Meaning B) (k : ℕ) (m' : Meaning B) : Type 0 where
  pub size : m'.size ≡ m.size
  pub out : (s : ℕ) → s < m.size → m'.out s ≡ m.out s
  pub cleared : (p q : ℕ) → p < k → q ≤ p → of m'.block p q ≡ G.none
