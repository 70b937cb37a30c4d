-- What a book means: its store, and the record of the filling.
use Rattle.std.specs.Prelude.{◌≡◌, ℕ, ◌<◌, ◌≤◌, Bool, false, ◌||◌, Some, None, Option, ◌==◌}
use Rattle.recovery.specs.Recovery.{absent_in}
use Rattle.store.specs.Meaning.{Meaning}
use Rattle.state.specs.declared.records.Filling.{Filling}

pub record State (B : Type 0) : Type 0 where
  pub store : Meaning B
  pub filling : Option Filling

abbrev pub state : {B : Type 0} → Meaning B → Option Filling → State B
state m f = record { store = m; filling = f }

abbrev pub size_of : {B : Type 0} → State B → ℕ
size_of st = st.store.size

-- s is being filled, and its next partner is this one
abbrev pub filling_at : ℕ → ℕ → Option Filling
filling_at s next = Some (record { station = s; next = next })

-- is s the station being filled?
abbrev pub being_filled : Option Filling → ℕ → Bool
being_filled None s = false
being_filled (Some f) s = s == f.station

-- a station is absent if it is out or being filled; all others stand
abbrev pub absent : {B : Type 0} → State B → ℕ → Bool
absent st s = st.store.out s || being_filled st.filling s

-- the book's store as its calls see it: the station being filled counts as out
abbrev pub seen : {B : Type 0} → State B → Meaning B
seen st = record { size = size_of st; out = absent st; block = st.store.block }

-- how many stations are absent
abbrev pub absent_count : {B : Type 0} → State B → ℕ
absent_count st = absent_in (seen st)

-- the station being filled is one of the stations and in, and its next partner is at most n
abbrev pub SoundAt : ℕ → (ℕ → Bool) → Option Filling → Type 0
SoundAt n out None = Unit {0}
SoundAt n out (Some f) = (f.station < n) × (out f.station ≡ false) × (f.next ≤ n)

abbrev pub Sound : {B : Type 0} → State B → Type 0
Sound st = SoundAt (size_of st) st.store.out st.filling

-- m' is the store of a book with its absent stations out
pub record AbsentOut {B : Type 0} (st : State B) (m' : Meaning B) : Type 0 where
  pub size : m'.size ≡ size_of st
  pub out : (s : ℕ) → s < size_of st → m'.out s ≡ absent st s
  pub block : m'.block ≡ st.store.block
