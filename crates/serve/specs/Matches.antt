-- A book whose store and record match a tally.
use Rattle.std.specs.Prelude.{◌≡◌, ℕ, ◌<◌, Bool, false, ◌⊎◌, List, map, Some, None, Option}
use Rattle.kinds.specs.Group.{Group}
use Rattle.code.specs.Rebuilt.{Kept}
use Rattle.code.specs.Rules.{Blocks, of, Codeword, Agree}
use Rattle.code.specs.Sizes.{OddPrime}
use Rattle.store.specs.Meaning.{Meaning}
use Rattle.state.specs.States.{State, size_of, absent, Sound}
use Rattle.serve.specs.Refusals.{ToldAll}
use Rattle.serve.specs.Tally.{Tally, DataPair, Promise, at_start, tally_after}
use Rattle.serve.specs.declared.turns.Call.{Call}
use Rattle.serve.specs.declared.turns.Turn.{Turn}
use Rattle.state.specs.declared.records.Filling.{Filling}

-- the pairs that are filled already hold the codeword's blocks: partners below the next one that stand, and the loop
abbrev pub FilledPairs : {B : Type 0} → (ℕ → Bool) → Blocks B → Blocks B → Option Filling → Type 0
FilledPairs gone f word None = Unit {0}
FilledPairs gone f word (Some filled) = (q : ℕ) → q < filled.next → (gone q ≡ false) ⊎ (q ≡ filled.station) → of f filled.station q ≡ of word filled.station q

pub record Matches {B : Type 0} (G : Group B) (t : Tally B) (st : State B) : Type 0 where
  pub prime : OddPrime (size_of st)
  pub gone : (s : ℕ) → s < size_of st → t.absent s ≡ absent st s
  pub filling : t.filling ≡ st.filling
  pub sound : Sound st
  pub word : Blocks B
  pub code : Codeword G (size_of st) word
  pub last : Agree (size_of st) (DataPair (size_of st)) word t.last
  pub standing : Agree (size_of st) (Kept (absent st)) st.store.block word
  pub filled : FilledPairs (absent st) st.store.block word st.filling

-- whatever tally a book matches: over the calls that are made, the promise holds from there, and the book matches the
-- tally that they come to
abbrev pub CarriesOn : {B : Type 0} → Group B → ℕ → State B → List (Turn B) → State B → Type 0
CarriesOn {B} G most st turns st' =
    (t : Tally B) → Matches G t st → Promise G most t st.store turns st'.store × Matches G (tally_after (size_of st) t turns) st'

-- and each call is answered as that tally says
abbrev pub Tells : {B : Type 0} → Group B → ℕ → State B → List (Turn B) → Type 0
Tells {B} G most st turns = (t : Tally B) → Matches G t st → ToldAll (size_of st) most t turns

-- the calls of a list of turns
abbrev pub calls_of : {B : Type 0} → List (Turn B) → List (Call B)
calls_of turns = map (λ turn. turn.call) turns

-- from an opened book: a tally at the start, and the promise over all calls
abbrev pub Served : {B : Type 0} → Group B → ℕ → State B → List (Turn B) → State B → Type 0
Served {B} G most st turns st' =
    (m : Meaning B) × ((m.size ≡ size_of st) × Promise G most (at_start G) m turns st'.store × Matches G (tally_after (size_of st) (at_start G) turns) st')

-- and each call answered as the tally says
abbrev pub ServedTells : {B : Type 0} → Group B → ℕ → State B → List (Turn B) → Type 0
ServedTells G most st turns = ToldAll (size_of st) most (at_start G) turns
