-- What the accepted calls of a newly opened book come to, and what its client is promised.
use Rattle.std.specs.Prelude.{◌≡◌, ℕ, ◌+◌, ◌*◌, ◌<◌, ◌≤◌, min, Bool, true, false, cond, ◌||◌, ◌⊎◌, List, [], ◌∷◌, Some, None, Option, ◌==◌, ◌↔◌}
use Rattle.kinds.specs.Group.{Group}
use Rattle.code.specs.Rebuilt.{absentees, Kept}
use Rattle.code.specs.Marks.{turned}
use Rattle.code.specs.Rules.{Blocks, of, changed, Codeword, Agree}
use Rattle.faults.specs.declared.faults.Fault.{Fault}
use Rattle.store.specs.Meaning.{Meaning}
use Rattle.state.specs.Fillings.{stepped}
use Rattle.state.specs.declared.records.Filling.{Filling}
use Rattle.state.specs.States.{filling_at}
use Rattle.serve.specs.declared.turns.Answer.{Answer}
use Rattle.serve.specs.declared.turns.Answer.TheVariants.{NotMade, Refused, Given, Accepted, Untouched}
use Rattle.serve.specs.declared.turns.Call.{Call}
use Rattle.serve.specs.declared.turns.Call.TheVariants.{Write, Read, Lose, Fit, Fill, Finish, Abandon}
use Rattle.serve.specs.declared.turns.Turn.{Turn}

-- the absent stations, the filling with its next partner, and the last write to each pair
pub record Tally (B : Type 0) : Type 0 where
  pub absent : ℕ → Bool
  pub filling : Option Filling
  pub last : Blocks B

-- at the start all stations stand and nothing is written
abbrev pub at_start : {B : Type 0} → Group B → Tally B
at_start G = record { absent = λ _. false; filling = None; last = λ _ _. G.none }

-- no filling, if it was that of s
abbrev pub ended : ℕ → Option Filling → Option Filling
ended s None = None
ended s (Some f) = cond (s == f.station) None (Some f)

-- the tally after a write of x to the pair of a and b
abbrev pub written : {B : Type 0} → Tally B → ℕ → ℕ → B → Tally B
written t a b x = record { absent = t.absent; filling = t.filling; last = changed t.last a b x }

-- and after the loss of s
abbrev pub lost : {B : Type 0} → Tally B → ℕ → Tally B
lost t s = record { absent = turned t.absent s true; filling = t.filling; last = t.last }

-- with another filling
abbrev pub with_filling : {B : Type 0} → Tally B → Option Filling → Tally B
with_filling t f = record { absent = t.absent; filling = f; last = t.last }

-- with s standing and no filling
abbrev pub restored : {B : Type 0} → Tally B → ℕ → Tally B
restored t s = record { absent = turned t.absent s false; filling = None; last = t.last }

-- one more accepted call, of n stations; a finish ends the filling of s alone, where `restored` says that there is none
abbrev pub accepted : {B : Type 0} → ℕ → Tally B → Call B → Tally B
accepted n t (Write a b x area) = written t a b x
accepted n t (Read a b area) = t
accepted n t (Lose s) = lost t s
accepted n t (Fit s) = with_filling t (filling_at s 0)
accepted n t (Fill s area) = with_filling t (stepped n t.filling)
accepted n t (Finish s) = record { absent = turned t.absent s false; filling = ended s t.filling; last = t.last }
accepted n t (Abandon s sort) = with_filling t (ended s t.filling)

-- refused calls change nothing
abbrev pub tallied : {B : Type 0} → ℕ → Tally B → Call B → Answer B → Tally B
tallied n t c NotMade = t
tallied n t c (Refused f) = t
tallied n t c (Given x) = accepted n t c
tallied n t c Accepted = accepted n t c
tallied n t c Untouched = accepted n t c

-- both stations are data stations
abbrev pub DataPair : ℕ → ℕ → ℕ → Type 0
DataPair n a b = (a + 2 < n) × (b + 2 < n)

abbrev pub TooMany : {B : Type 0} → ℕ → Tally B → Type 0
TooMany n t = 3 ≤ absentees t.absent n

abbrev pub IsRefused : {B : Type 0} → Answer B → Type 0
IsRefused {B} r = (f : Fault) × (◌≡◌ {A = Answer B} r (Refused f))

-- what the next call is promised, with a work area of so many blocks to be had: an answered read is the last write; with
-- a full work area a write is refused exactly if its pair is no data pair or three or more are absent, and a read exactly
-- if its pair is no data pair, or three or more are absent and one of them is in it
abbrev pub Promised : {B : Type 0} → ℕ → ℕ → Tally B → Call B → Answer B → Type 0
Promised n most t (Write a b x area) r = 8 * n ≤ min area most → IsRefused r ↔ ((DataPair n a b → ⊥) ⊎ TooMany n t)
Promised {B} n most t (Read a b area) r =
    ((x : B) → ◌≡◌ {A = Answer B} r (Given x) → x ≡ of t.last a b)
    × (8 * n ≤ min area most → IsRefused r ↔ ((DataPair n a b → ⊥) ⊎ (TooMany n t × ((t.absent a || t.absent b) ≡ true))))
Promised n most t (Lose s) r = Unit {0}
Promised n most t (Fit s) r = Unit {0}
Promised n most t (Fill s area) r = Unit {0}
Promised n most t (Finish s) r = Unit {0}
Promised n most t (Abandon s sort) r = Unit {0}

-- the store holds, at each pair of standing stations, the block of the codeword whose data pairs are the last writes
abbrev pub Holds : {B : Type 0} → Group B → Tally B → Meaning B → Type 0
Holds {B} G t m =
    (word : Blocks B) × (Codeword G m.size word × Agree m.size (DataPair m.size) word t.last × Agree m.size (Kept t.absent) m.block word)

-- over a list of calls with their answers: at every turn what the store holds and what the next call is promised, and at
-- the end what the store holds. The store means m at first and m' at the end
abbrev pub Promise : {B : Type 0} → Group B → ℕ → Tally B → Meaning B → List (Turn B) → Meaning B → Type 0
Promise G most t m [] m' = (m' ≡ m) × Holds G t m
Promise {B} G most t m (turn ∷ turns) m' =
    Holds G t m × Promised m.size most t turn.call turn.answer
    × ((m₁ : Meaning B) × ((m₁.size ≡ m.size) × Promise G most (tallied m.size t turn.call turn.answer) m₁ turns m'))

-- the tally after a list of calls
abbrev pub tally_after : {B : Type 0} → ℕ → Tally B → List (Turn B) → Tally B
tally_after n t [] = t
tally_after n t (turn ∷ turns) = tally_after n (tallied n t turn.call turn.answer) turns
