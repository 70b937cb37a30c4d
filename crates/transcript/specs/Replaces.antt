-- Replacing a station: it is fitted, filled until the ticket is full, and finished.
use Rattle.std.specs.Prelude.{◌≡◌, ℕ, ◌*◌, ◌<◌, ◌≤◌, false, cond, ◌≢◌, None, Ok, Err, Result, nat_lt}
use Rattle.kinds.specs.Group.{Group}
use Rattle.code.specs.Rules.{of}
use Rattle.faults.specs.declared.faults.Fault.{Fault}
use Rattle.faults.specs.declared.faults.Fault.TheVariants.{AreaTooShort}
use Rattle.state.specs.Calls.{fit_answer, too_many}
use Rattle.state.specs.States.{State, size_of, filling_at, Sound}
use Rattle.book.specs.declared.tickets.TicketOf.{TicketOf}
use Rattle.serve.specs.Matches.{Matches}
use Rattle.code.specs.Marks.{turned}
use Rattle.serve.specs.Tally.{Tally, with_filling, restored}

-- may s be replaced? The work area is looked at first, and then what fit looks at
abbrev pub replace_answer : {B : Type 0} → State B → ℕ → ℕ → Result (Unit {0}) Fault
replace_answer st len s = cond (nat_lt len (8 * size_of st)) (Err (AreaTooShort len)) (fit_answer st s)

-- the filling of s can go on to its end: it has just begun, at most two stations are absent, and the work area is full
pub record CanFillUp {B : Type 0} (st : State B) (s len : ℕ) : Type 0 where
  pub sound : Sound st
  pub filling : st.filling ≡ filling_at s 0
  pub few : too_many st ≡ false
  pub long : 8 * size_of st ≤ len

-- the filling of s has come to its next partner: the marks and the pairs without s are as they were, and whatever tally
-- the book matched, it matches with that filling
pub record FilledTo {B : Type 0} (G : Group B) (st : State B) (s next : ℕ) (st' : State B) : Type 0 where
  pub size : size_of st' ≡ size_of st
  pub out : (k : ℕ) → k < size_of st → st'.store.out k ≡ st.store.out k
  pub others : (p q : ℕ) → p < size_of st → q < size_of st → p ≢ s → q ≢ s → of st'.store.block p q ≡ of st.store.block p q
  pub filling : st'.filling ≡ filling_at s next
  pub within : next ≤ size_of st
  pub keeps : (t : Tally B) → Matches G t st → Matches G (with_filling t (filling_at s next)) st'

-- s, which was out, is in and stands: the other marks and the pairs without s are as they were, there is no filling, and
-- whatever tally the book matched, it matches with s standing
pub record Replaced {B : Type 0} (G : Group B) (st : State B) (s : ℕ) (st' : State B) : Type 0 where
  pub size : size_of st' ≡ size_of st
  pub out : (k : ℕ) → k < size_of st → st'.store.out k ≡ turned st.store.out s false k
  pub others : (p q : ℕ) → p < size_of st → q < size_of st → p ≢ s → q ≢ s → of st'.store.block p q ≡ of st.store.block p q
  pub filling : st'.filling ≡ None
  pub keeps : (t : Tally B) → Matches G t st → Matches G (restored t s) st'

-- what the filling up of s gives: never a refusal
abbrev pub FilledUp : {B : Type 0} → Group B → State B → ℕ → Result (TicketOf 1) (TicketOf 0 × Fault) → State B → Type 0
FilledUp G st s (Ok t) st' = (t.station ≡ s) × FilledTo G st s (size_of st) st'
FilledUp G st s (Err e) st' = ⊥
