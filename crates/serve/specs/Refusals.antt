-- What each call is answered, by the tally of the accepted calls alone: nothing is said here of checks, stores or recovery.
use Rattle.std.specs.Prelude.{◌≡◌, ℕ, ◌+◌, ◌*◌, min, max, Bool, true, false, cond, ◌&&◌, ◌||◌, ◌⊎◌, List, [], ◌∷◌, Some, None, Option, ◌==◌, nat_le, nat_lt}
use Rattle.code.specs.Rebuilt.{absentees}
use Rattle.code.specs.Rules.{of}
use Rattle.faults.specs.declared.faults.Fault.{Fault}
use Rattle.faults.specs.declared.faults.Fault.TheVariants.{AreaTooShort, NoSuchStation, CheckPair, AlreadyAbsent, NotOut, FillingUnderWay, TooManyAbsent, TicketRefused}
use Rattle.state.specs.Fillings.{next_of}
use Rattle.state.specs.States.{being_filled}
use Rattle.state.specs.declared.records.Filling.{Filling}
use Rattle.serve.specs.Tally.{Tally, tallied}
use Rattle.serve.specs.declared.turns.Answer.{Answer}
use Rattle.serve.specs.declared.turns.Answer.TheVariants.{NotMade, Refused, Given, Accepted, Untouched}
use Rattle.serve.specs.declared.turns.Call.{Call}
use Rattle.serve.specs.declared.turns.Call.TheVariants.{Write, Read, Lose, Fit, Fill, Finish, Abandon}
use Rattle.serve.specs.declared.turns.Turn.{Turn}

module _ {B : Type 0} (n : ℕ) (t : Tally B) where
  -- how many of the n stations are absent
  abbrev pub absent_now : ℕ
  absent_now = absentees t.absent n

  -- refused where it is asked and three or more are absent
  abbrev pub unless_many : Bool → Option Fault
  unless_many asked = cond (asked && nat_lt 2 absent_now) (Some (TooManyAbsent absent_now)) None

  -- a work area of so many blocks is looked at first, and then what follows
  abbrev pub unless_short : ℕ → Option Fault → Option Fault
  unless_short len next = cond (nat_lt len (8 * n)) (Some (AreaTooShort len)) next

  -- a pair to be read or written: two stations there are, both data stations, and then what follows
  abbrev pub data_refusal : ℕ → ℕ → Option Fault → Option Fault
  data_refusal a b next =
      cond (nat_le n a) (Some (NoSuchStation a))
      (cond (nat_le n b) (Some (NoSuchStation b))
      (cond (nat_le n (max a b + 2)) (Some (CheckPair (max a b))) next))

  -- a station that is out is absent and not being filled
  abbrev pub out_now : ℕ → Bool
  out_now s = cond (being_filled t.filling s) false (t.absent s)

  -- none may be fitted while one is being filled, or three or more are absent
  abbrev pub fit_refusal : Option Filling → Option Fault
  fit_refusal None = unless_many true
  fit_refusal (Some f) = Some (FillingUnderWay f.station)

  -- why a call is refused, if it is, with a work area of so many blocks to be had
  abbrev pub refusal : ℕ → Call B → Option Fault
  refusal most (Write a b x area) = unless_short (min area most) (data_refusal a b (unless_many true))
  refusal most (Read a b area) = unless_short (min area most) (data_refusal a b (unless_many (t.absent a || t.absent b)))
  refusal most (Lose s) = cond (nat_le n s) (Some (NoSuchStation s)) (cond (t.absent s) (Some (AlreadyAbsent s)) None)
  refusal most (Fit s) = cond (nat_le n s) (Some (NoSuchStation s)) (cond (out_now s) (fit_refusal t.filling) (Some (NotOut s)))
  refusal most (Fill s area) = unless_short (min area most) (cond (being_filled t.filling s) (unless_many true) (Some (TicketRefused s)))
  refusal most (Finish s) = cond (being_filled t.filling s && next_of t.filling == n) None (Some (TicketRefused s))
  refusal most (Abandon s sort) = None

  -- what one that is accepted is answered: a read the last write to its pair
  abbrev pub granted : Call B → Answer B
  granted (Write a b x area) = Accepted
  granted (Read a b area) = Given (of t.last a b)
  granted (Lose s) = Accepted
  granted (Fit s) = Accepted
  granted (Fill s area) = Accepted
  granted (Finish s) = Accepted
  granted (Abandon s sort) = cond (being_filled t.filling s) Accepted Untouched

-- one thing for a call that is accepted, another for one that is refused
abbrev pub by_refusal : {X : Type 0} → Option Fault → X → (Fault → X) → X
by_refusal None x f = x
by_refusal (Some e) x f = f e

abbrev pub answer_to : {B : Type 0} → ℕ → ℕ → Tally B → Call B → Answer B
answer_to n most t c = by_refusal (refusal n t most c) (granted n t c) (λ f. Refused f)

-- only a call that spends a ticket, or is handed one, may be left unmade: the rack has no such ticket, or no room for one
abbrev pub Ticketed : {B : Type 0} → Call B → Type 0
Ticketed (Write a b x area) = ⊥
Ticketed (Read a b area) = ⊥
Ticketed (Lose s) = ⊥
Ticketed (Fit s) = Unit {0}
Ticketed (Fill s area) = Unit {0}
Ticketed (Finish s) = Unit {0}
Ticketed (Abandon s sort) = Unit {0}

-- the call was answered as the tally says, or not made
abbrev pub Told : {B : Type 0} → ℕ → ℕ → Tally B → Call B → Answer B → Type 0
Told {B} n most t c r = (r ≡ answer_to n most t c) ⊎ (Ticketed c × (◌≡◌ {A = Answer B} r NotMade))

-- over a list of calls, each by the tally of the accepted ones before it
abbrev pub ToldAll : {B : Type 0} → ℕ → ℕ → Tally B → List (Turn B) → Type 0
ToldAll n most t [] = Unit {0}
ToldAll n most t (turn ∷ turns) = Told n most t turn.call turn.answer × ToldAll n most (tallied n t turn.call turn.answer) turns
