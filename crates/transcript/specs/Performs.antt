-- A request made on a book whose store and record match a tally.
use Rattle.std.specs.Prelude.{◌≡◌, ℕ, ◌*◌, ◌≤◌, List, None, Ok, Err, Result}
use Rattle.kinds.specs.Group.{Group}
use Rattle.faults.specs.declared.faults.Fault.{Fault}
use Rattle.orders.specs.declared.lines.Reply.{Reply}
use Rattle.orders.specs.declared.lines.Reply.TheVariants as reply
use Rattle.state.specs.States.{State, size_of}
use Rattle.serve.specs.Matches.{Matches}
use Rattle.serve.specs.Tally.{Tally, at_start}
use Rattle.transcript.specs.Replies.{reply_to, tally_on, replies, requests_of, replies_of}
use Rattle.orders.specs.declared.records.Order.{Order}
use Rattle.transcript.specs.declared.requests.Step.{Step}

-- what a call that hands out nothing is answered by
abbrev pub done_reply : {B : Type 0} → Result (Unit {0}) Fault → Reply B
done_reply (Ok x) = reply.Done
done_reply (Err f) = reply.Refused f

-- a refusal as a reply
abbrev pub replied : {B : Type 0} → Result (Reply B) Fault → Reply B
replied (Ok r) = r
replied (Err f) = reply.Refused f

-- a book with no filling that matches a tally, and a full work area
pub record Ready {B : Type 0} (G : Group B) (t : Tally B) (st : State B) (len : ℕ) : Type 0 where
  pub matched : Matches G t st
  pub idle : st.filling ≡ None
  pub long : 8 * size_of st ≤ len

-- the reply is what the tally says, and the book is ready for the next request
pub record Performed {B : Type 0} (G : Group B) (t : Tally B) (st : State B) (len : ℕ) (q : Result (Order B) Fault) (r : Reply B) (st' : State B) : Type 0 where
  pub reply : r ≡ reply_to (size_of st) t q
  pub size : size_of st' ≡ size_of st
  pub ready : Ready G (tally_on (size_of st) t q) st' len

-- whatever tally the book matches
abbrev pub Performs : {B : Type 0} → Group B → State B → ℕ → Result (Order B) Fault → Reply B → State B → Type 0
Performs {B} G st len q r st' = (t : Tally B) → Ready G t st len → Performed G t st len q r st'

-- the same over a list of requests: each reply stands beside its request
abbrev pub PerformsAll : {B : Type 0} → Group B → State B → ℕ → List (Step B) → List (Step B) → Type 0
PerformsAll {B} G st len steps steps' =
    (requests_of steps' ≡ requests_of steps)
    × ((t : Tally B) → Ready G t st len → replies_of steps' ≡ replies (size_of st) t (requests_of steps))

-- from a newly opened book of n stations: each reply stands beside its request
abbrev pub Answered : {B : Type 0} → Group B → ℕ → List (Step B) → List (Step B) → Type 0
Answered G n steps steps' = replies_of steps' ≡ replies n (at_start G) (requests_of steps)
