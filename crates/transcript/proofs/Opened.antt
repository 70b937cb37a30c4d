-- A book over a store with no station out is opened, and ready for requests.
use Rattle.std.proofs.Common.{◌≡◌, ℕ, ◌*◌, ◌≤◌, true, List, is_ok, Result, ap, ◌∙◌, arith}
use Rattle.kinds.specs.Group.{Group}
use Rattle.faults.specs.declared.faults.Fault.{Fault}
use Rattle.audit.proofs.First.{none_first}
use Rattle.store.specs.Meaning.{Meaning, AllIn, After}
use Rattle.state.specs.Calls.{out_at_open, open_answer, Opened}
use Rattle.state.specs.States.{State, size_of}
use Rattle.state.proofs.Fillings.{did}
use Rattle.serve.specs.Tally.{at_start}
use Rattle.serve.proofs.Keeps.{keep_open}
use Rattle.transcript.specs.Performs.{Ready, PerformsAll, Answered}
use Rattle.transcript.specs.Replies.{replies, requests_of}
use Rattle.transcript.specs.declared.requests.Step.{Step}

module _ {B : Type 0} (st : State B) (m : Meaning B) (made : st.store ≡ m) (all : AllIn m) where
  all' : AllIn st.store
  all' = rw made all

  pub opens : is_ok (open_answer st) ≡ true
  opens = ap (λ o. is_ok (out_at_open o)) (none_first st.store.out (size_of st) all')

  -- requests that are made on it are answered from the start
  pub answered : (G : Group B) (st' : State B) (len : ℕ) (r : Result (Unit {0}) Fault) (steps steps' : List (Step B)) → 8 * m.size ≤ len → r ≡ open_answer st → After r (Opened G st st') (st' ≡ st)
      → PerformsAll G st' len steps steps' → Answered G m.size steps steps'
  answered G st' len r steps steps' l e h made_all =
      let o : Opened G st st' = did r (Opened G st st') (st' ≡ st) (ap is_ok e ∙ opens) h in
      let same : size_of st' ≡ m.size = o.size ∙ ap (λ x. x.size) made in
      let R : Ready G (at_start G) st' len = record { matched = keep_open G st st' all' o; idle = o.filling; long = omega (arith, l, ap (λ n. 8 * n) same) } in
      made_all.1 (at_start G) R ∙ ap (λ n. replies n (at_start G) (requests_of steps)) same
