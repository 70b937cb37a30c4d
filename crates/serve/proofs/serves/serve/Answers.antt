use Rattle.std.proofs.Common.{◌≡◌, ℕ, Some, None, Ok, Option, refl}
use Rattle.audit.proofs.First.{first_none}
use Rattle.state.specs.Calls.{out_at_open, open_answer, Opened}
use Rattle.kinds.specs.Group.{Group}
use Rattle.serve.specs.Matches.{Matches}
use Rattle.state.specs.States.{State}
use Rattle.serve.specs.Tally.{at_start}
use Rattle.serve.proofs.Keeps.{keep_open}
use Rattle.serve.proofs.serves.serve.Goals as goal

-- a book that was opened has no station out, and matches the tally at the start
matched : {B : Type 0} (G : Group B) (st st' : State B) → Ok tt ≡ open_answer st → Opened G st st' → Matches G (at_start G) st'
matched G st st' e o = keep_open G st st' (first_none _ _ (none _ e)) o
  where
    none : (s : Option ℕ) → Ok tt ≡ out_at_open s → s ≡ None
    none None h = refl
    none (Some s) h = cc

pub returns-clause-promise : goal.returns-clause-promise
returns-clause-promise g c =
    let h = c.in_ok-open.ensures in
    let p = c.carry_on.ensures.promise _ (matched _ _ _ h.answer h.after) in
    (_, (h.after.size, p.0, rw h.after.size at p.1))

pub returns-clause-told : goal.returns-clause-told
returns-clause-told g c =
    let h = c.in_ok-open.ensures in
    let told = c.carry_on.ensures.told _ (matched _ _ _ h.answer h.after) in
    λ _. rw h.after.size at told
