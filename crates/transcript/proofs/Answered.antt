-- What the calls of a book answer to requests, by the tally that it matches.
use Rattle.std.proofs.Common.{◌≡◌, ℕ, ◌*◌, true, false, cond, ◌||◌, ltb, leb, Some, Err, Option, ap, ◌∙◌}
use Rattle.std.proofs.lemmas.Bool.{cond-false, le-ltb}
use Rattle.kinds.specs.Group.{Group}
use Rattle.faults.specs.declared.faults.Fault.{Fault}
use Rattle.faults.specs.declared.faults.Fault.TheVariants.{AreaTooShort, NoSuchStation, NotOut}
use Rattle.state.specs.Calls.{read_answer, write_answer, lose_answer, fit_answer}
use Rattle.state.specs.States.{State, size_of, being_filled}
use Rattle.serve.specs.Refusals.{unless_many, unless_short, data_refusal, fit_refusal}
use Rattle.serve.specs.Tally.{Tally}
use Rattle.serve.proofs.Refused as told
use Rattle.serve.proofs.Refused.{outcome}
use Rattle.transcript.specs.Performs.{Ready}
use Rattle.transcript.specs.Replaces.{replace_answer}
use Rattle.transcript.specs.Replies.{refusal}
use Rattle.orders.specs.declared.records.Order.TheVariants.{Read, Write, Lose, Replace}

module _ {B : Type 0} (G : Group B) (t : Tally B) (st : State B) (len : ℕ) (R : Ready G t st len) where
  abbrev n : ℕ
  n = size_of st

  -- the work area is full
  full : ltb len (8 * n) ≡ false
  full = le-ltb len (8 * n) R.long

  unshort : (next : Option Fault) → outcome (unless_short n t len next) ≡ outcome next
  unshort next = ap outcome (cond-false (ltb len (8 * n)) (Some (AreaTooShort len)) next full)

  pub read_as : (a b : ℕ) → read_answer st len a b ≡ outcome (refusal n t (Read a b))
  read_as a b = told.read_as G t st R.matched len a b ∙ unshort (data_refusal n t a b (unless_many n t (t.absent a || t.absent b)))

  pub write_as : (a b : ℕ) (x : B) → write_answer st len a b ≡ outcome (refusal n t (Write a b x))
  write_as a b x = told.write_as G t st R.matched len a b ∙ unshort (data_refusal n t a b (unless_many n t true))

  pub lose_as : (s : ℕ) → lose_answer st s ≡ outcome (refusal n t (Lose s))
  lose_as s = told.lose_as G t st R.matched s

  -- with no filling, a station is out if it is absent
  pub replace_as : (s : ℕ) → replace_answer st len s ≡ outcome (refusal n t (Replace s))
  replace_as s =
      cond-false (ltb len (8 * n)) (Err (AreaTooShort len)) (fit_answer st s) full ∙ told.fit_as G t st R.matched s
      ∙ ap (λ f. outcome (cond (leb n s) (Some (NoSuchStation s)) (cond (cond (being_filled f s) false (t.absent s)) (fit_refusal n t f) (Some (NotOut s))))) (R.matched.filling ∙ R.idle)
