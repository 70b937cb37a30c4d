-- What is answered to requests, by the absent stations and the last accepted writes alone: nothing is said here of checks,
-- stores or recovery. Between requests there is no filling.
use Rattle.std.specs.Prelude.{ℕ, true, cond, ◌||◌, List, [], ◌∷◌, map, Some, None, Ok, Err, Option, Result, nat_le}
use Rattle.audit.specs.declared.audits.Verdict.TheVariants.{Sound}
use Rattle.code.specs.Rules.{of}
use Rattle.faults.specs.declared.faults.Fault.{Fault}
use Rattle.faults.specs.declared.faults.Fault.TheVariants.{NoSuchStation, AlreadyAbsent, NotOut, AbsentAtAudit}
use Rattle.orders.specs.declared.lines.Reply.{Reply}
use Rattle.orders.specs.declared.lines.Reply.TheVariants as reply
use Rattle.serve.specs.Refusals.{unless_many, data_refusal, by_refusal}
use Rattle.serve.specs.Tally.{Tally, written, lost, restored}
use Rattle.store.specs.Meaning.{first}
use Rattle.orders.specs.declared.records.Order.{Order}
use Rattle.orders.specs.declared.records.Order.TheVariants.{Read, Write, Lose, Replace, Audit}
use Rattle.transcript.specs.declared.requests.Step.{Step}

module _ {B : Type 0} (n : ℕ) (t : Tally B) where
  -- an audit is refused with the smallest absent station
  abbrev pub audit_refusal : Option ℕ → Option Fault
  audit_refusal None = None
  audit_refusal (Some s) = Some (AbsentAtAudit s)

  -- why a request is refused, if it is
  abbrev pub refusal : Order B → Option Fault
  refusal (Read a b) = data_refusal n t a b (unless_many n t (t.absent a || t.absent b))
  refusal (Write a b x) = data_refusal n t a b (unless_many n t true)
  refusal (Lose s) = cond (nat_le n s) (Some (NoSuchStation s)) (cond (t.absent s) (Some (AlreadyAbsent s)) None)
  refusal (Replace s) = cond (nat_le n s) (Some (NoSuchStation s)) (cond (t.absent s) (unless_many n t true) (Some (NotOut s)))
  refusal Audit = audit_refusal (first t.absent n)

  -- what one that is accepted is answered: a read the last write to its pair
  abbrev pub granted : Order B → Reply B
  granted (Read a b) = reply.Block (of t.last a b)
  granted (Write a b x) = reply.Done
  granted (Lose s) = reply.Done
  granted (Replace s) = reply.Done
  granted Audit = reply.Found Sound

  -- and what it leaves
  abbrev pub leaves : Order B → Tally B
  leaves (Read a b) = t
  leaves (Write a b x) = written t a b x
  leaves (Lose s) = lost t s
  leaves (Replace s) = restored t s
  leaves Audit = t

-- a record that is no request is answered by its fault
abbrev pub reply_to : {B : Type 0} → ℕ → Tally B → Result (Order B) Fault → Reply B
reply_to n t (Ok q) = by_refusal (refusal n t q) (granted n t q) (λ f. reply.Refused f)
reply_to n t (Err f) = reply.Refused f

-- what is refused changes nothing
abbrev pub tally_on : {B : Type 0} → ℕ → Tally B → Result (Order B) Fault → Tally B
tally_on n t (Ok q) = by_refusal (refusal n t q) (leaves n t q) (λ _. t)
tally_on n t (Err f) = t

-- the replies to a list of requests, each by the tally of the accepted ones before it
abbrev pub replies : {B : Type 0} → ℕ → Tally B → List (Result (Order B) Fault) → List (Reply B)
replies n t [] = []
replies n t (q ∷ qs) = reply_to n t q ∷ replies n (tally_on n t q) qs

abbrev pub requests_of : {B : Type 0} → List (Step B) → List (Result (Order B) Fault)
requests_of steps = map (λ step. step.request) steps

abbrev pub replies_of : {B : Type 0} → List (Step B) → List (Reply B)
replies_of steps = map (λ step. step.reply) steps
