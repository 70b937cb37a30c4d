use Rattle.std.proofs.Common.{◌≡◌, ◌∷◌, length, Some, Result, ap, arith}
use Rattle.std.specs.Iterator.{MakesProgress, item_count}
use Rattle.std.specs.declared.iter.Iterator.{can_next-default}
use Rattle.faults.specs.declared.faults.Fault.{Fault}
use Rattle.kinds.specs.declared.blocks.Block.{Block}
use Rattle.orders.specs.Records.{ordered}
use Rattle.transcript.specs.Reads.{requests_left}
use Rattle.transcript.specs.declared.reads.Requests.{Requests}
use Rattle.orders.specs.declared.records.Order.{Order}
use Rattle.transcript.proofs.Records.{record_within}
use Rattle.transcript.proofs.ReadOn.{from_next}
use Rattle.transcript.proofs.reads.RequestsIterator.next.Goals as goal

-- a call that gives the first of the requests that are left goes on
goes : (r r' : Requests) (q : Result (Order Block) Fault) → requests_left r ≡ q ∷ requests_left r'
    → MakesProgress (can_next-default Requests (Result (Order Block) Fault)) (item_count requests_left) r (Some q) r'
goes r r' q e = let l = ap length e in record { on = λ fin. (tt, fin, omega (arith, l)); keeps = tt; rests = λ _. tt }

pub overflow_add-self : goal.overflow_add-self
overflow_add-self c =
    let r = c.args.self.now in
    omega (arith, record_within r.input.now r.at c.in-Ok.record.len (ordered c.in-Ok.record.order) c.in-Ok.ensures)

pub returns-in-Ok-clause-steps : goal.returns-in-Ok-clause-steps
returns-in-Ok-clause-steps c = from_next _ _ _ _ c.if-self.false (rw (c.request_in.ensures, ← c.in-Ok.ensures)) (rw (← c.in-Ok.ensures))

pub returns-in-Ok-clause-goes : goal.returns-in-Ok-clause-goes
returns-in-Ok-clause-goes c = goes _ _ _ (returns-in-Ok-clause-steps c)

pub returns-in-Err-clause-steps : goal.returns-in-Err-clause-steps
returns-in-Err-clause-steps c = from_next _ _ _ _ c.if-self.false (rw (← c.in-Err.ensures)) (rw (← c.in-Err.ensures))

pub returns-in-Err-clause-goes : goal.returns-in-Err-clause-goes
returns-in-Err-clause-goes c = goes _ _ _ (returns-in-Err-clause-steps c)
