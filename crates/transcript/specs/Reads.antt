-- The requests that are left to be read of an input.
use Rattle.std.specs.Prelude.{List, length, Result}
use Rattle.faults.specs.declared.faults.Fault.{Fault}
use Rattle.kinds.specs.declared.blocks.Block.{Block}
use Rattle.transcript.specs.Sessions.{requests_from}
use Rattle.transcript.specs.declared.reads.Requests.{Requests}
use Rattle.orders.specs.declared.records.Order.{Order}

-- those of the records from the offset on
abbrev pub requests_left : Requests → List (Result (Order Block) Fault)
requests_left r = requests_from (length r.input.now) r.input.now r.at
