-- Whole sessions: which text answers the bytes of an input. The first byte is the number of stations, and records follow.
use Rattle.std.specs.Prelude.{ℕ, zero, suc, ◌+◌, cond, List, [], ◌∷◌, ◌++◌, length, Ok, Err, Result, nat_lt, slice_index}
use Rattle.code.specs.Sizes.{among, sizes}
use Rattle.faults.specs.declared.faults.Fault.{Fault}
use Rattle.faults.specs.declared.faults.Fault.TheVariants.{NotASize, CutShort, SessionTooLong}
use Rattle.kinds.specs.Parts.{block_at}
use Rattle.kinds.specs.Bytes.{byte_group}
use Rattle.kinds.specs.declared.blocks.Block.{Block}
use Rattle.orders.specs.Lines.{line}
use Rattle.orders.specs.Records.{with_block, Reading, record_answer}
use Rattle.orders.specs.declared.lines.Reply.{Reply}
use Rattle.orders.specs.declared.lines.Reply.TheVariants.{Refused}
use Rattle.serve.specs.Tally.{at_start}
use Rattle.transcript.specs.Replies.{replies}
use Rattle.orders.specs.declared.records.Order.{Order}

-- an order with its block made of the bytes
abbrev pub request_of : Order (List ℕ) → Order Block
request_of order = with_block (λ bytes. block_at bytes 0) order

-- where there is one
abbrev pub requested : Result (Order (List ℕ)) Fault → Result (Order Block) Fault
requested (Ok order) = Ok (request_of order)
requested (Err fault) = Err fault

-- what is read of a record
abbrev pub request_as : Result Reading Fault → Result (Order Block) Fault
request_as (Ok read) = requested read.order
request_as (Err fault) = Err fault

-- where the next record begins: after the last byte if nothing more is read
abbrev pub next_at : List ℕ → ℕ → Result Reading Fault → ℕ
next_at input at (Ok read) = at + read.len
next_at input at (Err fault) = length input

-- the requests of the records from an offset on, one after another, k of them at most
abbrev pub requests_from : ℕ → List ℕ → ℕ → List (Result (Order Block) Fault)
requests_from zero input at = []
requests_from (suc k) input at =
    cond (nat_lt at (length input)) (request_as (record_answer input at) ∷ requests_from k input (next_at input at (record_answer input at))) []

-- there are no more records than bytes
abbrev pub session_requests : List ℕ → List (Result (Order Block) Fault)
session_requests input = requests_from (length input) input 1

-- a line for each reply
abbrev pub lines : List (Reply Block) → List ℕ
lines [] = []
lines (r ∷ rs) = line r ++ lines rs

-- with n stations that all stand, and zero blocks everywhere at first
abbrev pub answers : ℕ → List ℕ → List ℕ
answers n input = cond (among n sizes) (lines (replies n (at_start byte_group) (session_requests input))) (line (Refused (NotASize n)))

-- an input that is too long, has no byte, or begins with a number that is no size is answered by one line
abbrev pub session_text : List ℕ → List ℕ
session_text input =
    cond (nat_lt 16384 (length input)) (line (Refused SessionTooLong))
    (cond (nat_lt 0 (length input)) (answers (slice_index input 0) input) (line (Refused (CutShort 0))))
