-- Order records. A record begins with three bytes, and its letter and fields follow:
--   0      the version, 1
--   1 to 2 the length of what follows, big-endian
--   3      the letter R, W, L, P or C
--   4 on   the fields: two stations for R; two stations and 64 bytes for W; a station for L and P; none for C
use Rattle.std.specs.Prelude.{ℕ, ◌+◌, ◌*◌, cond, List, length, take, drop, Ok, Err, Result, ◌==◌, nat_lt, slice_index}
use Rattle.std.specs.Borrow.{Bor}
use Rattle.faults.specs.declared.faults.Fault.{Fault}
use Rattle.faults.specs.declared.faults.Fault.TheVariants.{WrongVersion, CutShort, UnknownLetter, WrongRecordLength}
use Rattle.orders.specs.declared.records.Order.{Order}
use Rattle.orders.specs.declared.records.Order.TheVariants.{Read, Write, Lose, Replace, Audit}
use Rattle.orders.specs.declared.records.Record.{Record}

-- an order with its block in another form
abbrev pub with_block : {A B : Type 0} → (A → B) → Order A → Order B
with_block f (Read a b) = Read a b
with_block f (Write a b block) = Write a b (f block)
with_block f (Lose s) = Lose s
with_block f (Replace s) = Replace s
with_block f Audit = Audit

-- with the bytes themselves in place of a reference to them
abbrev pub asked : Order (Bor (List ℕ)) → Order (List ℕ)
asked order = with_block (λ bytes. bytes.now) order

abbrev pub ordered : Result (Order (Bor (List ℕ))) Fault → Result (Order (List ℕ)) Fault
ordered (Ok order) = Ok (asked order)
ordered (Err fault) = Err fault

-- what is read of a record: an order, or why it is none; and the record's length. A fault in its place is the last
pub record Reading : Type 0 where
  pub order : Result (Order (List ℕ)) Fault
  pub len : ℕ

abbrev pub reading : Result (Order (List ℕ)) Fault → ℕ → Reading
reading order len = record { order = order; len = len }

abbrev pub read_as : Result Record Fault → Result Reading Fault
read_as (Ok read) = Ok (reading (ordered read.order) read.len)
read_as (Err fault) = Err fault

-- an order of a letter, if the letter and the fields have n bytes
abbrev pub of_length : List ℕ → ℕ → ℕ → Order (List ℕ) → Result (Order (List ℕ)) Fault
of_length body at n order = cond (length body == n) (Ok order) (Err (WrongRecordLength (at + 1)))

-- the letter and fields of a record that begins at an offset: first the letter, then the length
abbrev pub order_answer : List ℕ → ℕ → Result (Order (List ℕ)) Fault
order_answer body at =
    cond (slice_index body 0 == 82) (of_length body at 3 (Read (slice_index body 1) (slice_index body 2)))
    (cond (slice_index body 0 == 87) (of_length body at 67 (Write (slice_index body 1) (slice_index body 2) (drop 3 body)))
    (cond (slice_index body 0 == 76) (of_length body at 2 (Lose (slice_index body 1)))
    (cond (slice_index body 0 == 80) (of_length body at 2 (Replace (slice_index body 1)))
    (cond (slice_index body 0 == 67) (of_length body at 1 Audit)
    (Err (UnknownLetter (at + 3)))))))

abbrev pub record_length : List ℕ → ℕ
record_length bs = slice_index bs 1 * 256 + slice_index bs 2

-- of the bytes from the record on: three bytes, the version, a length of 0, all there, and then the letter and its length
abbrev pub front_answer : List ℕ → ℕ → Result Reading Fault
front_answer bs at =
    cond (nat_lt (length bs) 3) (Err (CutShort at))
    (cond (slice_index bs 0 == 1)
    (cond (record_length bs == 0) (Ok (reading (Err (WrongRecordLength (at + 1))) 3))
    (cond (nat_lt (length bs) (3 + record_length bs)) (Err (CutShort at))
    (Ok (reading (order_answer (take (record_length bs) (drop 3 bs)) at) (3 + record_length bs)))))
    (Err (WrongVersion at)))

-- the record at an offset of the input
abbrev pub record_answer : List ℕ → ℕ → Result Reading Fault
record_answer input at = front_answer (drop at input) at
