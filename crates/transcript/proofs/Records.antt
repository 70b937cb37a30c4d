-- A record that is read ends within the input.
use Rattle.std.proofs.Common.{◌≡◌, ℕ, ◌+◌, ◌-◌, ◌<◌, ◌≤◌, List, length, drop, Ok, Err, Result, sym, subst, arith, length-drop}
use Rattle.std.proofs.lemmas.Bool.Decides.{nat_tests}
use Rattle.faults.specs.declared.faults.Fault.{Fault}
use Rattle.orders.specs.declared.records.Order.{Order}
use Rattle.orders.specs.Records.{Reading, reading, front_answer, record_answer}
use Rattle.transcript.specs.Sessions.{next_at}

-- one byte at least, and no more than there are
pub Within : ℕ → Result Reading Fault → Type 0
Within n (Ok read) = (0 < read.len) × (read.len ≤ n)
Within n (Err fault) = Unit {0}

front_within : (bs : List ℕ) (at : ℕ) → Within (length bs) (front_answer bs at)
unfolding Within
front_within bs at = grind (arith, nat_tests)

-- of the record at an offset
pub record_within : (input : List ℕ) (at len : ℕ) (r : Result (Order (List ℕ)) Fault) → Ok (reading r len) ≡ record_answer input at → (0 < len) × (at + len ≤ length input)
unfolding Within
record_within input at len r e =
    let w : (0 < len) × (len ≤ length (drop at input)) = subst (Within (length (drop at input))) (sym e) (front_within (drop at input) at) in
    (w.0, omega (arith, w.0, w.1, length-drop at input))

-- the next one is further on
pub forward : (input : List ℕ) (at : ℕ) → at < length input → at < next_at input at (record_answer input at)
unfolding Within
forward input at l = go (record_answer input at) (subst (λ n. Within n (record_answer input at)) (length-drop at input) (front_within (drop at input) at))
  where
    go : (o : Result Reading Fault) → Within (length input - at) o → at < next_at input at o
    go (Ok read) w = omega (arith, w.0)
    go (Err fault) w = l
