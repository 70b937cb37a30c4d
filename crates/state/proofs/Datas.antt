-- What read and write look at first.
use Rattle.std.proofs.Common.{◌≡◌, ℕ, ◌+◌, ◌*◌, ◌<◌, ◌≤◌, max, true, false, ltb, leb, is_ok, Result, arith}
use Rattle.std.proofs.lemmas.Bool.{le-ltb, lt-leb}
use Rattle.std.proofs.lemmas.Bool.Decides.{nat_tests}
use Rattle.faults.specs.declared.faults.Fault.{Fault}
use Rattle.state.specs.Calls.{data_answer}
use Rattle.state.specs.States.{State, size_of}

-- the checks that passed
pub record Fine {B : Type 0} (st : State B) (len a b : ℕ) : Type 0 where
  pub long : 8 * size_of st ≤ len
  pub first : a < size_of st
  pub second : b < size_of st
  pub inner : max a b + 2 < size_of st

module _ {B : Type 0} (st : State B) (len a b : ℕ) where
  pub fine : (r : Result (Unit {0}) Fault) → is_ok (data_answer st len a b r) ≡ true → Fine st len a b
  fine r e = record { long = grind (arith, nat_tests); first = grind (arith, nat_tests); second = grind (arith, nat_tests); inner = grind (arith, nat_tests) }

  pub fine_answer : Fine st len a b → (r : Result (Unit {0}) Fault) → data_answer st len a b r ≡ r
  fine_answer f r =
      let t : ltb len (8 * size_of st) ≡ false = le-ltb len (8 * size_of st) f.long in
      let u : leb (size_of st) a ≡ false = lt-leb (size_of st) a f.first in
      let v : leb (size_of st) b ≡ false = lt-leb (size_of st) b f.second in
      let w : leb (size_of st) (max a b + 2) ≡ false = lt-leb (size_of st) (max a b + 2) f.inner in
      rw (t, u, v, w)
