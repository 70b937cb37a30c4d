-- The numbers of stations that a book may have: the odd primes from 3 to 31.
use Rattle.std.specs.Prelude.{◌≡◌, ℕ, ◌+◌, ◌*◌, ◌/◌, ◌%◌, ◌<◌, ◌≤◌, Bool, false, if◌then◌else◌, ◌||◌, ◌≢◌, List, [], ◌∷◌, Ok, Err, Result, ◌==◌, nat_le}
use Rattle.faults.specs.declared.faults.Fault.{Fault}
use Rattle.faults.specs.declared.faults.Fault.TheVariants.{NoSuchStation}

abbrev pub Prime : ℕ → Type 0
Prime n = (1 < n) × ((c : ℕ) → 1 < c → c < n → n % c ≢ 0)

abbrev pub OddPrime : ℕ → Type 0
OddPrime n = (n % 2 ≡ 1) × (n ≤ 31) × Prime n

-- the same as a list, which the type of sizes keeps to
abbrev pub sizes : List ℕ
sizes = 3 ∷ 5 ∷ 7 ∷ 11 ∷ 13 ∷ 17 ∷ 19 ∷ 23 ∷ 29 ∷ 31 ∷ []

abbrev pub among : ℕ → List ℕ → Bool
among n [] = false
among n (x ∷ xs) = n == x || among n xs

-- how many pairs n stations have, a station with itself included
abbrev pub pairs : ℕ → ℕ
pairs n = n * (n + 1) / 2

-- is there a station s among n?
abbrev pub station_answer : ℕ → ℕ → Result (Unit {0}) Fault
station_answer n s = if nat_le n s then Err (NoSuchStation s) else Ok tt
