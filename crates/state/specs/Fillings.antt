-- The record of the filling as a fill changes it.
use Rattle.std.specs.Prelude.{ℕ, ◌+◌, cond, Some, None, Option, nat_lt}
use Rattle.state.specs.States.{filling_at}
use Rattle.state.specs.declared.records.Filling.{Filling}

-- the next partner of the station being filled
abbrev pub next_of : Option Filling → ℕ
next_of None = 0
next_of (Some f) = f.next

-- a fill steps the next partner on by one, up to n
abbrev pub stepped : ℕ → Option Filling → Option Filling
stepped n None = None
stepped n (Some f) = cond (nat_lt f.next n) (filling_at f.station (f.next + 1)) (Some f)
