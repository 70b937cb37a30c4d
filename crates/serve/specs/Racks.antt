-- Racks of tickets.
use Rattle.std.specs.Prelude.{ℕ, ◌+◌, ◌<◌, vec_len, vec_capacity}
use Rattle.serve.specs.declared.racks.Rack.{Rack}

-- there is room for one more ticket of each sort
abbrev pub Roomy : Rack → Type 0
Roomy r = (vec_len r.open < vec_capacity r.open) × (vec_len r.full < vec_capacity r.full)

-- how many tickets there are
abbrev pub held : Rack → ℕ
held r = vec_len r.open + vec_len r.full
