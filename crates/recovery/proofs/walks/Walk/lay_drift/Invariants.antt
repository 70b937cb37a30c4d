use Rattle.std.proofs.Common.{◌≡◌, ℕ, ◌+◌, ◌-◌, ◌<◌}
use Rattle.recovery.specs.Work.{block_at, station, gathered}
use Rattle.recovery.proofs.walks.Walk.lay_drift.Given as goal

abbrev pub invariant-loop-t : goal.invariant-loop-t
invariant-loop-t g l =
    let G = g.B.BlockKind.group in
    let w = l.self in
    (l.sum ≡ gathered G w.n w.i w.j l.near l.across (l.t - 2))
    × ((s : ℕ) → s + 2 < l.t → block_at G l.drift (station w.n w.i w.j (s + 2)) ≡ gathered G w.n w.i w.j l.near l.across s)
