use Rattle.std.proofs.Common.{ℕ, ◌<◌, get_or}
use Rattle.recovery.proofs.rebuilds.lay_row.Given as goal

abbrev pub invariant-loop-k : goal.invariant-loop-k
invariant-loop-k g l = (p : ℕ) (d : g.row.B.Denot) → p < l.k → goal.F-post g l.f p (get_or l.row p d)
