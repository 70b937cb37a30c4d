use Rattle.std.proofs.Common.{◌≡◌, cond, eqb}
use Rattle.kinds.specs.Group.{sum_to}
use Rattle.recovery.specs.Work.{block_at}
use Rattle.recovery.proofs.walks.Walk.drift_sum.Given as goal

abbrev pub invariant-loop-k : goal.invariant-loop-k
invariant-loop-k g l =
    let G = g.B.BlockKind.group in
    l.sum ≡ sum_to G (λ k. cond (eqb k l.self.j) G.none (cond (eqb k l.self.i) G.none (block_at G l.drift k))) l.k
