use Rattle.std.proofs.Common.{◌≡◌, cond, eqb}
use Rattle.kinds.specs.Group.{sum_to}
use Rattle.code.specs.Rules.{of}
use Rattle.store.specs.Standing.{standing}
use Rattle.recovery.proofs.sums.neighbourhood_sum.Given as goal

abbrev pub invariant-loop-k : goal.invariant-loop-k
invariant-loop-k g l =
    let G = g.S.Block.BlockKind.group in
    l.sum ≡ sum_to G (λ k. cond (eqb k l.h) G.none (of (standing G (g.S.ReadStore.means l.store)) l.h k)) l.k
