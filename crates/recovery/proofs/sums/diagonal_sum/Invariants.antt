use Rattle.std.proofs.Common.{◌≡◌}
use Rattle.kinds.specs.Group.{sum_to}
use Rattle.code.proofs.Diagonals.{share}
use Rattle.store.specs.Standing.{standing}
use Rattle.recovery.proofs.sums.diagonal_sum.Given as goal

abbrev pub invariant-loop-a : goal.invariant-loop-a
invariant-loop-a g l =
    let G = g.S.Block.BlockKind.group in
    l.sum ≡ sum_to G (share G l.n (standing G (g.S.ReadStore.means l.store)) l.m) l.a
