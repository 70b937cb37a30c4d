use Rattle.state.specs.Opens.{RowsCleared}
use Rattle.book.proofs.opens.clear.Given as goal

abbrev pub invariant-loop-a : goal.invariant-loop-a
invariant-loop-a g l = RowsCleared g.S.Block.BlockKind.group (g.S.ReadStore.means l.initial.store) l.a (g.S.ReadStore.means l.store)
