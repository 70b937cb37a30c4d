use Rattle.state.specs.Opens.{RowCleared}
use Rattle.book.proofs.opens.clear_row.Given as goal

abbrev pub invariant-loop-b : goal.invariant-loop-b
invariant-loop-b g l = RowCleared g.S.Block.BlockKind.group (g.S.ReadStore.means l.initial.store) l.a l.b (g.S.ReadStore.means l.store)
