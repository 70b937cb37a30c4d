use Rattle.std.proofs.Common.{◌≡◌, ℕ, ◌+◌, ◌-◌, ◌≤◌, false, length, get_or}
use Rattle.std.specs.Slice.Iter.{iter_rest}
use Rattle.std.specs.Range.{range_inclusive_len}
use Rattle.state.specs.Additions.{row_part, Added}
use Rattle.book.proofs.writes.add_row.Given as goal

-- the stations so far, and what the row has left
abbrev pub invariant-loop-k : goal.invariant-loop-k
invariant-loop-k g l =
    let G = g.S.Block.BlockKind.group in
    let its = l.k-iterator.a in
    let stays = range_inclusive_len (λ a b. b - a) its.start its.end its.exhausted in
    let k = l.c + 1 - stays in
    (stays ≤ l.c + 1) × (its.end ≡ l.c) × (its.exhausted ≡ false → its.start ≡ k)
    × (k + length (iter_rest l.k-iterator.b) ≡ length l.row)
    × ((j : ℕ) → get_or (iter_rest l.k-iterator.b) j G.none ≡ get_or l.row (k + j) G.none)
    × Added G (g.S.ReadStore.means l.initial.store) (row_part G l.c k l.row) (g.S.ReadStore.means l.store)
