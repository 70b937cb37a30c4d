use Rattle.std.proofs.Common.{◌≡◌, ◌<◌, length}
use Rattle.state.specs.States.{size_of}
use Rattle.book.specs.Books.{state_of}
use Rattle.transcript.specs.Replaces.{CanFillUp, FilledTo}
use Rattle.transcript.proofs.replaces.fill_up.Given as goal

abbrev pub invariant-loop : goal.invariant-loop
invariant-loop g l =
    let m = g.S.ReadStore.means in
    let s = l.initial.ticket.station in
    let st = state_of m l.initial.book in
    let st' = state_of m l.book in
    (l.ticket.station ≡ s)
    × (CanFillUp st s (length l.initial.work) → FilledTo g.S.Block.BlockKind.group st s l.counter st' × (0 < l.counter → l.counter < size_of st))
