use Rattle.std.proofs.Common.{◌≡◌, length}
use Rattle.book.specs.Books.{state_of}
use Rattle.serve.specs.Tally.{Tally}
use Rattle.transcript.specs.Performs.{Ready}
use Rattle.transcript.specs.Replies.{requests_of}
use Rattle.transcript.proofs.Steps.{PerformedTo}
use Rattle.transcript.proofs.performs.perform_all.Given as goal

abbrev pub invariant-loop-step : goal.invariant-loop-step
invariant-loop-step g l =
    let m = g.S.ReadStore.means in
    let st = state_of m l.initial.book in
    let st' = state_of m l.book in
    let len = length l.initial.work in
    (requests_of l.steps ≡ requests_of l.initial.steps)
    × ((t : Tally g.row.S-Block.Denot) → Ready g.S.Block.BlockKind.group t st len → PerformedTo g.S.Block.BlockKind.group t st len l.step-index l.steps st')
