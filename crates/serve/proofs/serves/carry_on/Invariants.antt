use Rattle.std.proofs.Common.{◌≡◌, length, take}
use Rattle.serve.specs.Matches.{CarriesOn, Tells, calls_of}
use Rattle.book.specs.Books.{state_of}
use Rattle.serve.proofs.serves.carry_on.Given as goal

abbrev pub invariant-loop-i : goal.invariant-loop-i
invariant-loop-i g l =
    let G = g.S.Block.BlockKind.group in
    let st = state_of g.S.ReadStore.means l.initial.book in
    record {
      calls : calls_of l.turns ≡ calls_of l.initial.turns;
      promise : CarriesOn G (length l.initial.work) st (take l.i l.turns) (state_of g.S.ReadStore.means l.book);
      told : Tells G (length l.initial.work) st (take l.i l.turns);
    }
