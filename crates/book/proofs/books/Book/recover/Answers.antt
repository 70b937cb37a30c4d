use Rattle.std.proofs.Common.{length, ◌∙◌}
use Rattle.state.proofs.Absents.{out_answered, out_recovered}
use Rattle.store.specs.Standing.{beside}
use Rattle.book.specs.Books.{state_of}
use Rattle.book.proofs.books.Book.recover.Goals as goal

pub returns-clause-answer : goal.returns-clause-answer
returns-clause-answer g c =
    let m' = beside (g.S.ReadStore.means c.standing-standing.result.store.now) c.standing-standing.result.also.bits in
    c.recover_beside.ensures.answer ∙ out_answered (state_of g.S.ReadStore.means c.args.self.now) m' c.standing-standing.ensures (length c.args.work.now) c.args.a c.args.b

pub returns-clause-block : goal.returns-clause-block
returns-clause-block g c =
    let m' = beside (g.S.ReadStore.means c.standing-standing.result.store.now) c.standing-standing.result.also.bits in
    out_recovered (state_of g.S.ReadStore.means c.args.self.now) m' c.standing-standing.ensures (length c.args.work.now) c.args.a c.args.b
    g.S.Block.BlockKind.group c.recover_beside.new.into c.recover_beside.result c.recover_beside.ensures.answer c.recover_beside.ensures.block
