use Rattle.std.proofs.Common.{sym, subst₂}
use Rattle.audit.proofs.First.{first_cong}
use Rattle.audit.proofs.Same.{audited_cong}
use Rattle.audit.specs.Audits.{Audited}
use Rattle.state.specs.States.{size_of, absent}
use Rattle.store.specs.Standing.{beside}
use Rattle.book.specs.Books.{state_of}
use Rattle.book.proofs.books.Book.audit.Goals as goal

pub returns : goal.returns
returns g c =
    let G = g.S.Block.BlockKind.group in
    let st = state_of g.S.ReadStore.means c.args.self.now in
    let m' = beside (g.S.ReadStore.means c.standing-standing.result.store.now) c.standing-standing.result.also.bits in
    let h = c.standing-standing.ensures in
    audited_cong G (record { size = size_of st; out = m'.out; block = st.store.block }) (absent st) c.audit_beside.result
    (first_cong (absent st) m'.out (size_of st) (λ s l. sym (h.out s l)))
    (subst₂ (λ n f. Audited G (record { size = n; out = m'.out; block = f }) c.audit_beside.result) h.size h.block c.audit_beside.ensures)
