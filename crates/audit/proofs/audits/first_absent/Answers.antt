use Rattle.audit.proofs.First.{first_is}
use Rattle.audit.proofs.audits.first_absent.Goals as goal

pub returns : goal.returns
returns g c =
    let m = g.S.ReadStore.means c.args.store.now in
    first_is m.out m.size c.next_out.result c.next_out.ensures.next
