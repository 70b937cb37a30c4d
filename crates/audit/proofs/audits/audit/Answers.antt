use Rattle.std.proofs.Common.{sym}
use Rattle.audit.proofs.First.{first_none}
use Rattle.audit.proofs.audits.audit.Goals as goal

pub first_broken-requires : goal.first_broken-requires
first_broken-requires g c =
    let m = g.S.ReadStore.means c.args.store.now in
    first_none m.out m.size (sym c.in-None.ensures)
