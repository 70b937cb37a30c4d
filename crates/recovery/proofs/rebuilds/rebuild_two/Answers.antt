use Rattle.std.proofs.Common.{subst}
use Rattle.recovery.specs.Recovery.{RebuiltTwo}
use Rattle.recovery.proofs.Alone.{alone}
use Rattle.recovery.proofs.rebuilds.rebuild_two.Goals as goal

pub returns : goal.returns
returns g c =
    subst (λ m. RebuiltTwo g.S.Block.BlockKind.group m c.args.work.now c.rebuild_two_beside.result c.rebuild_two_beside.new.work)
    (alone (g.S.ReadStore.means c.args.store.now) c.none.result.bits c.none.ensures.unmarked) c.rebuild_two_beside.ensures
