use Rattle.std.proofs.Common.{rules}
use Rattle.recovery.proofs.Assembled.{joined}
use Rattle.recovery.proofs.rebuilds.rebuild.Goals as goal

pub returns : goal.returns
returns g c =
    let m = g.S.ReadStore.means c.args.store.now in
    joined g.S.Block.BlockKind.group m c.args.pair c.rebuild_rows.new.first c.rebuild_rows.new.second _ (search rules) (search rules) c.rebuild_rows.ensures
