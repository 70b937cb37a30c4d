use Rattle.std.proofs.Common.{◌≡◌, true, is_ok, subst}
use Rattle.recovery.specs.Recovery.{RecoveredFrom}
use Rattle.recovery.proofs.Alone.{alone}
use Rattle.recovery.proofs.recovery.recover.Goals as goal

pub returns-clause-block : goal.returns-clause-block
returns-clause-block g c =
    subst (λ m. is_ok c.recover_beside.result ≡ true → RecoveredFrom g.S.Block.BlockKind.group m c.args.a c.args.b c.recover_beside.new.into)
    (alone (g.S.ReadStore.means c.args.store.now) c.none.result.bits c.none.ensures.unmarked) c.recover_beside.ensures.block
