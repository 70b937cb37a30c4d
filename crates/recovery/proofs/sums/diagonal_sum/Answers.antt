use Rattle.std.proofs.Common.{◌≡◌, ◌<◌, sym, ap, ◌∙◌, arith}
use Rattle.kinds.specs.Group.{sum_to}
use Rattle.code.specs.Rules.{diagonal}
use Rattle.code.proofs.Diagonals.{share, diagonal_shares}
use Rattle.store.specs.Standing.{standing}
use Rattle.recovery.proofs.sums.diagonal_sum.Goals as goal

pub returns : goal.returns
returns g c =
    let G = g.S.Block.BlockKind.group in
    let f = standing G (g.S.ReadStore.means c.args.store.now) in
    let n = c.number-n.result in
    let e : n ≡ (g.S.ReadStore.means c.args.store.now).size = c.number-n.ensures.same ∙ c.size.ensures in
    let l : c.args.m < n = omega (arith, c.requires) in
    let d : c.loop-a.a ≡ n = omega arith in
    c.loop-a.invariant ∙ ap (sum_to G (share G n f c.args.m)) d ∙ sym (diagonal_shares G n f c.args.m l) ∙ ap (λ x. diagonal G x f c.args.m) e
