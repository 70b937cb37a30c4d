use Rattle.std.proofs.Common.{◌≡◌, ap, ◌∙◌, arith}
use Rattle.code.specs.Rules.{neighbourhood}
use Rattle.store.specs.Standing.{standing}
use Rattle.recovery.proofs.sums.neighbourhood_sum.Goals as goal

pub returns : goal.returns
returns g c =
    let G = g.S.Block.BlockKind.group in
    let f = standing G (g.S.ReadStore.means c.args.store.now) in
    let e : c.loop-k.k ≡ (g.S.ReadStore.means c.args.store.now).size = omega (arith, c.size.ensures, c.number-k-end.ensures.same) in
    c.loop-k.invariant ∙ ap (λ n. neighbourhood G n f c.args.h) e
