use Rattle.std.proofs.Common.{◌≡◌, ◌+◌, ◌%◌, true, ◌||◌, take, drop, ap, ◌∙◌, arith}
use Rattle.std.proofs.lemmas.Bool.Decides.{nat_tests}
use Rattle.code.specs.Rules.{diagonal}
use Rattle.store.specs.Standing.{standing}
use Rattle.recovery.proofs.Picked.{one_recovered, two_recovered}
use Rattle.recovery.proofs.recovery.recovered_block.Goals as goal

pub returns-in-Some : goal.returns-in-Some
returns-in-Some g c =
    let m = g.S.ReadStore.means c.args.store.now in
    let G = g.S.Block.BlockKind.group in
    let lost : (m.out c.args.a || m.out c.args.b) ≡ true = grind (arith, nat_tests, c.requires.lost) in
    let two = c.in-Some.two in
    two_recovered G m c.args.a c.args.b c.requires.first c.requires.second c.block.result lost two
    c.in-Some.ensures.0 (take m.size c.rebuild.new.work) (drop m.size c.rebuild.new.work) c.rebuild.ensures
    c.in-Some.ensures.1
    (c.block.ensures ∙ cc)

pub returns-in-None : goal.returns-in-None
returns-in-None g c =
    let m = g.S.ReadStore.means c.args.store.now in
    let G = g.S.Block.BlockKind.group in
    let lost : (m.out c.args.a || m.out c.args.b) ≡ true = grind (arith, nat_tests, c.requires.lost) in
    let e : c.number-n.result ≡ m.size = c.number-n.ensures.same ∙ c.size-size.ensures in
    one_recovered G m c.args.a c.args.b c.requires.first c.requires.second c.diagonal_sum.result lost
    c.in-None.ensures
    (c.diagonal_sum.ensures ∙ ap (λ k. diagonal G m.size (standing G m) ((c.args.a + c.args.b) % k)) e)
