use Rattle.std.proofs.Common.{◌≡◌, Some, sym, ◌∙◌}
use Rattle.recovery.specs.Recovery.{absent_in}
use Rattle.recovery.proofs.Twos.{lost, first_is, second_is, both_found}
use Rattle.recovery.proofs.absent.two_absent.Goals as goal

pub returns-in_err-smaller : goal.returns-in_err-smaller
returns-in_err-smaller g c =
    let m = g.S.ReadStore.means c.args.store.now in
    let two : absent_in m ≡ 2 = sym c.count_absent.ensures ∙ c.if-count_absent-ne2.false in
    let e = first_is m two c.next_out.result c.next_out.ensures.next in
    let w = c.in_err-smaller.was in
    absurd (cc)

pub returns-in_err-larger : goal.returns-in_err-larger
returns-in_err-larger g c =
    let m = g.S.ReadStore.means c.args.store.now in
    let two : absent_in m ≡ 2 = sym c.count_absent.ensures ∙ c.if-count_absent-ne2.false in
    let e : Some c.in_ok-smaller.smaller ≡ Some (lost m two).i = sym c.in_ok-smaller.was ∙ first_is m two c.next_out.result c.next_out.ensures.next in
    let d = second_is m two c.in_ok-smaller.smaller c.next_out-2.result (cc) c.next_out-2.ensures.next in
    let w = c.in_err-larger.was in
    absurd (cc)

pub returns : goal.returns
returns g c =
    let m = g.S.ReadStore.means c.args.store.now in
    let two : absent_in m ≡ 2 = sym c.count_absent.ensures ∙ c.if-count_absent-ne2.false in
    let e : Some c.in_ok-smaller.smaller ≡ Some (lost m two).i = sym c.in_ok-smaller.was ∙ first_is m two c.next_out.result c.next_out.ensures.next in
    let e' : c.in_ok-smaller.smaller ≡ (lost m two).i = cc in
    let d : Some c.in_ok-larger.larger ≡ Some (lost m two).j = sym c.in_ok-larger.was ∙ second_is m two c.in_ok-smaller.smaller c.next_out-2.result e' c.next_out-2.ensures.next in
    (both_found m two c.in_ok-smaller.smaller c.in_ok-larger.larger e' (cc), two)
