use Rattle.std.proofs.Common.{rules, ◌∙◌}
use Rattle.recovery.proofs.Counted.{more, counted}
use Rattle.recovery.proofs.absent.count_absent.Goals as goal

pub returns : goal.returns
returns g c =
    let m = g.S.ReadStore.means c.args.store.now in
    let p = c.count.ensures.runs in
    let q = c.filter.ensures.runs p.0 p.0.seen p.1 in
    p.3 ∙ q.2.5 (more m.out m.size) (λ x b f k called. search rules) ∙ counted m.out m.size c.number.result (c.number.ensures.same ∙ c.size.ensures) q.0 q.1 (q.2.0 ∙ p.2)
