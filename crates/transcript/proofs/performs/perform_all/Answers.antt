use Rattle.std.proofs.Common.{◌<◌, length, refl, ap, ◌∙◌, arith}
use Rattle.std.proofs.Math.Seq.{map-set_same}
use Rattle.transcript.specs.Replies.{replies}
use Rattle.transcript.proofs.Steps.{one_more, all_done}
use Rattle.transcript.proofs.performs.perform_all.Goals as goal

pub loop-step-preserved : goal.loop-step-preserved
loop-step-preserved g c =
    let inv = c.loop-step.invariant in
    let l : c.loop-step.step-index < length c.loop-step.steps = omega arith in (
      map-set_same (λ step. step.request) c.loop-step.steps c.loop-step.step-index _ _ refl ∙ inv.0,
      λ t R. one_more _ t _ _ c.loop-step.steps c.loop-step.step-index c.step-item.result _ _ _ l refl (inv.1 t R) (rw c.loop-step.auto.work at c.reply_to-step.ensures),
    )

pub returns : goal.returns
returns g c =
    let inv = c.loop-step.invariant in
    (inv.0, λ t R. all_done _ t _ _ _ _ _ (omega arith) (inv.1 t R) ∙ ap (replies _ t) inv.0)
