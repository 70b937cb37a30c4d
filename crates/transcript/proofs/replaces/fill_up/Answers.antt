use Rattle.std.proofs.Common.{sym, refl, ◌∙◌, arith}
use Rattle.transcript.proofs.Filled.{begun, open_at, still_open, now_full}
use Rattle.transcript.proofs.replaces.fill_up.Goals as goal

pub loop-init : goal.loop-init
loop-init g c = (refl, λ can. (begun _ _ _ _ can, λ h. absurd (omega arith)))

pub returns-in-Full : goal.returns-in-Full
returns-in-Full g c can =
    let h = c.in_ok-same.ensures in
    now_full _ _ _ _ can _ _ (c.loop.invariant.1 can).0 _ (omega arith) h.store h.filling _ _ (sym c.in-Full.is ∙ h.ticket) c.loop.invariant.0

pub loop-preserved : goal.loop-preserved
loop-preserved g c =
    let h = c.in_ok-same.ensures in
    let e = sym c.in-Open.is ∙ h.ticket in
    ((open_at _ _ _ _ e).1 ∙ c.loop.invariant.0, λ can. still_open _ _ _ _ can _ _ (c.loop.invariant.1 can).0 _ (omega arith) h.store h.filling _ _ e)
