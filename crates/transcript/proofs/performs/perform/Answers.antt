use Rattle.transcript.proofs.Performed.{performed_write, performed_lose, performed_replace}
use Rattle.transcript.proofs.performs.perform.Goals as goal

pub returns-in-Read : goal.returns-in-Read
returns-in-Read g c t R = rw (c.in_ok-a.was, c.in-Read.is) (c.read_pair.ensures t R)

pub returns-in-Write : goal.returns-in-Write
returns-in-Write g c t R =
    rw (c.in_ok-a.was, c.in-Write.is, c.done.ensures) (performed_write _ t _ _ R _ _ _ _ _ c.write.ensures.answer c.write.ensures.after)

pub returns-in-Lose : goal.returns-in-Lose
returns-in-Lose g c t R =
    let h = c.lose.ensures in
    rw (c.in_ok-a.was, c.in-Lose.is, c.done-in-Lose.ensures) (performed_lose _ t _ _ R _ _ _ _ h.answer h.after h.filling)

pub returns-in-Replace : goal.returns-in-Replace
returns-in-Replace g c t R =
    rw (c.in_ok-a.was, c.in-Replace.is, c.done-in-Replace.ensures) (performed_replace _ t _ _ R _ _ _ c.replace.ensures.answer c.replace.ensures.after)

pub returns-in-Audit : goal.returns-in-Audit
returns-in-Audit g c t R = rw (c.in_ok-a.was, c.in-Audit.is) (c.audit_all.ensures _ t R)
