use Rattle.std.proofs.Common.{◌≡◌, Err, rules}
use Rattle.transcript.proofs.Performed.{performed_audit, refused_audit}
use Rattle.transcript.proofs.performs.audit_all.Goals as goal

pub returns-in_err-verdict : goal.returns-in_err-verdict
returns-in_err-verdict g c len t R =
    let e : c.from_residual.result ≡ Err c.in_err-verdict.field-0.0 = search rules in
    rw e (refused_audit _ t _ len R _ c.in_err-verdict.ensures)

pub returns : goal.returns
returns g c len t R = performed_audit _ t _ _ R _ c.in_ok-verdict.ensures
