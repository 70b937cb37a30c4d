use Rattle.std.proofs.Common.{◌≡◌, Err, refl, rules}
use Rattle.transcript.proofs.Performed.{performed_read, refused_read}
use Rattle.transcript.proofs.performs.read_pair.Goals as goal

pub returns-in_err-read : goal.returns-in_err-read
returns-in_err-read g c t R =
    let e : c.from_residual.result ≡ Err c.in_err-read.field-0.0 = search rules in
    rw e (refused_read _ t _ _ R _ _ _ c.in_err-read.ensures.answer)

pub returns : goal.returns
returns g c t R = performed_read _ t _ _ R _ _ _ c.in_ok-read.ensures.answer (c.in_ok-read.ensures.block refl)
