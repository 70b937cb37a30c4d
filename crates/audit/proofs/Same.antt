-- An audit depends on which stations are absent, and no more.
use Rattle.std.proofs.Common.{◌≡◌, ℕ, Bool, Ok, Err, Result, ◌∙◌}
use Rattle.kinds.specs.Group.{Group}
use Rattle.faults.specs.declared.faults.Fault.{Fault}
use Rattle.store.specs.Meaning.{Meaning, first}
use Rattle.audit.specs.Audits.{Audited}
use Rattle.audit.specs.declared.audits.Verdict.{Verdict}

pub audited_cong : {B : Type 0} (G : Group B) (m : Meaning B) (absent : ℕ → Bool) (r : Result Verdict Fault) → first absent m.size ≡ first m.out m.size → Audited G m r → Audited G (record { size = m.size; out = absent; block = m.block }) r
audited_cong G m absent (Ok v) e h = (e ∙ h.0, h.1)
audited_cong G m absent (Err x) e h = (h.0, e ∙ h.1, h.2)
