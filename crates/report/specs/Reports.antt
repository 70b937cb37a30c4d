-- The text of a report on an image.
use Rattle.std.specs.Prelude.{◌≡◌, ℕ, zero, suc, Bool, cond, List, [], ◌∷◌, ◌++◌, Ok, Err, codes, decimal, Result}
use Rattle.kinds.specs.Bytes.{byte_group}
use Rattle.kinds.specs.Group.{Group}
use Rattle.kinds.specs.declared.blocks.Block.{Block}
use Rattle.faults.specs.Refusals.{refusal_text}
use Rattle.faults.specs.declared.faults.Fault.{Fault}
use Rattle.audit.specs.Audits.{Audited, verdict_text}
use Rattle.image.specs.Images.{image_check, image_meaning}
use Rattle.store.specs.Meaning.{Meaning}
use Rattle.audit.specs.declared.audits.Verdict.{Verdict}
use Rattle.report.specs.Pairs.{PairLines}

abbrev pub audit_text : Result Verdict Fault → List ℕ
audit_text (Ok v) = verdict_text v
audit_text (Err f) = refusal_text f

-- the numbers below n that are in a set, in rising order, each after a space
abbrev pub listed : (ℕ → Bool) → ℕ → List ℕ
listed f zero = []
listed f (suc n) = listed f n ++ cond (f n) (32 ∷ decimal n) []

-- "out" and the stations, or "out none"
abbrev pub or_none : List ℕ → List ℕ
or_none [] = codes " none"
or_none (c ∷ cs) = c ∷ cs

abbrev pub out_text : (ℕ → Bool) → ℕ → List ℕ
out_text f n = codes "out" ++ or_none (listed f n)

-- three lines: the size, the stations that are out, and what the audit answers
pub record Reported {B : Type 0} (G : Group B) (m : Meaning B) (text : List ℕ) : Type 0 where
  pub answer : Result Verdict Fault
  pub audited : Audited G m answer
  pub lines : text ≡ codes "size " ++ (decimal m.size ++ (10 ∷ out_text m.out m.size ++ (10 ∷ audit_text answer ++ (10 ∷ []))))

-- of an image: the report on what it means, then the lines of its pairs
pub record ImageReported (m : Meaning Block) (text : List ℕ) : Type 0 where
  pub head : List ℕ
  pub pairs : List ℕ
  pub reported : Reported byte_group m head
  pub listed : PairLines m pairs
  pub whole : text ≡ head ++ pairs

-- of bytes: the line of the fault where they are no image
abbrev pub InspectedAs : Result (Unit {0}) Fault → List ℕ → List ℕ → Type 0
InspectedAs (Ok _) bs text = ImageReported (image_meaning bs) text
InspectedAs (Err f) bs text = text ≡ refusal_text f ++ (10 ∷ [])

abbrev pub Inspected : List ℕ → List ℕ → Type 0
Inspected bs text = InspectedAs (image_check bs) bs text
