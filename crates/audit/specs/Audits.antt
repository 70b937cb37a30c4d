-- What an audit finds: the first broken rule, neighbourhoods before diagonals, or none.
use Rattle.std.specs.Prelude.{◌≡◌, ℕ, ◌<◌, ◌≢◌, List, ◌++◌, Some, None, Ok, Err, codes, decimal, Result}
use Rattle.kinds.specs.Group.{Group}
use Rattle.code.specs.Rules.{Blocks, neighbourhood, diagonal, Codeword}
use Rattle.faults.specs.declared.faults.Fault.{Fault}
use Rattle.faults.specs.declared.faults.Fault.TheVariants.{AbsentAtAudit}
use Rattle.store.specs.Meaning.{Meaning, first}
use Rattle.audit.specs.declared.audits.Verdict.{Verdict}
use Rattle.audit.specs.declared.audits.Verdict.TheVariants.{Sound, BrokenNeighbourhood, BrokenDiagonal}

-- the sum of rule k is not none, and each rule before it comes to none
pub record FirstBroken {B : Type 0} (none : B) (rule : ℕ → B) (k : ℕ) : Type 0 where
  pub broken : rule k ≢ none
  pub before : (j : ℕ) → j < k → rule j ≡ none

-- of blocks on all pairs
abbrev pub Found : {B : Type 0} → Group B → ℕ → Blocks B → Verdict → Type 0
Found G n f Sound = Codeword G n f
Found G n f (BrokenNeighbourhood h) = (h < n) × FirstBroken G.none (neighbourhood G n f) h
Found G n f (BrokenDiagonal m) =
    (m < n) × ((h : ℕ) → h < n → neighbourhood G n f h ≡ G.none) × FirstBroken G.none (diagonal G n f) m

-- of a store, in which the absent stations are those that are out
abbrev pub Audited : {B : Type 0} → Group B → Meaning B → Result Verdict Fault → Type 0
Audited G m (Ok v) = (first m.out m.size ≡ None) × Found G m.size m.block v
Audited G m (Err e) = (s : ℕ) × (first m.out m.size ≡ Some s) × (e ≡ AbsentAtAudit s)

-- "sound", or "broken" with S for a neighbourhood or D for a diagonal, and the rule's number
abbrev pub verdict_text : Verdict → List ℕ
verdict_text Sound = codes "sound"
verdict_text (BrokenNeighbourhood h) = codes "broken S " ++ decimal h
verdict_text (BrokenDiagonal m) = codes "broken D " ++ decimal m
