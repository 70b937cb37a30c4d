-- The lines of a report on the pairs of an image: a line for each pair, in place order.
use Rattle.std.specs.Prelude.{◌≡◌, ℕ, zero, suc, ◌+◌, ◌*◌, Bool, true, false, ◌||◌, List, [], ◌∷◌, ◌++◌, Ok, Err, codes, decimal, Result}
use Rattle.kinds.specs.Bytes.{byte_group}
use Rattle.kinds.specs.Texts.{hex_text}
use Rattle.faults.specs.Refusals.{refusal_text}
use Rattle.code.specs.Rules.{of}
use Rattle.kinds.specs.declared.blocks.Block.{Block}
use Rattle.faults.specs.declared.faults.Fault.{Fault}
use Rattle.recovery.specs.Recovery.{recover_answer, RecoveredFrom}
use Rattle.store.specs.Meaning.{Meaning}
use Rattle.report.specs.declared.pairs.Content.{Content}
use Rattle.report.specs.declared.pairs.Content.TheVariants.{Stored, Rebuilt, Lost}

-- what is said of a pair
abbrev pub content_text : Content → List ℕ
content_text (Stored x) = codes "stored " ++ hex_text x.bytes
content_text (Rebuilt x) = codes "rebuilt " ++ hex_text x.bytes
content_text (Lost f) = refusal_text f

-- of the pair of a and b, where neither station is out: the stored block; where one is: the recovered block, or the
-- refusal of the recovery
abbrev pub BlockText : Meaning Block → ℕ → ℕ → Bool → Result (Unit {0}) Fault → List ℕ → Type 0
BlockText m a b false r text = text ≡ codes "stored " ++ hex_text (of m.block a b).bytes
BlockText m a b true (Ok _) text = (x : Block) × (RecoveredFrom byte_group m a b x × (text ≡ codes "rebuilt " ++ hex_text x.bytes))
BlockText m a b true (Err e) text = text ≡ refusal_text e

-- the same, with what recovery answers with a work area of 8 n blocks
abbrev pub BlockSaid : Meaning Block → ℕ → ℕ → List ℕ → Type 0
BlockSaid m a b text = BlockText m a b (m.out a || m.out b) (recover_answer m (8 * m.size) a b) text

-- the line of the pair of a and b
pub record PairLine (m : Meaning Block) (a b : ℕ) (text : List ℕ) : Type 0 where
  pub block : List ℕ
  pub says : BlockSaid m a b block
  pub line : text ≡ codes "pair " ++ (decimal a ++ (32 ∷ decimal b ++ (32 ∷ block ++ (10 ∷ []))))

-- k texts one after another, the text at each place as P says
abbrev pub Joined : (ℕ → List ℕ → Type 0) → ℕ → List ℕ → Type 0
Joined P zero text = text ≡ []
Joined P (suc k) text = (before : List ℕ) × ((last : List ℕ) × (Joined P k before × P k last × (text ≡ before ++ last)))

-- the lines of the pairs of a with each station from 0 to a
abbrev pub StationLines : Meaning Block → ℕ → List ℕ → Type 0
StationLines m a text = Joined (PairLine m a) (a + 1) text

-- the lines of all pairs
abbrev pub PairLines : Meaning Block → List ℕ → Type 0
PairLines m text = Joined (StationLines m) m.size text
