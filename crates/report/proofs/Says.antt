-- What a line says of its block, from what recovery answers.
use Rattle.std.proofs.Common.{◌≡◌, ℕ, ◌*◌, ◌<◌, Bool, true, false, ◌||◌, List, ◌++◌, Ok, codes, Result, sym, ap, ◌∙◌, subst}
use Rattle.std.proofs.lemmas.Bool.{or_parts}
use Rattle.kinds.specs.Bytes.{byte_group}
use Rattle.kinds.specs.Texts.{hex_text}
use Rattle.kinds.specs.declared.blocks.Block.{Block}
use Rattle.faults.specs.declared.faults.Fault.{Fault}
use Rattle.recovery.specs.Recovery.{recover_answer, RecoveredFrom}
use Rattle.store.specs.Meaning.{Meaning}
use Rattle.report.specs.Pairs.{BlockText, BlockSaid}

text_rebuilt : (m : Meaning Block) (a b : ℕ) (o : Bool) {r : Result (Unit {0}) Fault} (x : Block) {t : List ℕ} →
    r ≡ Ok tt → o ≡ true → RecoveredFrom byte_group m a b x → t ≡ codes "rebuilt " ++ hex_text x.bytes → BlockText m a b o r t
text_rebuilt m a b o {r} x {t} p q w h =
    let P : Result (Unit {0}) Fault → Type 0 = λ s. BlockText m a b true s t in
    let Q : Bool → Type 0 = λ u. BlockText m a b u r t in
    subst Q (sym q) (subst P (sym p) (x, (w, h)))

module _ (m : Meaning Block) (a b : ℕ) (below_a : a < m.size) (below_b : b < m.size) {len : ℕ} (long : len ≡ 8 * m.size) where
  -- with a work area of that length
  answer_long : {r : Result (Unit {0}) Fault} → r ≡ recover_answer m len a b → recover_answer m (8 * m.size) a b ≡ r
  answer_long e = sym (e ∙ ap (λ k. recover_answer m k a b) long)

  pub said_rebuilt : (x : Block) {t : List ℕ} → Ok tt ≡ recover_answer m len a b → (m.out a || m.out b) ≡ true →
      RecoveredFrom byte_group m a b x → t ≡ codes "rebuilt " ++ hex_text x.bytes → BlockSaid m a b t
  said_rebuilt x p q w h = text_rebuilt m a b (m.out a || m.out b) x (answer_long p) q w h

  pub said_stored : (x : Block) {t : List ℕ} → (m.out a || m.out b) ≡ false →
      RecoveredFrom byte_group m a b x → t ≡ codes "stored " ++ hex_text x.bytes → BlockSaid m a b t
  said_stored x {t} q w h =
      let Q : Bool → Type 0 = λ u. BlockText m a b u (recover_answer m (8 * m.size) a b) t in
      subst Q (sym q) (h ∙ ap (λ y. codes "stored " ++ hex_text y.bytes) (w.stored (or_parts (m.out a) (m.out b) q)))
