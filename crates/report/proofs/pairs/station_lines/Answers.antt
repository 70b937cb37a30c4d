use Rattle.std.proofs.Common.{◌≡◌, ℕ, ◌+◌, ◌∷◌, ◌++◌, List, [], codes, decimal, string_bytes, refl, ap, ◌∙◌, subst, arith}
use Rattle.image.specs.Images.{image_meaning}
use Rattle.kinds.specs.declared.blocks.Block.{Block}
use Rattle.store.specs.Meaning.{Meaning}
use Rattle.report.specs.Pairs.{content_text, BlockSaid, PairLine, Joined}
use Rattle.report.proofs.Joins.{joined_more}
use Rattle.report.proofs.pairs.station_lines.Goals as goal
use Rattle.report.proofs.pairs.station_lines.Goals.{else-loop-b-test, then-loop-b-test+in_ok-write+else-b-counter-b-end}

-- one more line
more : (m : Meaning Block) (a b : ℕ) (before block : List ℕ) {text : List ℕ} → Joined (PairLine m a) b before → BlockSaid m a b block →
    text ≡ before ++ (codes "pair " ++ (decimal a ++ (32 ∷ decimal b ++ (32 ∷ block ++ (10 ∷ []))))) → Joined (PairLine m a) (b + 1) text
more m a b before block j h e = joined_more (PairLine m a) b before _ j (record { block = block; says = h; line = refl }) e

pub loop-b-preserved : goal.loop-b-preserved
loop-b-preserved c =
    more (image_meaning c.args.image.now.bytes.now) c.args.a c.loop-b.b-counter (string_bytes c.loop-b.text) (content_text c.content_of-content.result)
    c.loop-b.invariant c.content_of-content.ensures c.in_ok-write.ensures.bytes

pub returns : goal.returns
returns c =
    let m = image_meaning c.args.image.now.bytes.now in
    elim c.loop-b-test.branch [
      | else-loop-b-test w ↦ absurd (omega (arith, w.loop-b-test.false))
      | then-loop-b-test+in_ok-write+else-b-counter-b-end w ↦
          let e : c.loop-b.b-counter ≡ c.args.a = omega arith in
          let Q : ℕ → Type 0 = λ k. Joined (PairLine m c.args.a) (k + 1) (string_bytes c.loop-b-test.text) in
          subst Q e
          (more m c.args.a c.loop-b.b-counter (string_bytes c.loop-b.text) (content_text w.content_of-content.result) c.loop-b.invariant w.content_of-content.ensures
          (ap string_bytes w.text-is ∙ w.in_ok-write.ensures.bytes))
    ]
