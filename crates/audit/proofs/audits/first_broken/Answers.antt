use Rattle.std.proofs.Common.{◌≡◌, ℕ, ◌<◌, ◌≤◌, cond, eqb, leb, sym, ap, ◌∙◌, arith, below_more}
use Rattle.std.proofs.lemmas.Bool.{le-leb, lt-leb, cond-true, cond-false, both_ways}
use Rattle.kinds.specs.Group.{sum_to}
use Rattle.code.specs.Rules.{of, neighbourhood, diagonal}
use Rattle.code.proofs.Steps.{sum_more, sum_skip}
use Rattle.code.proofs.Rows.{of_le}
use Rattle.code.proofs.Diagonals.{share, diagonal_shares}
use Rattle.code.proofs.Walk.{mate, mate_below}
use Rattle.store.proofs.Gets.{got}
use Rattle.audit.proofs.audits.first_broken.Goals as goal
use Rattle.audit.proofs.audits.first_broken.Goals.{then-b-a, else-b-a}

pub loop-h-preserved : goal.loop-h-preserved
loop-h-preserved g c =
    let G = g.S.Block.BlockKind.group in
    let m = g.S.ReadStore.means c.args.store.now in
    let h : ℕ = c.loop-h.h in
    let e : c.loop-k.k ≡ m.size = omega (arith, c.size.ensures, c.number-n.ensures.same, c.loop-k-test.false, c.loop-k.auto.k-end) in
    below_more (λ j. neighbourhood G m.size m.block j ≡ G.none) h c.loop-h.invariant
    (ap (sum_to G (λ k. cond (eqb k h) G.none (of m.block h k))) (sym e) ∙ sym c.loop-k.invariant ∙ c.same.ensures.0 c.if-not-same.false ∙ c.zero-zero.ensures)

pub loop-a-preserved : goal.loop-a-preserved
loop-a-preserved g c =
    let G = g.S.Block.BlockKind.group in
    let m = g.S.ReadStore.means c.args.store.now in
    let d : ℕ = c.loop-m.m in
    let a : ℕ = c.loop-a.a in
    let en : c.number-n.result ≡ m.size = c.number-n.ensures.same ∙ c.size.ensures in
    let la : a < m.size = omega (arith, en, c.loop-a-test.true) in
    let b : ℕ = mate c.number-n.result d a in
    let eb : b ≡ mate m.size d a = ap (λ n. mate n d a) en in
    let lb : b < m.size = omega (arith, eb, mate_below m.size d a (omega arith)) in
    let e : leb (mate m.size d a) a ≡ leb b a = ap (λ x. leb x a) (sym eb) in
    elim c.if-b-a.branch [
      | then-b-a w ↦ let l : b ≤ a = w.if-b-a.true in
          w.sum-is ∙ w.add-sum-then-b-a.ensures
          ∙ sum_more G (share G m.size m.block d) a c.loop-a.sum w.block_or_zero-then-b-a.result c.loop-a.invariant
          (w.block_or_zero-then-b-a.ensures ∙ got m a b (of m.block a b) G.none la lb (c.requires a la) (c.requires b lb) ∙ of_le m.block a b l
          ∙ ap (m.block a) eb ∙ sym (cond-true (leb (mate m.size d a) a) (m.block a (mate m.size d a)) G.none (e ∙ le-leb b a l)))
      | else-b-a w ↦ let l : a < b = w.if-b-a.false in
          w.sum-is ∙ sum_skip G (share G m.size m.block d) a c.loop-a.sum c.loop-a.invariant
          (cond-false (leb (mate m.size d a) a) (m.block a (mate m.size d a)) G.none (e ∙ lt-leb b a l))
    ]

-- the sum over all stations is the diagonal
pub loop-m-preserved : goal.loop-m-preserved
loop-m-preserved g c =
    let G = g.S.Block.BlockKind.group in
    let m = g.S.ReadStore.means c.args.store.now in
    let d : ℕ = c.loop-m.m in
    let en : c.number-n.result ≡ m.size = c.number-n.ensures.same ∙ c.size.ensures in
    let e : c.loop-a.a ≡ m.size = omega (arith, en, c.loop-a-test.false, c.loop-a.auto.a-end) in
    let l : d < m.size = omega (arith, en, c.loop-m-test.true) in
    below_more (λ j. diagonal G m.size m.block j ≡ G.none) d c.loop-m.invariant
    (diagonal_shares G m.size m.block d l ∙ ap (sum_to G (share G m.size m.block d)) (sym e) ∙ sym c.loop-a.invariant
    ∙ c.same-in-loop-m.ensures.0 c.if-not-same-2.false ∙ c.zero-zero.ensures)

pub returns-then-not-same-2 : goal.returns-then-not-same-2
returns-then-not-same-2 g c =
    let G = g.S.Block.BlockKind.group in
    let m = g.S.ReadStore.means c.args.store.now in
    let d : ℕ = c.loop-m.m in
    let en : c.number-n.result ≡ m.size = c.number-n.ensures.same ∙ c.size.ensures in
    let e : c.loop-a.a ≡ m.size = omega (arith, en, c.loop-a-test.false, c.loop-a.auto.a-end) in
    let l : d < m.size = omega (arith, en, c.loop-m-test.true) in
    let sum : diagonal G m.size m.block d ≡ c.loop-a.sum = diagonal_shares G m.size m.block d l ∙ ap (sum_to G (share G m.size m.block d)) (sym e) ∙ sym c.loop-a.invariant in (
      l,
      λ h lh. c.loop-h.invariant h (omega (arith, en, c.loop-h-test.false, lh)),
      record {
        broken = λ p. both_ways c.same-in-loop-m.result c.if-not-same-2.true (c.same-in-loop-m.ensures.1 (sym sum ∙ p ∙ sym c.zero-zero.ensures));
        before = c.loop-m.invariant;
      },
    )
