use Rattle.std.proofs.Common.{◌≡◌, ℕ, suc, ◌+◌, ◌-◌, Bool, true, false, length, get_or, refl, sym, ap, ◌∙◌, subst, arith}
use Rattle.std.specs.Range.{range_inclusive_len}
use Rattle.recovery.specs.Patterns.{spot}
use Rattle.state.specs.Additions.{Added}
use Rattle.state.proofs.Addings.{row_step}
use Rattle.book.proofs.writes.add_row.Goals as goal

-- a range that has one more is not spent
not_spent : (gap : ℕ → ℕ → ℕ) (a b n : ℕ) (e : Bool) → n + 1 ≡ range_inclusive_len gap a b e → e ≡ false
not_spent gap a b n true h = absurd (omega (arith, h))
not_spent gap a b n false h = refl

pub loop-k-preserved : goal.loop-k-preserved
loop-k-preserved g c =
    let G = g.S.Block.BlockKind.group in
    let row = c.args.row.now in
    let s = c.loop-k.k-iterator.a in
    let t = c.next.new.self.a in
    let gap : ℕ → ℕ → ℕ = λ a b. b - a in
    let stays : ℕ = range_inclusive_len gap s.start s.end s.exhausted in
    let stays' : ℕ = range_inclusive_len gap t.start t.end t.exhausted in
    let k : ℕ = c.args.c + 1 - stays in
    let (few, end, at, long, left, added) = c.loop-k.invariant in
    let ((end', (is, one', more)), rest) = c.in-Some.ensures.steps in
    let one : stays' + 1 ≡ stays = one' in
    let x = c.in-Some.x.now in
    let fresh : s.start ≡ k = at (not_spent gap s.start s.end stays' s.exhausted one) in
    let next : c.args.c + 1 - stays' ≡ k + 1 = omega (arith, few, one) in
    let here : x ≡ get_or row k G.none = sym (ap (λ xs. get_or xs 0 G.none) rest) ∙ left 0 ∙ ap (λ k. get_or row k G.none) (omega arith) in (
      omega (arith, few, one),
      end' ∙ end,
      λ e. omega (arith, more e, fresh, next),
      omega (arith, long, next, ap length rest),
      (λ j. sym (ap (λ xs. get_or xs (suc j) G.none) rest) ∙ left (suc j) ∙ ap (λ k. get_or row k G.none) (omega (arith, next))),
      row_step G c.args.c row (g.S.ReadStore.means c.args.store.now) (g.S.ReadStore.means c.loop-k.store) (g.S.ReadStore.means c.add_to.new.store)
          k (c.args.c + 1 - stays') x (omega (arith, few, one)) next here added
          (subst (λ k. Added G (g.S.ReadStore.means c.loop-k.store) (spot G.none x c.args.c k) (g.S.ReadStore.means c.add_to.new.store)) (is ∙ fresh) c.add_to.ensures),
    )
