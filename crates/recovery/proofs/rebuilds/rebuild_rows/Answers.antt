use Rattle.std.proofs.Common.{rules, ◌≡◌, ℕ, ◌+◌, ◌%◌, ◌<◌, ◌∙◌, ap, ap₂, arith}
use Rattle.std.proofs.lemmas.List.{get_or_read}
use Rattle.std.proofs.lemmas.Grind.{common_steps}
use Rattle.code.specs.Rules.{neighbourhood, diagonal}
use Rattle.code.specs.Sizes.{OddPrime}
use Rattle.store.specs.Standing.{standing}
use Rattle.recovery.specs.Work.{block_at, station, gathered, all_gathered, first_closed, second_closed}
use Rattle.recovery.proofs.Assembled.{along, assembled}
use Rattle.recovery.proofs.rebuilds.rebuild_rows.Goals as goal

pub returns : goal.returns
returns g c =
    let G = g.S.Block.BlockKind.group in
    let m = g.S.ReadStore.means c.args.store.now in
    let n = m.size in
    let e : c.number-n.result ≡ n = c.number-n.ensures.same ∙ c.size-size.ensures in
    let pair = c.args.pair in
    let i = pair.smaller in
    let j = pair.larger in
    let walk = c.new-walk.result in
    let near = c.lay_row.new.row in
    let across = c.lay_row-2.new.row in
    let drift = c.lay_drift.new.drift in
    let first = c.lay_row-3.new.row in
    let second = c.lay_row-4.new.row in
    let third = c.add-third.result in
    let near_laid : (k : ℕ) → k < n → block_at G near k ≡ neighbourhood G n (standing G m) k = (λ k l. let q = c.lay_row.ensures k G.none (omega (arith, l, c.requires.near)) in search rules) in
    let across_laid : (k : ℕ) → k < n → block_at G across k ≡ diagonal G n (standing G m) ((i + k) % n) = (λ k l. let q = c.lay_row-2.ensures k G.none (omega (arith, l, c.requires.across)) in search rules) in
    let first_laid : (k : ℕ) → k < n → block_at G first k ≡ G.sum third (block_at G drift k) = (λ k l. let q = c.lay_row-3.ensures k G.none (omega (arith, l, c.requires.first)) in grind (arith, common_steps)) in
    let second_laid : (k : ℕ) → k < n → block_at G second k ≡ G.sum (block_at G near k) (block_at G first k) = (λ k l. let q = c.lay_row-4.ensures k G.none (omega (arith, l, c.requires.second)) in grind (arith, common_steps)) in
    let at_walk : (P : ℕ → ℕ → ℕ → Type 0) → P walk.n walk.i walk.j → P n i j = λ P. along P walk.n walk.i walk.j n i j (c.new-walk.ensures.n ∙ c.size-size.ensures) c.new-walk.ensures.i c.new-walk.ensures.j in
    let at_j : c.index-across-from.result ≡ block_at G across j = get_or_read across c.from.result _ (omega arith) c.index-across-from.is G.none ∙ ap (block_at G across) c.from.ensures in
    assembled G m (at_walk (λ n i j. OddPrime n) walk.prime) pair c.requires.two near across drift first second c.close.new.first c.close.new.second third near_laid across_laid
    (at_walk (λ n i j. (s : ℕ) → s + 2 < n → block_at G drift (station n i j (s + 2)) ≡ gathered G n i j near across s) c.lay_drift.ensures)
    (c.add-third.ensures ∙ ap₂ G.sum at_j (at_walk (λ n i j. c.drift_sum.result ≡ all_gathered G n i j drift) c.drift_sum.ensures))
    first_laid second_laid
    (omega (arith, c.requires.first)) (omega (arith, c.requires.second))
    (at_walk (λ n i j. c.close.new.first ≡ first_closed G n i j across first second) c.close.ensures.first)
    (at_walk (λ n i j. c.close.new.second ≡ second_closed G n i j across first second) c.close.ensures.second)
