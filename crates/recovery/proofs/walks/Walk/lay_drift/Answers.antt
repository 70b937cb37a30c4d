use Rattle.std.proofs.Common.{◌≡◌, ℕ, ◌+◌, ◌-◌, ◌<◌, ◌≤◌, ◌≢◌, set, sym, ap, ◌∙◌, ap₂, inl, inr, arith}
use Rattle.std.proofs.lemmas.Bool.{cases_eq}
use Rattle.std.proofs.lemmas.List.{get_or_read, get_or-set_same, get_or-set_other}
use Rattle.kinds.specs.Group.{sum_to}
use Rattle.code.proofs.Stations.{apart}
use Rattle.code.proofs.Steps.{sum_more}
use Rattle.recovery.specs.Work.{block_at, station, gathered}
use Rattle.recovery.proofs.walks.Walk.lay_drift.Goals as goal

pub loop-t-preserved : goal.loop-t-preserved
loop-t-preserved g c =
    let G = g.B.BlockKind.group in
    let w = c.args.self in
    let n = w.n in
    let i = w.i in
    let j = w.j in
    let t = c.loop-t.t in
    let near = c.args.near.now in
    let across = c.args.across.now in
    let drift = c.loop-t.drift in
    let sum = c.loop-t.sum in
    let at = c.at-here.result in
    let la : at < n = c.at-here.ensures.below in
    let ln : t < n = c.loop-t-test.true in
    let lt : 2 ≤ t = omega arith in
    let p : t ≡ t - 2 + 2 = omega arith in
    let q : t + 1 ≡ t - 2 + 3 = omega arith in
    let r : t - 2 + 1 ≡ t + 1 - 2 = omega arith in
    let term : ℕ → g.row.B.Denot = λ u. G.sum (block_at G near (station n i j (u + 2))) (block_at G across (station n i j (u + 3))) in
    let here : c.index-near-here.result ≡ block_at G near (station n i j (t - 2 + 2)) =
    get_or_read near at _ (omega arith) c.index-near-here.is G.none ∙ ap (block_at G near) (c.at-here.ensures.at ∙ ap (station n i j) p) in
    let there : c.index-across-at.result ≡ block_at G across (station n i j (t - 2 + 3)) =
    get_or_read across c.at.result _ (omega arith) c.index-across-at.is G.none ∙ ap (block_at G across) (c.at.ensures.at ∙ ap (station n i j) q) in (
      c.add-sum.ensures ∙ sum_more G term (t - 2) sum _ c.loop-t.invariant.0 (c.add.ensures ∙ ap₂ G.sum here there) ∙ ap (sum_to G term) r,
      λ s ls. elim (cases_eq (s + 2) t) [
        | inl e ↦ let d : t - 2 ≡ s = omega arith in
            ap (block_at G (set drift at sum)) (ap (station n i j) e ∙ sym c.at-here.ensures.at)
            ∙ get_or-set_same drift at sum G.none (omega arith) ∙ c.loop-t.invariant.0 ∙ ap (gathered G n i j near across) d
        | inr e ↦ let d : station n i j (s + 2) ≢ station n i j t = apart n i j w.prime.2 w.before w.below (s + 2) t (omega arith) ln e in
            get_or-set_other drift at (station n i j (s + 2)) sum G.none (λ x. d (x ∙ c.at-here.ensures.at)) ∙ c.loop-t.invariant.1 s (omega arith)
      ],
    )
