use Rattle.std.proofs.Common.{◌≡◌, ℕ, ◌<◌, Bool, false, length, take, drop, get_or, sym, ap, ◌∙◌, arith}
use Rattle.std.proofs.lemmas.List.{get_or_append_left, length-take-le}
use Rattle.code.specs.Places.{pair_place}
use Rattle.code.specs.Sizes.{pairs}
use Rattle.code.proofs.Placed.{pairs_few}
use Rattle.code.proofs.Primes.{listed_prime}
use Rattle.code.proofs.Table.{place_below}
use Rattle.recovery.specs.Recovery.{row_bit}
use Rattle.recovery.proofs.Laid.{lay_bit}
use Rattle.recovery.proofs.patterns.lay_bits.Goals as goal
use Rattle.recovery.proofs.patterns.lay_bits.Goals.{in-Some, in_default}

pub loop-p-preserved : goal.loop-p-preserved
loop-p-preserved c x y lx ly h =
    let n = c.args.rows.now.size.number in
    let p = c.loop-p.p in
    let e : pairs n ≡ c.pairs.result = sym c.pairs.ensures in
    let long : length (take c.pairs.result c.args.into.now) ≡ c.pairs.result = length-take-le c.pairs.result c.args.into.now (omega arith) in
    let rows = c.args.rows.now in
    let bit : ℕ → ℕ → Bool = row_bit n rows.two rows.first.now rows.second.now in
    elim c.match-pair_at.branch [
      | in-Some w ↦ ap (λ xs. get_or xs (pair_place x y) false) w.bits-is
          ∙ lay_bit n p c.loop-p.bits bit w.in-Some.pair w.in-Some.ensures.1 (omega arith) c.loop-p.invariant w.bit.result w.bit.ensures x y lx ly h
      | in_default w ↦ let few = pairs_few n (listed_prime n c.args.rows.now.size.allowed).1 in absurd (omega (arith, few, w.in_default.ensures))
    ]

pub returns-clause-laid : goal.returns-clause-laid
returns-clause-laid c x y lx ly =
    let n = c.args.rows.now.size.number in
    let ln : x < n = omega arith in
    let k : pairs n ≡ c.pairs.result = sym c.pairs.ensures in
    let long : length (take c.pairs.result c.args.into.now) ≡ c.pairs.result = length-take-le c.pairs.result c.args.into.now (omega arith) in
    let l : pair_place x y < pairs n = place_below n x y ln (omega arith) in
    get_or_append_left c.loop-p.bits (drop c.pairs.result c.args.into.now) false (pair_place x y) (omega arith) ∙ c.loop-p.invariant x y ln ly (omega arith)
