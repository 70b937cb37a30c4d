use Rattle.std.proofs.Common.{◌≡◌, ℕ, ◌<◌, cond, eqb}
use Rattle.kinds.specs.Group.{sum_to}
use Rattle.code.specs.Rules.{of, neighbourhood, diagonal}
use Rattle.code.proofs.Diagonals.{share}
use Rattle.audit.proofs.audits.first_broken.Given as goal

-- the sum so far of neighbourhood h
abbrev pub invariant-loop-k : goal.invariant-loop-k
invariant-loop-k g l =
    let G = g.S.Block.BlockKind.group in
    let m = g.S.ReadStore.means l.store in
    l.sum ≡ sum_to G (λ k. cond (eqb k l.h) G.none (of m.block l.h k)) l.k

-- the neighbourhoods so far hold
abbrev pub invariant-loop-h : goal.invariant-loop-h
invariant-loop-h g l =
    let G = g.S.Block.BlockKind.group in
    let m = g.S.ReadStore.means l.store in
    (h : ℕ) → h < l.h → neighbourhood G m.size m.block h ≡ G.none

-- the sum so far of diagonal m
abbrev pub invariant-loop-a : goal.invariant-loop-a
invariant-loop-a g l =
    let G = g.S.Block.BlockKind.group in
    let m = g.S.ReadStore.means l.store in
    l.sum ≡ sum_to G (share G m.size m.block l.m) l.a

-- the diagonals so far hold
abbrev pub invariant-loop-m : goal.invariant-loop-m
invariant-loop-m g l =
    let G = g.S.Block.BlockKind.group in
    let m = g.S.ReadStore.means l.store in
    (d : ℕ) → d < l.m → diagonal G m.size m.block d ≡ G.none
