use Rattle.std.proofs.Common.{◌≡◌, ℕ, ◌<◌, ◌≤◌, length, MatchOption, Option, None, Some, Bor, subst, sym, refl, arith}
use Rattle.std.specs.Slice.{IsItemAt}
use Rattle.std.specs.Option.{option_copied}
use Rattle.code.proofs.Table.{table, table_at}
use Rattle.code.specs.Places.{PairAt}
use Rattle.code.specs.declared.places.Pair.{Pair}
use Rattle.code.proofs.places.pair_at.Goals as goal

-- an entry of the table, or a place past its end
entry : (place : ℕ) (r : Option (Bor Pair)) → length table ≡ 496 → IsItemAt table place r → MatchOption (option_copied r) (496 ≤ place) (λ x. (place < 496) × PairAt place x)
entry place None long h = omega (arith, h)
entry place (Some x) long h =
    let l : place < 496 = omega (arith, long, h.3.0) in (l, subst (PairAt place) (sym h.1) (table_at place x.now l))

long : length table ≡ 496
unfolding table
long = refl

pub returns : goal.returns
unfolding table
returns c = rw c.copied.ensures (entry c.args.place c.get.result long c.get.ensures.lookup)
