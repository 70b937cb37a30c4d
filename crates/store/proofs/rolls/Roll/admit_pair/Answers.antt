use Rattle.std.proofs.Common.{◌<◌, IfOk, Ok, Err, arith}
use Rattle.std.proofs.lemmas.Bool.Decides.{nat_tests}
use Rattle.code.specs.Places.{pair_place}
use Rattle.code.specs.Sizes.{pairs}
use Rattle.code.proofs.Table.{place_below}
use Rattle.store.proofs.rolls.Roll.admit_pair.Goals as goal

pub returns-clause-place : goal.returns-clause-place
returns-clause-place c =
    let n = c.args.self.size.number in
    let la : c.args.a < n = grind (arith, nat_tests, c.in_ok-admit.ensures) in
    let lb : c.args.b < n = grind (arith, nat_tests, c.in_ok-admit-2.ensures) in
    let l : pair_place c.args.a c.args.b < pairs n = place_below n c.args.a c.args.b la lb in
    elim c.admit_present-2.result as (λ r. IfOk r (λ _. pair_place c.args.a c.args.b < pairs n)) [ Ok _ ↦ l | Err _ ↦ tt ]
