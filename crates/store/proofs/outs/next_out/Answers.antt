use Rattle.std.proofs.Common.{rules, ◌≡◌, ℕ, ◌∙◌, Bool, true, false, ◌&&◌, ltb}
use Rattle.std.proofs.lemmas.Iterator.{first_from_Range}
use Rattle.store.proofs.outs.next_out.Goals as goal
use Rattle.store.proofs.Nexts.{next_from}

pub returns-clause-next : goal.returns-clause-next
returns-clause-next g c =
    let m = g.S.ReadStore.means c.args.store.now in
    let n = c.number.result in
    let test : ℕ → Bool = λ s. ltb s m.size && m.out s in
    let found = first_from_Range _ c.find.new.self _ c.find.result (λ s. test s ≡ true) (λ s. test s ≡ false) c.find.ensures.ran (λ x q k. search rules) (λ x q k. search rules) in
    next_from m.out c.args.start n m.size c.find.result (c.number.ensures.same ∙ c.size.ensures) found
