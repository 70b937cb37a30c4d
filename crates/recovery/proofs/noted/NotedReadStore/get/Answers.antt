use Rattle.std.proofs.Common.{sym, ◌∙◌, inl, inr}
use Rattle.recovery.proofs.Alone.{same_answer, refused}
use Rattle.recovery.proofs.noted.NotedReadStore.get.Goals as goal
use Rattle.recovery.proofs.noted.NotedReadStore.get.Goals.{then-has+in_ok-admit_pair, then-has-via-then-has, then-has-via-else-has+then-has-2, else-has+else-has-2}

pub returns-clause-answer : goal.returns-clause-answer
returns-clause-answer g c =
    let t = c.args.self.now in
    let m = g.S.ReadStore.means t.store.now in
    elim c.if-has.branch [
      | then-has+in_ok-admit_pair w ↦ let ok = sym w.admit_pair.ensures ∙ w.in_ok-admit_pair.was in
          elim w.then-has.branch [
            | then-has-via-then-has v ↦ absurd (refused m t.also.bits t.absent.bits t.marks c.args.a c.args.b (inl (sym c.has.ensures ∙ v.if-has.true)) ok)
            | then-has-via-else-has+then-has-2 v ↦ absurd (refused m t.also.bits t.absent.bits t.marks c.args.a c.args.b (inr (sym v.has-else-has.ensures ∙ v.if-has-2.true)) ok)
          ]
      | else-has+else-has-2 w ↦ c.get.ensures.answer
          ∙ same_answer m t.also.bits t.absent.bits t.marks c.args.a c.args.b (sym c.has.ensures ∙ w.if-has.false) (sym w.has-else-has.ensures ∙ w.if-has-2.false)
    ]
