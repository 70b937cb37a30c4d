use Rattle.std.proofs.Common.{is_ok, ap, ◌∙◌}
use Rattle.std.proofs.lemmas.Bool.{both_ways}
use Rattle.book.specs.Books.{state_of}
use Rattle.transcript.proofs.Opened.{opens, answered}
use Rattle.transcript.proofs.sessions.run_on.Goals as goal

pub returns-then-is_ok : goal.returns-then-is_ok
returns-then-is_ok g c all long =
    let h = c.«open».ensures in
    answered _ _ (ap g.S.ReadStore.means c.make-book.ensures.store) all _ _ _ _ _ _ long h.answer h.after c.perform_all.ensures

pub returns : goal.returns
returns g c all long =
    let m = g.S.ReadStore.means in
    let ok = opens (state_of m c.make-book.result) _ (ap m c.make-book.ensures.store) all in
    absurd (both_ways _ c.if-is_ok.false (c.is_ok.ensures.value ∙ ap is_ok c.«open».ensures.answer ∙ ok))
