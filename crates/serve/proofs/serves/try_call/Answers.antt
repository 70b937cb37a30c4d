use Rattle.std.proofs.Common.{length}
use Rattle.serve.proofs.serves.try_call.Goals as goal

pub returns-in-Lose : goal.returns-in-Lose
returns-in-Lose g c = rw c.in-Lose.is (c.make_lose.ensures (length c.args.work.now))

pub returns-in-Fit : goal.returns-in-Fit
returns-in-Fit g c = rw c.in-Fit.is (c.make_fit.ensures (length c.args.work.now))

pub returns-in-Finish : goal.returns-in-Finish
returns-in-Finish g c = rw c.in-Finish.is (c.make_finish.ensures (length c.args.work.now))

pub returns-in-Abandon : goal.returns-in-Abandon
returns-in-Abandon g c = rw c.in-Abandon.is (c.make_abandon.ensures (length c.args.work.now))
