use Rattle.std.proofs.Common.{◌≡◌, ◌++◌, drop, vec_items}
use Rattle.transcript.specs.Replies.{replies_of}
use Rattle.transcript.specs.Sessions.{lines}
use Rattle.transcript.proofs.texts.text_of.Given as goal

abbrev pub invariant-loop-step : goal.invariant-loop-step
invariant-loop-step l = vec_items l.text ++ lines (replies_of (drop l.step-index l.steps)) ≡ lines (replies_of l.steps)
