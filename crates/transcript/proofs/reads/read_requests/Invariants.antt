use Rattle.std.proofs.Common.{◌≡◌, ◌++◌, vec_items}
use Rattle.transcript.specs.Reads.{requests_left}
use Rattle.transcript.specs.Replies.{requests_of}
use Rattle.transcript.specs.Sessions.{session_requests}
use Rattle.transcript.proofs.reads.read_requests.Given as goal

-- what was read and what is left are all
abbrev pub invariant-loop-request : goal.invariant-loop-request
invariant-loop-request l = requests_of (vec_items l.steps) ++ requests_left l.request-iterator ≡ session_requests l.input
