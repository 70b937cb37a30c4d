use Rattle.std.proofs.Common.{◌≡◌, ℕ, List, MatchResult, Ok, Err, Result, rules, sym, ap, ◌∙◌}
use Rattle.code.specs.Sizes.{OddPrime}
use Rattle.code.specs.declared.sizes.Size.{Size}
use Rattle.code.proofs.Primes.{unlisted}
use Rattle.faults.specs.declared.faults.Fault.{Fault}
use Rattle.faults.specs.declared.faults.Fault.TheVariants.{NotASize}
use Rattle.orders.specs.Lines.{line}
use Rattle.orders.specs.declared.lines.Reply.TheVariants.{Refused}
use Rattle.transcript.specs.Sessions.{answers, session_text}
use Rattle.transcript.proofs.sessions.size_of.Goals as goal

-- what a number that is a size, or is none, is answered by
answered : (input : List ℕ) (k : ℕ) (r : Result Size Fault) → session_text input ≡ answers k input
    → MatchResult r (λ s. (s.number ≡ k) × OddPrime k) (λ f. (f ≡ NotASize k) × (OddPrime k → ⊥))
    → MatchResult r (λ size. session_text input ≡ answers size.number input) (λ fault. session_text input ≡ line (Refused fault))
answered input k (Ok s) e h = e ∙ ap (λ n. answers n input) (sym h.0)
answered input k (Err f) e h = let none = unlisted k h.1 in e ∙ rw (none, h.0)

pub returns : goal.returns
returns c = answered c.args.input.now _ _ (search rules) c.try_from.ensures
