-- The requests of an input, one after another.
use Rattle.std.proofs.Common.{◌≡◌, ℕ, zero, suc, ◌+◌, ◌<◌, ◌≤◌, true, false, ltb, List, [], ◌∷◌, length, Result, refl, ap, ◌∙◌, inl, inr, sym, arith}
use Rattle.std.proofs.lemmas.Bool.{lt-ltb, le-ltb, cases_lt}
use Rattle.faults.specs.declared.faults.Fault.{Fault}
use Rattle.kinds.specs.declared.blocks.Block.{Block}
use Rattle.orders.specs.Records.{record_answer}
use Rattle.transcript.specs.Sessions.{request_as, next_at, requests_from}
use Rattle.orders.specs.declared.records.Order.{Order}
use Rattle.transcript.proofs.Records.{forward}

module _ (input : List ℕ) where
  -- there are none at the end
  pub from_end : (k at : ℕ) → length input ≤ at → requests_from k input at ≡ []
  from_end zero at l = refl
  from_end (suc k) at l = let e : ltb at (length input) ≡ false = le-ltb at (length input) l in rw e

  -- where there is one more
  from_here : (k at : ℕ) → at < length input → requests_from (suc k) input at ≡ request_as (record_answer input at) ∷ requests_from k input (next_at input at (record_answer input at))
  from_here k at l = let e : ltb at (length input) ≡ true = lt-ltb at (length input) l in rw e

  -- what is allowed for them matters no more once it is enough
  same_from : (j k at : ℕ) → length input ≤ at + j → length input ≤ at + k → requests_from j input at ≡ requests_from k input at
  same_from zero k at a b = sym (from_end k at (omega arith))
  same_from (suc j) zero at a b = from_end (suc j) at (omega arith)
  same_from (suc j) (suc k) at a b = elim (cases_lt at (length input)) [
    | inr past ↦ from_end (suc j) at past ∙ sym (from_end (suc k) at past)
    | inl here ↦
        let next = next_at input at (record_answer input at) in
        let f : at < next = forward input at here in
        from_here j at here
        ∙ ap (λ qs. request_as (record_answer input at) ∷ qs) (same_from j k next (omega arith) (omega arith))
        ∙ sym (from_here k at here)
  ]

  pub from_next : (at next : ℕ) (q : Result (Order Block) Fault) → at < length input → q ≡ request_as (record_answer input at) → next ≡ next_at input at (record_answer input at)
      → requests_from (length input) input at ≡ q ∷ requests_from (length input) input next
  from_next at next q l e h =
      let f : at < next_at input at (record_answer input at) = forward input at l in
      same_from (length input) (suc (length input)) at (omega arith) (omega arith) ∙ from_here (length input) at l ∙ rw (e, h)
