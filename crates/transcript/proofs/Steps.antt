-- Requests made one after the other.
use Rattle.std.proofs.Common.{◌≡◌, ℕ, ◌+◌, ◌<◌, ◌≤◌, List, [], ◌∷◌, ◌++◌, length, get_or, take, drop, set, sym, ap, ◌∙◌, subst, ap₂, arith}
use Rattle.std.proofs.Math.Seq.{map-set_same}
use Rattle.std.proofs.lemmas.List.{append-nil, append_assoc, map-append, take_more_set, take_all, drop_more, drop_all, drop-set-lt}
use Rattle.kinds.specs.Group.{Group}
use Rattle.state.specs.States.{State, size_of}
use Rattle.serve.specs.Tally.{Tally}
use Rattle.transcript.specs.Performs.{Ready, Performed, Performs}
use Rattle.transcript.specs.Replies.{reply_to, tally_on, replies, requests_of, replies_of}
use Rattle.transcript.specs.declared.requests.Step.{Step}

-- so many requests were made: what follows is answered by the tally that they come to
pub record PerformedTo {B : Type 0} (G : Group B) (t : Tally B) (st : State B) (len i : ℕ) (steps : List (Step B)) (st' : State B) : Type 0 where
  pub now : Tally B
  pub ready : Ready G now st' len
  pub size : size_of st' ≡ size_of st
  pub rest : replies_of (take i steps) ++ replies (size_of st) now (requests_of (drop i steps)) ≡ replies (size_of st) t (requests_of steps)

module _ {B : Type 0} (G : Group B) (t : Tally B) (st : State B) (len : ℕ) (steps : List (Step B)) where
  pub all_done : (i : ℕ) (st' : State B) → length steps ≤ i → PerformedTo G t st len i steps st' → replies_of steps ≡ replies (size_of st) t (requests_of steps)
  all_done i st' l P =
      sym (ap₂ (λ xs ys. replies_of xs ++ replies (size_of st) P.now (requests_of ys)) (take_all i steps l) (drop_all i steps l) ∙ append-nil (replies_of steps)) ∙ P.rest

  pub one_more : (i : ℕ) (d y : Step B) (st₁ st₂ : State B) → i < length steps → y.request ≡ (get_or steps i d).request → PerformedTo G t st len i steps st₁ → Performs G st₁ len y.request y.reply st₂
      → PerformedTo G t st len (i + 1) (set steps i y) st₂
  one_more i d y st₁ st₂ l e P step =
      let p : Performed G P.now st₁ len y.request y.reply st₂ = step P.now P.ready in
      let n = size_of st in
      let q = y.request in
      let on = tally_on n P.now q in
      let tail = replies n on (requests_of (drop (i + 1) steps)) in
      let rep : y.reply ≡ reply_to n P.now q = p.reply ∙ ap (λ k. reply_to k P.now q) P.size in
      record {
        now = on;
        ready = subst (λ k. Ready G (tally_on k P.now q) st₂ len) P.size p.ready;
        size = p.size ∙ P.size;
        rest =
            ap₂ (λ xs ys. replies_of xs ++ replies n on (requests_of ys)) (take_more_set steps i y l) (drop-set-lt (i + 1) steps i y (omega arith))
            ∙ ap (λ xs. xs ++ tail) (map-append (λ step. step.reply) (take i steps) (y ∷ []))
            ∙ append_assoc (replies_of (take i steps)) (y.reply ∷ []) tail
            ∙ ap (λ r. replies_of (take i steps) ++ (r ∷ tail)) rep
            ∙ ap (λ x. replies_of (take i steps) ++ (reply_to n P.now x ∷ replies n (tally_on n P.now x) (requests_of (drop (i + 1) steps)))) e
            ∙ sym (ap (λ xs. replies_of (take i steps) ++ replies n P.now (requests_of xs)) (drop_more steps i d l))
            ∙ P.rest
            ∙ ap (replies n t) (sym (map-set_same (λ step. step.request) steps i y d e));
      }
