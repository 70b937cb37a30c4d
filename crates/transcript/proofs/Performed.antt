-- A request is answered as the tally says, and leaves the book ready for the next.
use Rattle.std.proofs.Common.{◌≡◌, ℕ, ◌*◌, ◌<◌, true, false, is_ok, Some, None, Ok, Err, Option, Result, sym, refl, ap, ◌∙◌, subst, ap₂, arith}
use Rattle.kinds.specs.Group.{Group}
use Rattle.recovery.specs.Recovery.{RecoveredFrom}
use Rattle.code.specs.Rules.{Codeword}
use Rattle.code.proofs.Rows.{neighbourhood_cong, diagonal_cong, of_le}
use Rattle.faults.specs.declared.faults.Fault.{Fault}
use Rattle.store.specs.Meaning.{Meaning, After, Remarked, first}
use Rattle.audit.specs.Audits.{Audited, Found}
use Rattle.audit.specs.declared.audits.Verdict.{Verdict}
use Rattle.audit.specs.declared.audits.Verdict.TheVariants.{Sound, BrokenNeighbourhood, BrokenDiagonal}
use Rattle.audit.proofs.First.{first_none, first_cong}
use Rattle.state.specs.Calls.{read_answer, write_answer, lose_answer, Wrote}
use Rattle.state.specs.States.{State, state, size_of, absent, seen}
use Rattle.state.specs.declared.records.Filling.{Filling}
use Rattle.state.proofs.Fillings.{did, left_alone, lose_fine}
use Rattle.orders.specs.declared.lines.Reply.TheVariants as reply
use Rattle.serve.specs.Matches.{Matches}
use Rattle.serve.specs.Refusals.{by_refusal}
use Rattle.serve.specs.Tally.{Tally}
use Rattle.serve.proofs.Keeps.{keep_lose}
use Rattle.serve.proofs.KeepsWrite.{keep_write}
use Rattle.serve.proofs.Refused.{outcome, outcome_none, outcome_some}
use Rattle.serve.proofs.Turned.{write_has, read_has, pair_fine, last_write_read}
use Rattle.transcript.specs.Performs.{Ready, Performed, done_reply}
use Rattle.transcript.specs.Replaces.{Replaced, replace_answer}
use Rattle.transcript.specs.Replies.{refusal, granted, leaves, audit_refusal}
use Rattle.orders.specs.declared.records.Order.{Order}
use Rattle.orders.specs.declared.records.Order.TheVariants.{Read, Write, Lose, Replace, Audit}
use Rattle.transcript.proofs.Answered.{read_as, write_as, lose_as, replace_as}

module _ {B : Type 0} (G : Group B) (t : Tally B) (st : State B) (len : ℕ) (R : Ready G t st len) where
  -- a refusal leaves the book as it was
  pub refused : (q : Order B) (f : Fault) → refusal (size_of st) t q ≡ Some f → Performed G t st len (Ok q) (reply.Refused f) st
  refused q f e = record {
    reply = sym (ap (λ o. by_refusal o (granted (size_of st) t q) (λ f. reply.Refused f)) e);
    size = refl;
    ready = subst (λ o. Ready G (by_refusal o (leaves (size_of st) t q) (λ _. t)) st len) (sym e) R;
  }

  -- a call that hands out nothing
  concluded : (q : Order B) (st' : State B) (o : Option Fault) (r : Result (Unit {0}) Fault) → refusal (size_of st) t q ≡ o → r ≡ outcome o → granted (size_of st) t q ≡ reply.Done
      → (r ≡ Ok tt → Ready G (leaves (size_of st) t q) st' len × (size_of st' ≡ size_of st)) → ((f : Fault) → r ≡ Err f → st' ≡ st)
      → Performed G t st len (Ok q) (done_reply r) st'
  unfolding outcome
  concluded q st' None r e h d ok bad = record {
    reply = ap done_reply h ∙ sym (ap (λ o. by_refusal o (granted (size_of st) t q) (λ f. reply.Refused f)) e ∙ d);
    size = (ok h).1;
    ready = subst (λ o. Ready G (by_refusal o (leaves (size_of st) t q) (λ _. t)) st' len) (sym e) (ok h).0;
  }
  concluded q st' (Some f) r e h d ok bad = record {
    reply = ap done_reply h ∙ sym (ap (λ o. by_refusal o (granted (size_of st) t q) (λ f. reply.Refused f)) e);
    size = ap size_of (bad f h);
    ready = subst (λ o. Ready G (by_refusal o (leaves (size_of st) t q) (λ _. t)) st' len) (sym e) (subst (λ s. Ready G t s len) (sym (bad f h)) R);
  }

  pub performed_write : (a b : ℕ) (x : B) (st' : State B) (r : Result (Unit {0}) Fault) → r ≡ write_answer st len a b → After r (Wrote G st a b x st') (st' ≡ st) → Performed G t st len (Ok (Write a b x)) (done_reply r) st'
  performed_write a b x st' r e h =
      concluded (Write a b x) st' (refusal (size_of st) t (Write a b x)) r refl (e ∙ write_as G t st len R a b x) refl
      (λ ok.
      let W : Wrote G st a b x st' = did r (Wrote G st a b x st') (st' ≡ st) (ap is_ok ok) h in
      let p = write_has st len a b (ap is_ok (sym e ∙ ok)) in
      (record { matched = keep_write G t st st' a b x R.matched p.1 p.0.first p.0.second W; idle = W.filling ∙ R.idle; long = omega (arith, R.long, ap (λ k. 8 * k) W.size) }, W.size))
      (λ f bad. left_alone r (Wrote G st a b x st') (st' ≡ st) (ap is_ok bad) h)

  pub performed_lose : (s : ℕ) (m' : Meaning B) (f' : Option Filling) (r : Result (Unit {0}) Fault) → r ≡ lose_answer st s → After r (Remarked st.store s true m') (m' ≡ st.store) → f' ≡ st.filling
      → Performed G t st len (Ok (Lose s)) (done_reply r) (state m' f')
  performed_lose s m' f' r e h ef =
      concluded (Lose s) (state m' f') (refusal (size_of st) t (Lose s)) r refl (e ∙ lose_as G t st len R s) refl
      (λ ok.
      let K : Remarked st.store s true m' = did r (Remarked st.store s true m') (m' ≡ st.store) (ap is_ok ok) h in (
        record {
          matched = subst (λ f. Matches G (leaves (size_of st) t (Lose s)) (state m' f)) (sym ef) (keep_lose G t st.store m' s st.filling R.matched (lose_fine st s (sym e ∙ ok)) K);
          idle = ef ∙ R.idle;
          long = omega (arith, R.long, ap (λ k. 8 * k) K.size);
        },
        K.size,
      ))
      (λ f bad. ap₂ state (left_alone r (Remarked st.store s true m') (m' ≡ st.store) (ap is_ok bad) h) ef)

  pub performed_replace : (s : ℕ) (st' : State B) (r : Result (Unit {0}) Fault) → r ≡ replace_answer st len s → After r (Replaced G st s st') (st' ≡ st) → Performed G t st len (Ok (Replace s)) (done_reply r) st'
  performed_replace s st' r e h =
      concluded (Replace s) st' (refusal (size_of st) t (Replace s)) r refl (e ∙ replace_as G t st len R s) refl
      (λ ok.
      let K : Replaced G st s st' = did r (Replaced G st s st') (st' ≡ st) (ap is_ok ok) h in
      (record { matched = K.keeps t R.matched; idle = K.filling; long = omega (arith, R.long, ap (λ k. 8 * k) K.size) }, K.size))
      (λ f bad. left_alone r (Replaced G st s st') (st' ≡ st) (ap is_ok bad) h)

  pub performed_read : (a b : ℕ) (x : B) → Ok tt ≡ read_answer st len a b → RecoveredFrom G (seen st) a b x → Performed G t st len (Ok (Read a b)) (reply.Block x) st
  performed_read a b x e h =
      let p = read_has st len a b (ap is_ok (sym e)) in
      let o : refusal (size_of st) t (Read a b) ≡ None = outcome_none (refusal (size_of st) t (Read a b)) (sym (read_as G t st len R a b) ∙ sym e) in
      record {
        reply = ap (λ y. reply.Block y) (last_write_read G t st R.matched a b x (pair_fine st len a b p.0) h p.1) ∙ sym (ap (λ o. by_refusal o (granted (size_of st) t (Read a b)) (λ f. reply.Refused f)) o);
        size = refl;
        ready = subst (λ o. Ready G (by_refusal o t (λ _. t)) st len) (sym o) R;
      }

  pub refused_read : (a b : ℕ) (f : Fault) → Err f ≡ read_answer st len a b → Performed G t st len (Ok (Read a b)) (reply.Refused f) st
  refused_read a b f e = refused (Read a b) f (outcome_some (refusal (size_of st) t (Read a b)) f (sym (read_as G t st len R a b) ∙ sym e))

  -- with all stations standing, the store holds a codeword
  whole : first (absent st) (size_of st) ≡ None → Codeword G (size_of st) st.store.block
  whole e =
      let all : (s : ℕ) → s < size_of st → absent st s ≡ false = first_none (absent st) (size_of st) e in
      let M = R.matched in
      record {
        neighbourhoods = λ h l. neighbourhood_cong G (size_of st) st.store.block M.word h (λ k lk _. M.standing h k l lk (all h l, all k lk)) ∙ M.code.neighbourhoods h l;
        diagonals = λ m l. diagonal_cong G (size_of st) st.store.block M.word m (λ a b la lb. let lb' : b < size_of st = omega arith in sym (of_le st.store.block a b lb) ∙ M.standing a b la lb' (all a la, all b lb') ∙ of_le M.word a b lb) ∙ M.code.diagonals m l;
      }

  sound : (v : Verdict) → Found G (size_of st) st.store.block v → Codeword G (size_of st) st.store.block → v ≡ Sound
  sound Sound h w = refl
  sound (BrokenNeighbourhood k) h w = absurd (h.1.broken (w.neighbourhoods k h.0))
  sound (BrokenDiagonal k) h w = absurd (h.2.broken (w.diagonals k h.0))

  same_first : first t.absent (size_of st) ≡ first (absent st) (size_of st)
  same_first = first_cong t.absent (absent st) (size_of st) R.matched.gone

  pub performed_audit : (v : Verdict) → Audited G (seen st) (Ok v) → Performed G t st len (Ok Audit) (reply.Found v) st
  performed_audit v h =
      let o : refusal (size_of st) t Audit ≡ None = ap (audit_refusal (size_of st) t) (same_first ∙ h.0) in
      record {
        reply = ap (λ w. reply.Found w) (sound v h.1 (whole h.0)) ∙ sym (ap (λ o. by_refusal o (reply.Found Sound) (λ f. reply.Refused f)) o);
        size = refl;
        ready = subst (λ o. Ready G (by_refusal o t (λ _. t)) st len) (sym o) R;
      }

  pub refused_audit : (f : Fault) → Audited G (seen st) (Err f) → Performed G t st len (Ok Audit) (reply.Refused f) st
  refused_audit f h = refused Audit f (ap (audit_refusal (size_of st) t) (same_first ∙ h.1) ∙ sym (ap Some h.2))
