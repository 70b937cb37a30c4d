-- A store with the absent stations of a book out: what is counted, answered and recovered over it.
use Rattle.std.proofs.Common.{◌≡◌, ℕ, ◌<◌, ◌≤◌, true, false, leb, ◌⊎◌, is_ok, Result, sym, ap, ◌∙◌, subst₂, inl, inr, arith}
use Rattle.std.proofs.lemmas.Bool.{cases_lt, le-leb, lt-leb}
use Rattle.std.proofs.lemmas.Bool.Decides.{nat_tests}
use Rattle.faults.specs.declared.faults.Fault.{Fault}
use Rattle.kinds.specs.Group.{Group}
use Rattle.code.specs.Rebuilt.{absentees, Recovered}
use Rattle.code.proofs.Absent.{absentees_cong, recovered_cong}
use Rattle.recovery.specs.Recovery.{absent_in, recover_answer, RecoveredFrom}
use Rattle.store.specs.Meaning.{Meaning}
use Rattle.state.specs.States.{State, size_of, absent, absent_count, seen, AbsentOut}

module _ {B : Type 0} (st : State B) (m' : Meaning B) (h : AbsentOut st m') where
  pub out_counted : absent_in m' ≡ absent_count st
  out_counted = ap (absentees m'.out) h.size ∙ absentees_cong (size_of st) h.out

  module _ (len a b : ℕ) where
    pub out_answered : recover_answer m' len a b ≡ recover_answer (seen st) len a b
    out_answered = ap (λ n. recover_answer (record { size = n; out = m'.out; block = m'.block }) len a b) h.size ∙ go (cases_lt a (size_of st)) (cases_lt b (size_of st))
      where
        counted : absentees m'.out (size_of st) ≡ absent_count st
        counted = absentees_cong (size_of st) h.out

        go : (a < size_of st) ⊎ (size_of st ≤ a) → (b < size_of st) ⊎ (size_of st ≤ b) → recover_answer (record { size = size_of st; out = m'.out; block = m'.block }) len a b ≡ recover_answer (seen st) len a b
        go (inr l) _ = let u : leb (size_of st) a ≡ true = le-leb (size_of st) a l in rw u
        go (inl la) (inr l) =
            let u : leb (size_of st) a ≡ false = lt-leb (size_of st) a la in
            let v : leb (size_of st) b ≡ true = le-leb (size_of st) b l in
            rw (u, v)
        go (inl la) (inl lb) = rw (h.out a la, h.out b lb, counted)

    pub out_recovered : (G : Group B) (x : B) (r : Result (Unit {0}) Fault) → r ≡ recover_answer m' len a b
        → (is_ok r ≡ true → RecoveredFrom G m' a b x) → is_ok r ≡ true → RecoveredFrom G (seen st) a b x
    out_recovered G x r e f ok =
        let t : is_ok (recover_answer (seen st) len a b) ≡ true = ap is_ok (sym (e ∙ out_answered)) ∙ ok in
        recovered_cong G (size_of st) m'.out (absent st) st.store.block a b x (grind (arith, nat_tests)) (grind (arith, nat_tests)) h.out
        (subst₂ (λ n f. Recovered G n m'.out f a b x) h.size h.block (f ok))
