use Rattle.std.proofs.Common.{◌≡◌, ℕ, ◌*◌, ◌≤◌, false, cond, ltb, Ok, Err, Result, sym, ap, ◌∙◌, arith}
use Rattle.std.proofs.lemmas.Bool.Decides.{nat_tests}
use Rattle.faults.specs.declared.faults.Fault.{Fault}
use Rattle.faults.specs.declared.faults.Fault.TheVariants.{AreaTooShort}
use Rattle.store.specs.Meaning.{Remarked}
use Rattle.state.specs.Calls.{fit_answer}
use Rattle.state.specs.States.{State, size_of, filling_at}
use Rattle.state.proofs.Fillings.{fits}
use Rattle.transcript.specs.Replaces.{CanFillUp}
use Rattle.transcript.proofs.Replaced.{can_fill, can_finish, stands}
use Rattle.transcript.proofs.replaces.replace.Goals as goal

-- what a work area of len blocks is admitted by, for n stations
abbrev admission : ℕ → ℕ → Result (Unit {0}) Fault
admission n len = cond (ltb len (8 * n)) (Err (AreaTooShort len)) (Ok tt)

-- a work area that is admitted is full
full : (n k len : ℕ) (r : Result (Unit {0}) Fault) → n ≡ k → r ≡ admission n len → r ≡ Ok tt → 8 * k ≤ len
full n k len r z a e = grind (arith, nat_tests)

-- after a fit of s that was accepted, with a work area that was admitted: its ticket can be filled up
fillable : {B : Type 0} (st st₁ : State B) (s t n len : ℕ) (r : Result (Unit {0}) Fault) → n ≡ size_of st → r ≡ admission n len → r ≡ Ok tt
    → Ok tt ≡ fit_answer st s → t ≡ s → Remarked st.store s false st₁.store → st₁.filling ≡ filling_at s 0 → CanFillUp st₁ t len
fillable st st₁ s t n len r z a l e same R f = rw same (can_fill st st₁ s (fits st s (sym e)) R f len (full n (size_of st) len r z a l))

pub returns-in-Ok-finish-clause-after : goal.returns-in-Ok-finish-clause-after
returns-in-Ok-finish-clause-after g c =
    let h = c.in_ok-ticket.ensures in
    let up = c.in-Ok.ensures (fillable _ _ _ _ _ _ _ c.size.ensures c.admit_area.ensures c.in_ok-admit_area.was h.answer h.ticket h.after h.filling) in
    let end = c.in-Ok-finish.ensures in
    stands _ _ _ (fits _ _ (sym h.answer)) h.after h.filling _ _ (rw h.ticket at up.1) _ (ap g.S.ReadStore.means end.store) end.filling

pub returns-in-Err-finish : goal.returns-in-Err-finish
returns-in-Err-finish g c =
    let h = c.in_ok-ticket.ensures in
    let up = c.in-Ok.ensures (fillable _ _ _ _ _ _ _ c.size.ensures c.admit_area.ensures c.in_ok-admit_area.was h.answer h.ticket h.after h.filling) in
    let refused = rw (up.0, h.ticket) at c.in-Err-finish.ensures.answer in
    absurd (cc (refused ∙ can_finish _ _ _ (fits _ _ (sym h.answer)) h.after h.filling _ _ (rw h.ticket at up.1)))

pub returns-in-Err : goal.returns-in-Err
returns-in-Err g c =
    let h = c.in_ok-ticket.ensures in
    absurd (c.in-Err.ensures (fillable _ _ _ _ _ _ _ c.size.ensures c.admit_area.ensures c.in_ok-admit_area.was h.answer h.ticket h.after h.filling))
