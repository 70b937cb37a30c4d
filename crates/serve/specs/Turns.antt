-- What a call does to a book, by its answer: the exact answers and effects of the calls, gathered.
use Rattle.std.specs.Prelude.{◌≡◌, ℕ, min, true, false, None, Ok, Err}
use Rattle.kinds.specs.Group.{Group}
use Rattle.recovery.specs.Recovery.{RecoveredFrom}
use Rattle.faults.specs.declared.faults.Fault.{Fault}
use Rattle.store.specs.Meaning.{Remarked}
use Rattle.state.specs.Calls.{read_answer, write_answer, lose_answer, fit_answer, fill_answer, finish_answer, Wrote, FilledNext}
use Rattle.state.specs.Fillings.{stepped}
use Rattle.state.specs.States.{State, size_of, seen, being_filled, filling_at, Sound}
use Rattle.serve.specs.declared.turns.Answer.{Answer}
use Rattle.serve.specs.declared.turns.Answer.TheVariants.{NotMade, Refused, Given, Accepted, Untouched}
use Rattle.serve.specs.declared.turns.Call.{Call}
use Rattle.serve.specs.declared.turns.Call.TheVariants.{Write, Read, Lose, Fit, Fill, Finish, Abandon}

-- one fact for each sort of answer
abbrev pub ByAnswer : {B : Type 0} → Answer B → Type 0 → (Fault → Type 0) → (B → Type 0) → Type 0 → Type 0 → Type 0
ByAnswer NotMade skipped refused given done untouched = skipped
ByAnswer (Refused f) skipped refused given done untouched = refused f
ByAnswer (Given x) skipped refused given done untouched = given x
ByAnswer Accepted skipped refused given done untouched = done
ByAnswer Untouched skipped refused given done untouched = untouched

-- with a work area of so many blocks to be had
abbrev pub Made : {B : Type 0} → Group B → ℕ → State B → Call B → Answer B → State B → Type 0
Made G most st (Write a b x area) r st' =
    ByAnswer r ⊥ (λ f. (write_answer st (min area most) a b ≡ Err f) × (st' ≡ st)) (λ _. ⊥)
    ((write_answer st (min area most) a b ≡ Ok tt) × Wrote G st a b x st') ⊥
Made G most st (Read a b area) r st' =
    ByAnswer r ⊥ (λ f. (read_answer st (min area most) a b ≡ Err f) × (st' ≡ st))
    (λ x. (read_answer st (min area most) a b ≡ Ok tt) × RecoveredFrom G (seen st) a b x × (st' ≡ st)) ⊥ ⊥
Made G most st (Lose s) r st' =
    ByAnswer r ⊥ (λ f. (lose_answer st s ≡ Err f) × (st' ≡ st)) (λ _. ⊥)
    ((lose_answer st s ≡ Ok tt) × Remarked st.store s true st'.store × (st'.filling ≡ st.filling)) ⊥
Made G most st (Fit s) r st' =
    ByAnswer r (st' ≡ st) (λ f. (fit_answer st s ≡ Err f) × (st' ≡ st)) (λ _. ⊥)
    ((fit_answer st s ≡ Ok tt) × Remarked st.store s false st'.store × (st'.filling ≡ filling_at s 0)) ⊥
Made G most st (Fill s area) r st' =
    ByAnswer r (st' ≡ st) (λ f. (fill_answer st (min area most) s ≡ Err f) × (st' ≡ st)) (λ _. ⊥)
    ((fill_answer st (min area most) s ≡ Ok tt) × (Sound st → FilledNext G st st.filling st'.store) × (st'.filling ≡ stepped (size_of st) st.filling)) ⊥
Made G most st (Finish s) r st' =
    ByAnswer r (st' ≡ st) (λ f. (finish_answer st s ≡ Err f) × (st' ≡ st)) (λ _. ⊥)
    ((finish_answer st s ≡ Ok tt) × (st'.store ≡ st.store) × (st'.filling ≡ None)) ⊥
Made G most st (Abandon s sort) r st' =
    ByAnswer r (st' ≡ st) (λ _. ⊥) (λ _. ⊥)
    ((being_filled st.filling s ≡ true) × (Sound st → Remarked st.store s true st'.store) × (st'.filling ≡ None))
    ((being_filled st.filling s ≡ false) × (st' ≡ st))
