-- What the calls of a book answer, by the tally that it matches.
use Rattle.std.proofs.Common.{◌≡◌, ℕ, ◌+◌, ◌*◌, ◌<◌, min, max, Bool, true, false, cond, ◌&&◌, ◌||◌, eqb, ltb, leb, is_ok, Some, None, Ok, Err, Option, Result, sym, refl, ap, ◌∙◌, subst, ap₂, inl, inr, arith}
use Rattle.std.proofs.Math.Bool.{or-false}
use Rattle.std.proofs.lemmas.Bool.{leb-false, eqb-true, cases_Bool}
use Rattle.kinds.specs.Group.{Group}
use Rattle.faults.specs.declared.faults.Fault.{Fault}
use Rattle.faults.specs.declared.faults.Fault.TheVariants.{AreaTooShort, NoSuchStation, CheckPair, AlreadyAbsent, NotOut, TooManyAbsent, TicketRefused}
use Rattle.state.specs.Calls.{data_answer, read_answer, write_answer, lose_answer, fit_answer, fill_answer, finish_answer, few_answer, none_filled, too_many}
use Rattle.state.specs.Fillings.{next_of}
use Rattle.state.specs.States.{State, size_of, absent, absent_count, being_filled, SoundAt}
use Rattle.state.specs.declared.records.Filling.{Filling}
use Rattle.serve.specs.Matches.{Matches}
use Rattle.serve.specs.Refusals.{absent_now, unless_many, unless_short, data_refusal, out_now, fit_refusal, refusal, granted, by_refusal, Told}
use Rattle.serve.specs.Tally.{Tally}
use Rattle.serve.specs.Turns.{Made}
use Rattle.serve.specs.declared.turns.Answer.{Answer}
use Rattle.serve.specs.declared.turns.Answer.TheVariants.{NotMade, Refused, Given, Accepted, Untouched}
use Rattle.serve.specs.declared.turns.Call.{Call}
use Rattle.serve.specs.declared.turns.Call.TheVariants.{Write, Read, Lose, Fit, Fill, Finish, Abandon}
use Rattle.serve.proofs.Turned.{counted, read_has, pair_fine, last_write_read}

-- a refusal, or none, as an answer
unfoldable pub outcome : Option Fault → Result (Unit {0}) Fault
outcome None = Ok tt
outcome (Some f) = Err f

pub outcome_none : (o : Option Fault) → outcome o ≡ Ok tt → o ≡ None
unfolding outcome
outcome_none None e = refl
outcome_none (Some f) e = let z : ◌≡◌ {A = ℕ} 0 1 = cc in absurd (omega arith)

pub outcome_some : (o : Option Fault) (f : Fault) → outcome o ≡ Err f → o ≡ Some f
unfolding outcome
outcome_some None f e = let z : ◌≡◌ {A = ℕ} 0 1 = cc in absurd (omega arith)
outcome_some (Some g) f e = let z : g ≡ f = cc in ap Some z

-- one check more in front of both
pub both : (c : Bool) (f : Fault) (x : Result (Unit {0}) Fault) (y : Option Fault) → (c ≡ false → x ≡ outcome y) → cond c (Err f) x ≡ outcome (cond c (Some f) y)
unfolding outcome
both true f x y h = refl
both false f x y h = h refl

-- or one that has to pass
pub passing : (c : Bool) (f : Fault) (x : Result (Unit {0}) Fault) (y : Option Fault) → (c ≡ true → x ≡ outcome y) → cond c x (Err f) ≡ outcome (cond c y (Some f))
unfolding outcome
passing true f x y h = h refl
passing false f x y h = refl

pub fine : Ok tt ≡ outcome None
unfolding outcome
fine = refl

module _ {B : Type 0} (G : Group B) (t : Tally B) (st : State B) (M : Matches G t st) where
  abbrev n : ℕ
  n = size_of st

  here : (s : ℕ) → s < n → absent st s ≡ t.absent s
  here s l = sym (M.gone s l)

  count : absent_count st ≡ absent_now n t
  count = sym (counted G t st M)

  -- three or more are absent, and it is asked
  pub many_as : (asked asked' : Bool) → asked ≡ asked' → cond (asked && too_many st) (Err (TooManyAbsent (absent_count st))) (Ok tt) ≡ outcome (unless_many n t asked')
  many_as asked asked' e =
      ap₂ (λ c k. cond (c && ltb 2 k) (Err (TooManyAbsent k)) (Ok tt)) e count ∙ both (asked' && ltb 2 (absent_now n t)) (TooManyAbsent (absent_now n t)) (Ok tt) None (λ _. fine)

  pub data_as : (len a b : ℕ) (x : Result (Unit {0}) Fault) (y : Option Fault) → (a < n → b < n → x ≡ outcome y) → data_answer st len a b x ≡ outcome (unless_short n t len (data_refusal n t a b y))
  data_as len a b x y h =
      both (ltb len (8 * n)) (AreaTooShort len) (cond (leb n a) (Err (NoSuchStation a)) (cond (leb n b) (Err (NoSuchStation b)) (cond (leb n (max a b + 2)) (Err (CheckPair (max a b))) x))) (data_refusal n t a b y) (λ _.
      both (leb n a) (NoSuchStation a) (cond (leb n b) (Err (NoSuchStation b)) (cond (leb n (max a b + 2)) (Err (CheckPair (max a b))) x)) (cond (leb n b) (Some (NoSuchStation b)) (cond (leb n (max a b + 2)) (Some (CheckPair (max a b))) y)) (λ ea.
      both (leb n b) (NoSuchStation b) (cond (leb n (max a b + 2)) (Err (CheckPair (max a b))) x) (cond (leb n (max a b + 2)) (Some (CheckPair (max a b))) y) (λ eb.
      both (leb n (max a b + 2)) (CheckPair (max a b)) x y (λ _. h (leb-false n a ea) (leb-false n b eb)))))

  pub read_as : (len a b : ℕ) → read_answer st len a b ≡ outcome (unless_short n t len (data_refusal n t a b (unless_many n t (t.absent a || t.absent b))))
  read_as len a b =
      data_as len a b (cond ((absent st a || absent st b) && too_many st) (Err (TooManyAbsent (absent_count st))) (Ok tt)) (unless_many n t (t.absent a || t.absent b))
      (λ la lb. many_as (absent st a || absent st b) (t.absent a || t.absent b) (ap₂ ◌||◌ (here a la) (here b lb)))

  pub write_as : (len a b : ℕ) → write_answer st len a b ≡ outcome (unless_short n t len (data_refusal n t a b (unless_many n t true)))
  write_as len a b = data_as len a b (few_answer st) (unless_many n t true) (λ _ _. many_as true true refl)

  pub lose_as : (s : ℕ) → lose_answer st s ≡ outcome (cond (leb n s) (Some (NoSuchStation s)) (cond (t.absent s) (Some (AlreadyAbsent s)) None))
  lose_as s =
      both (leb n s) (NoSuchStation s) (cond (absent st s) (Err (AlreadyAbsent s)) (Ok tt)) (cond (t.absent s) (Some (AlreadyAbsent s)) None)
      (λ e. ap (λ c. cond c (Err (AlreadyAbsent s)) (Ok tt)) (here s (leb-false n s e)) ∙ both (t.absent s) (AlreadyAbsent s) (Ok tt) None (λ _. fine))

  -- a station is out if it is absent and not being filled
  pub out_as : (s : ℕ) → s < n → st.store.out s ≡ out_now n t s
  out_as s l = go st.filling refl ∙ ap₂ (λ f b. cond (being_filled f s) false b) (sym M.filling) (here s l)
    where
      go : (f : Option Filling) → st.filling ≡ f → st.store.out s ≡ cond (being_filled f s) false (absent st s)
      go f e = elim (cases_Bool (being_filled f s)) [
        | inl b ↦ being f e b ∙ sym (ap (λ c. cond c false (absent st s)) b)
        | inr b ↦ sym (ap (λ c. cond c false (absent st s)) b ∙ ap (λ g. st.store.out s || being_filled g s) e ∙ ap (λ c. st.store.out s || c) b ∙ or-false (st.store.out s))
      ]
        where
          being : (f : Option Filling) → st.filling ≡ f → being_filled f s ≡ true → st.store.out s ≡ false
          being None e b = let z : ◌≡◌ {A = ℕ} 0 1 = cc in absurd (omega arith)
          being (Some f) e b = ap st.store.out (eqb-true s f.station b) ∙ (subst (SoundAt n st.store.out) e M.sound).1

  fit_last : (f : Option Filling) → none_filled st f ≡ outcome (fit_refusal n t f)
  unfolding outcome
  fit_last None = many_as true true refl
  fit_last (Some f) = refl

  pub fit_as : (s : ℕ) → fit_answer st s ≡ outcome (cond (leb n s) (Some (NoSuchStation s)) (cond (out_now n t s) (fit_refusal n t t.filling) (Some (NotOut s))))
  fit_as s =
      both (leb n s) (NoSuchStation s) (cond (st.store.out s) (none_filled st st.filling) (Err (NotOut s))) (cond (out_now n t s) (fit_refusal n t t.filling) (Some (NotOut s)))
      (λ e. ap (λ c. cond c (none_filled st st.filling) (Err (NotOut s))) (out_as s (leb-false n s e))
      ∙ passing (out_now n t s) (NotOut s) (none_filled st st.filling) (fit_refusal n t t.filling) (λ _. fit_last st.filling ∙ ap (λ f. outcome (fit_refusal n t f)) (sym M.filling)))

  pub fill_as : (len s : ℕ) → fill_answer st len s ≡ outcome (unless_short n t len (cond (being_filled t.filling s) (unless_many n t true) (Some (TicketRefused s))))
  fill_as len s =
      both (ltb len (8 * n)) (AreaTooShort len) (cond (being_filled st.filling s) (few_answer st) (Err (TicketRefused s))) (cond (being_filled t.filling s) (unless_many n t true) (Some (TicketRefused s)))
      (λ _. ap (λ f. cond (being_filled f s) (few_answer st) (Err (TicketRefused s))) (sym M.filling)
      ∙ passing (being_filled t.filling s) (TicketRefused s) (few_answer st) (unless_many n t true) (λ _. many_as true true refl))

  pub finish_as : (s : ℕ) → finish_answer st s ≡ outcome (cond (being_filled t.filling s && eqb (next_of t.filling) n) None (Some (TicketRefused s)))
  finish_as s =
      ap (λ f. cond (being_filled f s && eqb (next_of f) n) (Ok tt) (Err (TicketRefused s))) (sym M.filling)
      ∙ passing (being_filled t.filling s && eqb (next_of t.filling) n) (TicketRefused s) (Ok tt) None (λ _. fine)

  module _ (most : ℕ) (c : Call B) (a : Result (Unit {0}) Fault) (says : a ≡ outcome (refusal n t most c)) where
    -- a refused call was refused as the tally says, and an accepted one answered as it says
    told_refused : (f : Fault) → a ≡ Err f → Told n most t c (Refused f)
    told_refused f e = inl (sym (ap (λ o. by_refusal o (granted n t c) (λ f. Refused f)) (outcome_some (refusal n t most c) f (sym says ∙ e))))

    told_granted : (r : Answer B) → a ≡ Ok tt → r ≡ granted n t c → Told n most t c r
    told_granted r e g = inl (g ∙ sym (ap (λ o. by_refusal o (granted n t c) (λ f. Refused f)) (outcome_none (refusal n t most c) (sym says ∙ e))))

  pub told : (most : ℕ) (c : Call B) (r : Answer B) (st' : State B) → Made G most st c r st' → Told n most t c r
  told most (Write a b x area) NotMade st' h = absurd h
  told most (Write a b x area) (Refused f) st' h = told_refused most (Write a b x area) (write_answer st (min area most) a b) (write_as (min area most) a b) f h.0
  told most (Write a b x area) (Given y) st' h = absurd h
  told most (Write a b x area) Accepted st' h = told_granted most (Write a b x area) (write_answer st (min area most) a b) (write_as (min area most) a b) Accepted h.0 refl
  told most (Write a b x area) Untouched st' h = absurd h
  told most (Read a b area) NotMade st' h = absurd h
  told most (Read a b area) (Refused f) st' h = told_refused most (Read a b area) (read_answer st (min area most) a b) (read_as (min area most) a b) f h.0
  told most (Read a b area) (Given y) st' h =
      let p = read_has st (min area most) a b (ap is_ok h.0) in
      told_granted most (Read a b area) (read_answer st (min area most) a b) (read_as (min area most) a b) (Given y) h.0 (ap Given (last_write_read G t st M a b y (pair_fine st (min area most) a b p.0) h.1 p.1))
  told most (Read a b area) Accepted st' h = absurd h
  told most (Read a b area) Untouched st' h = absurd h
  told most (Lose s) NotMade st' h = absurd h
  told most (Lose s) (Refused f) st' h = told_refused most (Lose s) (lose_answer st s) (lose_as s) f h.0
  told most (Lose s) (Given y) st' h = absurd h
  told most (Lose s) Accepted st' h = told_granted most (Lose s) (lose_answer st s) (lose_as s) Accepted h.0 refl
  told most (Lose s) Untouched st' h = absurd h
  told most (Fit s) NotMade st' h = inr (tt, refl)
  told most (Fit s) (Refused f) st' h = told_refused most (Fit s) (fit_answer st s) (fit_as s) f h.0
  told most (Fit s) (Given y) st' h = absurd h
  told most (Fit s) Accepted st' h = told_granted most (Fit s) (fit_answer st s) (fit_as s) Accepted h.0 refl
  told most (Fit s) Untouched st' h = absurd h
  told most (Fill s area) NotMade st' h = inr (tt, refl)
  told most (Fill s area) (Refused f) st' h = told_refused most (Fill s area) (fill_answer st (min area most) s) (fill_as (min area most) s) f h.0
  told most (Fill s area) (Given y) st' h = absurd h
  told most (Fill s area) Accepted st' h = told_granted most (Fill s area) (fill_answer st (min area most) s) (fill_as (min area most) s) Accepted h.0 refl
  told most (Fill s area) Untouched st' h = absurd h
  told most (Finish s) NotMade st' h = inr (tt, refl)
  told most (Finish s) (Refused f) st' h = told_refused most (Finish s) (finish_answer st s) (finish_as s) f h.0
  told most (Finish s) (Given y) st' h = absurd h
  told most (Finish s) Accepted st' h = told_granted most (Finish s) (finish_answer st s) (finish_as s) Accepted h.0 refl
  told most (Finish s) Untouched st' h = absurd h
  told most (Abandon s sort) NotMade st' h = inr (tt, refl)
  told most (Abandon s sort) (Refused f) st' h = absurd h
  told most (Abandon s sort) (Given y) st' h = absurd h
  told most (Abandon s sort) Accepted st' h = inl (sym (ap (λ c. cond c Accepted Untouched) (ap (λ f. being_filled f s) M.filling ∙ h.0)))
  told most (Abandon s sort) Untouched st' h = inl (sym (ap (λ c. cond c Accepted Untouched) (ap (λ f. being_filled f s) M.filling ∙ h.0)))
