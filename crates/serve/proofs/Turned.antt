-- One turn: what the call is promised, and that the book still matches the tally.
use Rattle.std.proofs.Common.{◌≡◌, ℕ, ◌+◌, ◌*◌, ◌<◌, ◌≤◌, min, max, Bool, true, false, cond, ◌&&◌, ◌||◌, eqb, ◌⊎◌, is_ok, Some, None, Ok, Err, Option, Result, sym, refl, ap, ◌∙◌, subst, ap₂, inl, inr, arith}
use Rattle.std.proofs.Math.Logic.{◌↔◌}
use Rattle.std.proofs.lemmas.Bool.{cases_lt, both_ways, ltb-true, ltb-false, lt-ltb, and_cases, and_parts, and_from, or_parts, eqb-true, eq-eqb}
use Rattle.std.proofs.lemmas.Bool.Decides.{nat_tests}
use Rattle.kinds.specs.Group.{Group}
use Rattle.code.specs.Rebuilt.{absentees, Kept}
use Rattle.recovery.specs.Recovery.{RecoveredFrom}
use Rattle.code.specs.Rules.{of}
use Rattle.faults.specs.declared.faults.Fault.{Fault}
use Rattle.faults.specs.declared.faults.Fault.TheVariants.{TooManyAbsent}
use Rattle.code.proofs.Absent.{absentees_cong}
use Rattle.code.proofs.Settled.{settled}
use Rattle.state.specs.Calls.{few_answer, read_answer, write_answer, finish_answer, too_many, FilledNext}
use Rattle.state.specs.Fillings.{next_of, stepped}
use Rattle.serve.specs.Matches.{Matches}
use Rattle.state.specs.States.{State, state, size_of, absent, absent_count, being_filled, filling_at, seen}
use Rattle.serve.specs.Tally.{Tally, DataPair, TooMany, IsRefused, Holds, Promised, tallied, ended, lost, with_filling, restored}
use Rattle.serve.specs.Turns.{Made}
use Rattle.serve.specs.declared.turns.Answer.{Answer}
use Rattle.serve.specs.declared.turns.Answer.TheVariants.{NotMade, Refused, Given, Accepted, Untouched}
use Rattle.serve.specs.declared.turns.Call.{Call}
use Rattle.serve.specs.declared.turns.Sort.{Sort}
use Rattle.serve.specs.declared.turns.Call.TheVariants.{Write, Read, Lose, Fit, Fill, Finish, Abandon}
use Rattle.state.specs.declared.records.Filling.{Filling}
use Rattle.state.proofs.Fillings.{lose_fine, fits, fill_fine, framed}
use Rattle.serve.proofs.Keeps.{keep_lose, keep_fit, keep_fill, keep_finish, keep_abandon}
use Rattle.serve.proofs.KeepsWrite.{keep_write}
use Rattle.state.proofs.Datas.{Fine, fine, fine_answer}

module _ {B : Type 0} (st : State B) (len a b : ℕ) where
  -- a data pair and a full area pass the first checks
  fine_pair : 8 * size_of st ≤ len → DataPair (size_of st) a b → Fine st len a b
  fine_pair l d = let p : a + 2 < size_of st = d.0 in let q : b + 2 < size_of st = d.1 in record { long = l; first = omega arith; second = omega arith; inner = omega arith }

  pub pair_fine : Fine st len a b → DataPair (size_of st) a b
  pair_fine f = let p : max a b + 2 < size_of st = f.inner in (omega arith, omega arith)

  is_pair : (DataPair (size_of st) a b) ⊎ (DataPair (size_of st) a b → ⊥)
  is_pair = elim (cases_lt (a + 2) (size_of st)) [
    | inl p ↦ elim (cases_lt (b + 2) (size_of st)) [ inl q ↦ inl (p, q) | inr q ↦ inr (λ d. let x : b + 2 < size_of st = d.1 in omega arith) ]
    | inr p ↦ inr (λ d. let x : a + 2 < size_of st = d.0 in omega arith)
  ]

  -- what a read looks at last
  abbrev last_read : Result (Unit {0}) Fault
  last_read = cond ((absent st a || absent st b) && too_many st) (Err (TooManyAbsent (absent_count st))) (Ok tt)

  err_from : (t : Bool) (e : Fault) → is_ok {T = Unit {0}} {E = Fault} (cond t (Err e) (Ok tt)) ≡ false → t ≡ true
  err_from true e h = refl
  err_from false e h = absurd (both_ways true h refl)

  ok_from : (t : Bool) (e : Fault) → is_ok {T = Unit {0}} {E = Fault} (cond t (Err e) (Ok tt)) ≡ true → t ≡ false
  ok_from true e h = absurd (both_ways false refl h)
  ok_from false e h = refl

  -- why a write was refused, and what an accepted one has
  pub write_why : 8 * size_of st ≤ len → is_ok (write_answer st len a b) ≡ false → (DataPair (size_of st) a b → ⊥) ⊎ (3 ≤ absent_count st)
  write_why l e = elim is_pair [
    | inl d ↦ inr (ltb-true 2 (absent_count st) (err_from (too_many st) (TooManyAbsent (absent_count st)) (ap is_ok (sym (fine_answer st len a b (fine_pair l d) (few_answer st))) ∙ e)))
    | inr d ↦ inl d
  ]

  pub write_has : is_ok (write_answer st len a b) ≡ true → Fine st len a b × (absent_count st ≤ 2)
  write_has e =
      let f : Fine st len a b = fine st len a b (few_answer st) e in
      let t : too_many st ≡ false = ok_from (too_many st) (TooManyAbsent (absent_count st)) (ap is_ok (sym (fine_answer st len a b f (few_answer st))) ∙ e) in
      (f, omega (arith, ltb-false 2 (absent_count st) t))

  -- the same of a read
  pub read_why : 8 * size_of st ≤ len → is_ok (read_answer st len a b) ≡ false → (DataPair (size_of st) a b → ⊥) ⊎ ((3 ≤ absent_count st) × ((absent st a || absent st b) ≡ true) × (a < size_of st) × (b < size_of st))
  read_why l e = elim is_pair [
    | inl d ↦ let f : Fine st len a b = fine_pair l d in
        let t : ((absent st a || absent st b) && too_many st) ≡ true = err_from ((absent st a || absent st b) && too_many st) (TooManyAbsent (absent_count st)) (ap is_ok (sym (fine_answer st len a b f last_read)) ∙ e) in
        let p = and_parts (absent st a || absent st b) (too_many st) t in
        inr (ltb-true 2 (absent_count st) p.1, p.0, f.first, f.second)
    | inr d ↦ inl d
  ]

  pub read_has : is_ok (read_answer st len a b) ≡ true → Fine st len a b × ((Kept (absent st) a b) ⊎ (absent_count st ≤ 2)) × (((absent st a || absent st b) && too_many st) ≡ false)
  read_has e =
      let f : Fine st len a b = fine st len a b last_read e in
      let t : ((absent st a || absent st b) && too_many st) ≡ false = ok_from ((absent st a || absent st b) && too_many st) (TooManyAbsent (absent_count st)) (ap is_ok (sym (fine_answer st len a b f last_read)) ∙ e) in (
        f,
        (elim (and_cases (absent st a || absent st b) (too_many st) t) [
          | inl p ↦ let q = or_parts (absent st a) (absent st b) p in inl (q.0, q.1)
          | inr p ↦ inr (omega (arith, ltb-false 2 (absent_count st) p))
        ]),
        t,
      )

module _ {B : Type 0} (G : Group B) (t : Tally B) (st : State B) (M : Matches G t st) where
  -- the tally counts the absent stations of the book
  pub counted : absentees t.absent (size_of st) ≡ absent_count st
  counted = absentees_cong (size_of st) M.gone

  -- the store holds the codeword of the last writes
  pub held : Holds G t st.store
  held = (M.word, (M.code, M.last, λ p q lp lq k. M.standing p q lp lq (sym (M.gone p lp) ∙ k.0, sym (M.gone q lq) ∙ k.1)))

  -- what is recovered of a data pair is its last write
  pub last_write_read : (a b : ℕ) (x : B) → DataPair (size_of st) a b → RecoveredFrom G (seen st) a b x → (Kept (absent st) a b) ⊎ (absent_count st ≤ 2) → x ≡ of t.last a b
  last_write_read a b x d r k =
      let p : a + 2 < size_of st = d.0 in
      let q : b + 2 < size_of st = d.1 in
      settled G (size_of st) M.prime (absent st) st.store.block M.word M.code M.standing a b (omega arith) (omega arith) x r k ∙ M.last a b (omega arith) (omega arith) d

-- a turn was made as its answer says: the promise to it, and what still matches
pub record KeptTurn {B : Type 0} (G : Group B) (most : ℕ) (t : Tally B) (st : State B) (c : Call B) (r : Answer B) (st' : State B) : Type 0 where
  pub promised : Promised (size_of st) most t c r
  pub size : size_of st' ≡ size_of st
  pub matched : Matches G (tallied (size_of st) t c r) st'

module _ {B : Type 0} (G : Group B) (most : ℕ) (t : Tally B) (st st' : State B) (M : Matches G t st) where
  -- nothing changed
  unchanged : (c : Call B) (r : Answer B) → st' ≡ st → Promised (size_of st) most t c r → tallied (size_of st) t c r ≡ t → KeptTurn G most t st c r st'
  unchanged c r e p q = record { promised = p; size = ap size_of e; matched = subst (λ x. Matches G x st') (sym q) (subst (Matches G t) (sym e) M) }

  -- a refused call's promise
  refused_iff : {P : Type 0} (f : Fault) → P → IsRefused {B = B} (Refused f) ↔ P
  refused_iff f p = (λ _. p, λ _. (f, refl))

  accepted_iff : {P : Type 0} → (P → ⊥) → IsRefused {B = B} Accepted ↔ P
  accepted_iff h = (λ i. let e : Accepted ≡ Refused i.0 = i.1 in absurd (clash e), λ p. absurd (h p))
    where
      clash : {f : Fault} → ◌≡◌ {A = Answer B} Accepted (Refused f) → ⊥
      clash e = let z : ◌≡◌ {A = ℕ} 0 1 = cc in omega arith

  given_iff : {P : Type 0} (x : B) → (P → ⊥) → IsRefused {B = B} (Given x) ↔ P
  given_iff x h = (λ i. absurd (clash i.1), λ p. absurd (h p))
    where
      clash : {f : Fault} → ◌≡◌ {A = Answer B} (Given x) (Refused f) → ⊥
      clash e = let z : ◌≡◌ {A = ℕ} 0 1 = cc in omega arith

  many : 3 ≤ absent_count st → TooMany (size_of st) t
  many l = omega (arith, counted G t st M)

  -- writes
  turn_write : (a b : ℕ) (x : B) (area : ℕ) (r : Answer B) → Made G most st (Write a b x area) r st' → KeptTurn G most t st (Write a b x area) r st'
  turn_write a b x area NotMade h = absurd h
  turn_write a b x area (Refused f) h =
      unchanged (Write a b x area) (Refused f) h.1
      (λ l. refused_iff f (elim (write_why st (min area most) a b l (ap is_ok h.0)) [ inl d ↦ inl d | inr k ↦ inr (many k) ])) refl
  turn_write a b x area (Given y) h = absurd h
  turn_write a b x area Accepted h =
      let p = write_has st (min area most) a b (ap is_ok h.0) in
      record {
        promised = λ l. accepted_iff (λ c. elim c [ inl d ↦ d (pair_fine st (min area most) a b p.0) | inr k ↦ let z : absent_count st ≤ 2 = p.1 in omega (arith, counted G t st M) ]);
        size = h.1.size;
        matched = keep_write G t st st' a b x M p.1 p.0.first p.0.second h.1;
      }
  turn_write a b x area Untouched h = absurd h

  -- reads
  turn_read : (a b area : ℕ) (r : Answer B) → Made G most st (Read a b area) r st' → KeptTurn G most t st (Read a b area) r st'
  turn_read a b area NotMade h = absurd h
  turn_read a b area (Refused f) h =
      unchanged (Read a b area) (Refused f) h.1 (
        λ x e. let z : ◌≡◌ {A = ℕ} 0 1 = cc in absurd (omega arith),
        λ l. refused_iff f (elim (read_why st (min area most) a b l (ap is_ok h.0)) [ inl d ↦ inl d | inr k ↦ inr (many k.0, ap₂ ◌||◌ (M.gone a k.2) (M.gone b k.3) ∙ k.1) ]),
      ) refl
  turn_read a b area (Given x) h =
      let p = read_has st (min area most) a b (ap is_ok h.0) in
      unchanged (Read a b area) (Given x) h.2 (
        λ y e. let s : x ≡ y = cc in sym s ∙ last_write_read G t st M a b x (pair_fine st (min area most) a b p.0) h.1 p.1,
        λ l. given_iff x (λ c. elim c [
          | inl d ↦ d (pair_fine st (min area most) a b p.0)
          | inr k ↦ both_ways ((absent st a || absent st b) && too_many st) p.2
              (and_from (absent st a || absent st b) (too_many st) (sym (ap₂ ◌||◌ (M.gone a p.0.first) (M.gone b p.0.second)) ∙ k.1) (lt-ltb 2 (absent_count st) (omega (arith, counted G t st M, k.0))))
        ]),
      ) refl
  turn_read a b area Accepted h = absurd h
  turn_read a b area Untouched h = absurd h

  turn_lose : (s : ℕ) (r : Answer B) → Made G most st (Lose s) r st' → KeptTurn G most t st (Lose s) r st'
  turn_lose s NotMade h = absurd h
  turn_lose s (Refused f) h = unchanged (Lose s) (Refused f) h.1 tt refl
  turn_lose s (Given y) h = absurd h
  turn_lose s Accepted h = record {
    promised = tt;
    size = h.1.size;
    matched = subst (λ f. Matches G (lost t s) (state st'.store f)) (sym h.2)
        (keep_lose G t st.store st'.store s st.filling M (lose_fine st s h.0) h.1);
  }
  turn_lose s Untouched h = absurd h

  turn_fit : (s : ℕ) (r : Answer B) → Made G most st (Fit s) r st' → KeptTurn G most t st (Fit s) r st'
  turn_fit s NotMade h = unchanged (Fit s) NotMade h tt refl
  turn_fit s (Refused f) h = unchanged (Fit s) (Refused f) h.1 tt refl
  turn_fit s (Given y) h = absurd h
  turn_fit s Accepted h =
      let p = fits st s h.0 in
      record {
        promised = tt;
        size = h.1.size;
        matched = subst (λ f. Matches G (with_filling t (filling_at s 0)) (state st'.store f)) (sym h.2)
            (keep_fit G t st.store st'.store s (subst (λ f. Matches G t (state st.store f)) p.idle M) p.station p.out h.1);
      }
  turn_fit s Untouched h = absurd h

  turn_fill : (s area : ℕ) (r : Answer B) → Made G most st (Fill s area) r st' → KeptTurn G most t st (Fill s area) r st'
  turn_fill s area NotMade h = unchanged (Fill s area) NotMade h tt refl
  turn_fill s area (Refused f) h = unchanged (Fill s area) (Refused f) h.1 tt refl
  turn_fill s area (Given y) h = absurd h
  turn_fill s area Accepted h =
      let p = fill_fine st (min area most) s (ap is_ok h.0) in
      go st.filling refl p.1 p.2 (h.1 M.sound) h.2
    where
      go : (f : Option Filling) → st.filling ≡ f → being_filled f s ≡ true → too_many st ≡ false → FilledNext G st st.filling st'.store → st'.filling ≡ stepped (size_of st) st.filling → KeptTurn G most t st (Fill s area) Accepted st'
      go None e b few F q = absurd (both_ways false refl b)
      go (Some f) e b few F q =
          let M' : Matches G t (state st.store (Some f)) = subst (λ f. Matches G t (state st.store f)) e M in
          let F' : FilledNext G (state st.store (Some f)) (Some f) st'.store = subst (λ f. FilledNext G (state st.store f) f st'.store) e F in
          let few' : too_many (state st.store (Some f)) ≡ false = subst (λ f. too_many (state st.store f) ≡ false) e few in
          let K = keep_fill G t st.store st'.store f.station f.next M' few' F' in
          record {
            promised = tt;
            size = filled_size (cases_lt f.next (size_of st)) F';
            matched = subst (λ f. Matches G (with_filling t (stepped (size_of st) t.filling)) (state st'.store f)) (sym (q ∙ ap (stepped (size_of st)) e)) K;
          }
        where
          filled_size : (f.next < size_of st) ⊎ (size_of st ≤ f.next) → FilledNext G (state st.store (Some f)) (Some f) st'.store → size_of st' ≡ size_of st
          filled_size (inl l) F = (framed G (state st.store (Some f)) f.station f.next st'.store (F.0 l)).size
          filled_size (inr l) F = ap (λ m. m.size) (F.1 l)
  turn_fill s area Untouched h = absurd h

  finish_has : (s : ℕ) → is_ok (finish_answer st s) ≡ true → (being_filled st.filling s && eqb (next_of st.filling) (size_of st)) ≡ true
  finish_has s e = grind (arith, nat_tests)

  turn_finish : (s : ℕ) (r : Answer B) → Made G most st (Finish s) r st' → KeptTurn G most t st (Finish s) r st'
  turn_finish s NotMade h = unchanged (Finish s) NotMade h tt refl
  turn_finish s (Refused f) h = unchanged (Finish s) (Refused f) h.1 tt refl
  turn_finish s (Given y) h = absurd h
  turn_finish s Accepted h = go st.filling refl (finish_has s (ap is_ok h.0))
    where
      go : (f : Option Filling) → st.filling ≡ f → (being_filled f s && eqb (next_of f) (size_of st)) ≡ true → KeptTurn G most t st (Finish s) Accepted st'
      go None e b = absurd (both_ways false refl b)
      go (Some f) e b =
          let u = f.station in
          let k = f.next in
          let p = and_parts (eqb s u) (eqb k (size_of st)) b in
          let su : u ≡ s = sym (eqb-true s u p.0) in
          let kn : k ≡ size_of st = eqb-true k (size_of st) p.1 in
          let at : st.filling ≡ filling_at s (size_of st) = e ∙ ap₂ filling_at su kn in
          let M' : Matches G t (state st.store (filling_at s (size_of st))) = subst (λ f. Matches G t (state st.store f)) at M in
          let gone : ended s t.filling ≡ None = ap (ended s) (M.filling ∙ at) ∙ ap (λ c. cond c None (filling_at s (size_of st))) (eq-eqb s s refl) in
          record {
            promised = tt;
            size = ap (λ m. m.size) h.1;
            matched = subst (λ f. Matches G (with_filling (restored t s) f) st') (sym gone)
                (subst (Matches G (restored t s)) (sym (ap₂ state h.1 h.2)) (keep_finish G t st.store s M'));
          }
  turn_finish s Untouched h = absurd h

  turn_abandon : (s : ℕ) (sort : Sort) (r : Answer B) → Made G most st (Abandon s sort) r st' → KeptTurn G most t st (Abandon s sort) r st'
  turn_abandon s sort NotMade h = unchanged (Abandon s sort) NotMade h tt refl
  turn_abandon s sort (Refused f) h = absurd h
  turn_abandon s sort (Given y) h = absurd h
  turn_abandon s sort Accepted h = go st.filling refl h.0
    where
      go : (f : Option Filling) → st.filling ≡ f → being_filled f s ≡ true → KeptTurn G most t st (Abandon s sort) Accepted st'
      go None e b = absurd (both_ways false refl b)
      go (Some f) e b =
          let u = f.station in
          let k = f.next in
          let su : u ≡ s = sym (eqb-true s u b) in
          let at : st.filling ≡ filling_at s k = e ∙ ap (λ x. filling_at x k) su in
          let M' : Matches G t (state st.store (filling_at s k)) = subst (λ f. Matches G t (state st.store f)) at M in
          let gone : ended s t.filling ≡ None = ap (ended s) (M.filling ∙ at) ∙ ap (λ c. cond c None (filling_at s k)) (eq-eqb s s refl) in
          record {
            promised = tt;
            size = (h.1 M.sound).size;
            matched = subst (λ f. Matches G (with_filling t f) st') (sym gone)
                (subst (λ f. Matches G (with_filling t None) (state st'.store f)) (sym h.2) (keep_abandon G t st.store st'.store s k M' (h.1 M.sound)));
          }
  turn_abandon s sort Untouched h =
      unchanged (Abandon s sort) Untouched h.1 tt (ap (with_filling t) (ap (ended s) M.filling ∙ stays st.filling h.0 ∙ sym M.filling))
    where
      stays : (f : Option Filling) → being_filled f s ≡ false → ended s f ≡ f
      stays None e = refl
      stays (Some f) e = ap (λ c. cond c None (Some f)) e

  -- any call
  pub turn : (c : Call B) (r : Answer B) → Made G most st c r st' → KeptTurn G most t st c r st'
  turn (Write a b x area) r h = turn_write a b x area r h
  turn (Read a b area) r h = turn_read a b area r h
  turn (Lose s) r h = turn_lose s r h
  turn (Fit s) r h = turn_fit s r h
  turn (Fill s area) r h = turn_fill s area r h
  turn (Finish s) r h = turn_finish s r h
  turn (Abandon s sort) r h = turn_abandon s sort r h
