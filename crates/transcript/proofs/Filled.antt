-- The filling of a station from its beginning to its end: no fill is refused, and what the book matched it still matches.
use Rattle.std.proofs.Common.{◌≡◌, ℕ, ◌+◌, ◌<◌, ◌≤◌, Bool, true, false, cond, ◌||◌, ltb, Ok, sym, refl, ap, ◌∙◌, subst, ap₂, arith}
use Rattle.std.proofs.lemmas.Bool.{lt-ltb, ltb-true, ltb-false}
use Rattle.kinds.specs.Group.{Group}
use Rattle.code.specs.Rebuilt.{absentees}
use Rattle.code.proofs.Absent.{absentees_cong}
use Rattle.state.specs.Calls.{too_many, Filled, FilledNext}
use Rattle.state.specs.Fillings.{next_of, stepped}
use Rattle.state.proofs.Fillings.{framed, without}
use Rattle.book.specs.Tickets.{ticket_after}
use Rattle.state.specs.States.{State, state, size_of, absent, absent_count, being_filled, filling_at, Sound, SoundAt}
use Rattle.book.specs.declared.tickets.TicketOf.{TicketOf}
use Rattle.book.specs.declared.tickets.Ticket.TheVariants.{Open, Full}
use Rattle.serve.specs.Matches.{Matches}
use Rattle.serve.specs.Tally.{with_filling}
use Rattle.serve.proofs.Keeps.{keep_fill}
use Rattle.transcript.specs.Replaces.{CanFillUp, FilledTo, FilledUp}

-- which ticket came out
pub full_at : (n next t : ℕ) (f : TicketOf 1) → Full f ≡ ticket_after n next t → (n ≤ next) × (f.station ≡ t)
full_at n next t f e = go (ltb next n) refl e
  where
    go : (b : Bool) → ltb next n ≡ b → Full f ≡ cond b (Open (record { station = t })) (Full (record { station = t })) → (n ≤ next) × (f.station ≡ t)
    go true h q = absurd cc
    go false h q = (ltb-false next n h, cc)

pub open_at : (n next t : ℕ) (o : TicketOf 0) → Open o ≡ ticket_after n next t → (next < n) × (o.station ≡ t)
open_at n next t o e = go (ltb next n) refl e
  where
    go : (b : Bool) → ltb next n ≡ b → Open o ≡ cond b (Open (record { station = t })) (Full (record { station = t })) → (next < n) × (o.station ≡ t)
    go true h q = (ltb-true next n h, cc)
    go false h q = absurd cc

module _ {B : Type 0} (G : Group B) (st : State B) (s len : ℕ) (can : CanFillUp st s len) where
  pub begun : FilledTo G st s 0 st
  begun = record {
    size = refl;
    out = λ k l. refl;
    others = λ p q lp lq np nq. refl;
    filling = can.filling;
    within = omega arith;
    keeps = λ t M. subst (λ f. Matches G (with_filling t f) st) (M.filling ∙ can.filling) M;
  }

  -- s is one of the stations, and in
  sound_start : SoundAt (size_of st) st.store.out (filling_at s 0)
  sound_start = subst (SoundAt (size_of st) st.store.out) can.filling can.sound

  module _ (k : ℕ) (st₁ : State B) (F : FilledTo G st s k st₁) where
    pub sound_at : Sound st₁
    sound_at =
        subst (SoundAt (size_of st₁) st₁.store.out) (sym F.filling)
        (omega (arith, sound_start.0, F.size), F.out s sound_start.0 ∙ sound_start.1, omega (arith, F.within, F.size))

    same_absent : (p : ℕ) → p < size_of st → absent st₁ p ≡ absent st p
    same_absent p l = ap₂ (λ u f. u || being_filled f p) (F.out p l) F.filling ∙ ap (λ f. st.store.out p || being_filled f p) (sym can.filling)

    same_count : absent_count st₁ ≡ absent_count st
    same_count = ap (absentees (absent st₁)) F.size ∙ absentees_cong (size_of st) same_absent

    few_at : too_many st₁ ≡ false
    few_at = ap (λ c. ltb 2 c) same_count ∙ can.few

    pub one_more : (st₂ : State B) → k < size_of st → (Sound st₁ → FilledNext G st₁ st₁.filling st₂.store) → st₂.filling ≡ stepped (size_of st₁) st₁.filling → FilledTo G st s (k + 1) st₂
    one_more st₂ l put e =
        let l₁ : k < size_of st₁ = omega (arith, F.size) in
        let next : FilledNext G (state st₁.store (filling_at s k)) (filling_at s k) st₂.store = subst (λ f. FilledNext G (state st₁.store f) f st₂.store) F.filling (put sound_at) in
        let put : Filled G (state st₁.store (filling_at s k)) s k st₂.store = next.0 l₁ in
        let frame = framed G (state st₁.store (filling_at s k)) s k st₂.store put in
        let step : stepped (size_of st₁) (filling_at s k) ≡ filling_at s (k + 1) = ap (λ c. cond c (filling_at s (k + 1)) (filling_at s k)) (lt-ltb k (size_of st₁) l₁) in
        let at : st₂.filling ≡ filling_at s (k + 1) = e ∙ ap (stepped (size_of st₁)) F.filling ∙ step in
        record {
          size = frame.size ∙ F.size;
          out = λ j lj. frame.out j (omega (arith, F.size)) ∙ F.out j lj;
          others = λ p q lp lq np nq. without G (state st₁.store (filling_at s k)) s k st₂.store put p q (omega (arith, F.size)) (omega (arith, F.size)) np nq ∙ F.others p q lp lq np nq;
          filling = at;
          within = omega arith;
          keeps = λ t M.
              let M₁ : Matches G (with_filling t (filling_at s k)) (state st₁.store (filling_at s k)) = subst (λ f. Matches G (with_filling t (filling_at s k)) (state st₁.store f)) F.filling (F.keeps t M) in
              let few : too_many (state st₁.store (filling_at s k)) ≡ false = subst (λ f. too_many (state st₁.store f) ≡ false) F.filling few_at in
              subst (λ f. Matches G (with_filling t (filling_at s (k + 1))) (state st₂.store f)) (sym at)
              (subst (λ f. Matches G (with_filling t f) (state st₂.store f)) step (keep_fill G (with_filling t (filling_at s k)) st₁.store st₂.store s k M₁ few next));
        }

    -- what a fill leaves where its ticket is still open, and where it is full
    module _ (st₂ : State B) (l : k < size_of st) (put : Sound st₁ → FilledNext G st₁ st₁.filling st₂.store) (step : st₂.filling ≡ stepped (size_of st₁) st₁.filling) (t : ℕ) where
      pub still_open : (o : TicketOf 0) → Open o ≡ ticket_after (size_of st₁) (next_of st₂.filling) t → FilledTo G st s (k + 1) st₂ × (0 < k + 1 → k + 1 < size_of st)
      still_open o e =
          let more = one_more st₂ l put step in
          let p = open_at (size_of st₁) (next_of st₂.filling) t o e in
          (more, λ _. omega (arith, p.0, F.size, ap next_of more.filling))

      pub now_full : (f : TicketOf 1) → Full f ≡ ticket_after (size_of st₁) (next_of st₂.filling) t → t ≡ s → FilledUp G st s (Ok f) st₂
      now_full f e h =
          let more = one_more st₂ l put step in
          let p = full_at (size_of st₁) (next_of st₂.filling) t f e in
          let end : k + 1 ≡ size_of st = omega (arith, p.0, F.size, more.within, ap next_of more.filling) in
          (p.1 ∙ h, subst (λ j. FilledTo G st s j st₂) end more)
