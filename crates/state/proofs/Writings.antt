-- A write: the old block was recovered, and the difference is spread.
use Rattle.std.proofs.Common.{◌≡◌, ℕ, Bool, true, false, cond, ◌||◌, refl, ap, ◌∙◌}
use Rattle.kinds.specs.Group.{Group}
use Rattle.recovery.specs.Recovery.{RecoveredFrom}
use Rattle.code.specs.Rules.{of}
use Rattle.store.specs.Meaning.{Meaning}
use Rattle.state.specs.Additions.{Spread}
use Rattle.state.specs.Calls.{Wrote}
use Rattle.state.specs.States.{State, state, seen}

-- a block that the difference was added to or not
changed : {B : Type 0} (G : Group B) (out bit : Bool) (x d : B) → cond out x (G.sum x (cond bit d G.none)) ≡ cond (out || cond bit false true) x (G.sum x d)
changed G true bit x d = refl
changed G false true x d = refl
changed G false false x d = G.unit x

pub wrote : {B : Type 0} (G : Group B) (st : State B) (a b : ℕ) (x old d : B) (m' : Meaning B) → RecoveredFrom G (seen st) a b old → d ≡ G.sum x old
    → Spread G st.store a b d m' → Wrote G st a b x (state m' st.filling)
wrote G st a b x old d m' h e s =
    record {
      old = old;
      recovered = h;
      word = s.word;
      touched = s.touched;
      size = s.added.size;
      out = s.added.out;
      blocks = λ p q lp lq. s.added.blocks p q lp lq
          ∙ changed G (st.store.out p || st.store.out q) (of s.word p q) (of st.store.block p q) d
          ∙ ap (λ d. cond ((st.store.out p || st.store.out q) || cond (of s.word p q) false true) (of st.store.block p q) (G.sum (of st.store.block p q) d)) e;
      filling = refl;
    }
