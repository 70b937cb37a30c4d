-- What a book means.
use Rattle.store.specs.Meaning.{Meaning}
use Rattle.state.specs.States.{State, state}
use Rattle.book.specs.declared.books.Book.{Book}

-- the state of a book, by what its store means
abbrev pub state_of : {S B : Type 0} → (S → Meaning B) → Book S → State B
state_of means b = state (means b.store) b.filling
