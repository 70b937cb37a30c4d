-- What follows from what a call did, or left alone.
use Rattle.std.proofs.Common.{Ok, Err, Result}
use Rattle.faults.specs.declared.faults.Fault.{Fault}
use Rattle.store.specs.Meaning.{After}

pub after_map : {X : Type 0} (r : Result X Fault) (P P' Q Q' : Type 0) → (P → P') → (Q → Q') → After r P Q → After r P' Q'
after_map (Ok x) P P' Q Q' f g h = f h
after_map (Err e) P P' Q Q' f g h = g h

pub after_both : {X : Type 0} (r : Result X Fault) (P Q R : Type 0) → After r P Q → (P → R) → (Q → R) → R
after_both (Ok x) P Q R h f g = f h
after_both (Err e) P Q R h f g = g h
