-- What each refusal says on a fault slip: its number, the layer in which it began, and its place.
use Rattle.std.specs.Prelude.{ℕ, Bool, ◌&&◌, List, ◌∷◌, ◌++◌, decimal, ◌==◌}
use Rattle.std.specs.Cmp.{IsPartialEquivalence, partial_equiv_from_equiv, nat_eq_equiv, on_per, and_per}
use Rattle.faults.specs.declared.faults.Fault.{Fault}
use Rattle.faults.specs.declared.faults.Fault.TheVariants.{NotASize, OutAtOpen, AreaTooShort, NoSuchStation, CheckPair, AlreadyAbsent, AlreadyOut, NotOut, AlreadyIn, FillingUnderWay, TooManyAbsent, TicketRefused, StationOut, AbsentAtAudit, WrongLength, WrongVersion, StrayMarks, CutShort, UnknownLetter, WrongRecordLength, SessionTooLong}
use Rattle.faults.specs.declared.faults.Layer.{Layer}
use Rattle.faults.specs.declared.faults.Layer.TheVariants.{Record, Book, Store}

pub record Slip : Type 0 where
  pub number : ℕ
  pub layer : Layer
  pub place : ℕ

abbrev pub says : ℕ → Layer → ℕ → Slip
says k l p = record { number = k; layer = l; place = p }

abbrev pub slip : Fault → Slip
slip (NotASize n) = says 1 Book n
slip (OutAtOpen s) = says 2 Book s
slip (AreaTooShort len) = says 3 Book len
slip (NoSuchStation s) = says 4 Store s
slip (CheckPair s) = says 5 Book s
slip (AlreadyAbsent s) = says 6 Book s
slip (AlreadyOut s) = says 6 Store s
slip (NotOut s) = says 7 Book s
slip (AlreadyIn s) = says 7 Store s
slip (FillingUnderWay s) = says 8 Book s
slip (TooManyAbsent count) = says 9 Book count
slip (TicketRefused s) = says 10 Book s
slip (StationOut s) = says 11 Store s
slip (AbsentAtAudit s) = says 12 Book s
slip (WrongLength len) = says 13 Record len
slip (WrongVersion at) = says 14 Record at
slip StrayMarks = says 15 Record 6
slip (CutShort at) = says 16 Record at
slip (UnknownLetter at) = says 17 Record at
slip (WrongRecordLength at) = says 18 Record at
slip SessionTooLong = says 19 Record 16384

abbrev pub number_of : Fault → ℕ
number_of f = (slip f).number

abbrev pub layer_of : Fault → Layer
layer_of f = (slip f).layer

abbrev pub place_of : Fault → ℕ
place_of f = (slip f).place

-- the letters r, b and s
abbrev pub letter_of : Layer → ℕ
letter_of Record = 114
letter_of Book = 98
letter_of Store = 115

-- NUMBER LAYER PLACE, with single spaces
abbrev pub written : Fault → List ℕ
written f = decimal (number_of f) ++ (32 ∷ letter_of (layer_of f) ∷ 32 ∷ decimal (place_of f))

-- they have the same number, layer and place
abbrev pub same_fault : Fault → Fault → Bool
same_fault f g = number_of f == number_of g && letter_of (layer_of f) == letter_of (layer_of g) && place_of f == place_of g

-- so it holds both ways round, and along a chain
pub same_fault_laws : IsPartialEquivalence same_fault
same_fault_laws =
    let same_number = partial_equiv_from_equiv nat_eq_equiv in
    and_per (and_per (on_per number_of same_number) (on_per (λ f. letter_of (layer_of f)) same_number)) (on_per place_of same_number)
