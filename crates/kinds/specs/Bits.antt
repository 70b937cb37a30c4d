-- The single bit as a block kind, summed by exclusive or.
use Rattle.std.specs.Prelude.{◌≡◌, Bool, true, false, if◌then◌else◌, not, refl}
use Rattle.kinds.specs.Group.{Group}

abbrev pub differ : Bool → Bool → Bool
differ a b = if a then not b else b

pub bit_assoc : (x y z : Bool) → differ (differ x y) z ≡ differ x (differ y z)
bit_assoc true true true = refl
bit_assoc true true false = refl
bit_assoc true false z = refl
bit_assoc false y z = refl

pub bit_comm : (x y : Bool) → differ x y ≡ differ y x
bit_comm true true = refl
bit_comm true false = refl
bit_comm false true = refl
bit_comm false false = refl

pub bit_unit : (x : Bool) → differ x false ≡ x
bit_unit true = refl
bit_unit false = refl

pub bit_self : (x : Bool) → differ x x ≡ false
bit_self true = refl
bit_self false = refl

abbrev pub bit_group : Group Bool
bit_group = record { none = false; sum = differ; assoc = bit_assoc; comm = bit_comm; unit = bit_unit; self = bit_self }
