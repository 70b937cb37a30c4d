use Rattle.std.proofs.Common.{◌≡◌, Bool, true, false, ◌||◌, refl, sym}
use Rattle.store.specs.Standing.{beside}
use Rattle.audit.proofs.First.{first_none}
use Rattle.audit.proofs.audits.audit_beside.Goals as goal

-- a station that neither store nor set has out
neither : (x y : Bool) → (x || y) ≡ false → x ≡ false
neither true y e = e
neither false y e = refl

pub first_broken-requires : goal.first_broken-requires
first_broken-requires g c s l =
    let m = beside (g.S.ReadStore.means c.args.store.now) c.args.also.bits in
    neither _ _ (first_none m.out m.size (sym c.in-None.ensures) s l)
