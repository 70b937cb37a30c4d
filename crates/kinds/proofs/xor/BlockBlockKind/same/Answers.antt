use Rattle.std.proofs.Common.{ap}
use Rattle.std.proofs.lemmas.Slice.Eq.{slice_eq-Decides}
use Rattle.std.proofs.lemmas.Bool.Decides.{Decides-eqb}
use Rattle.kinds.specs.Bytes.{same_block}
use Rattle.kinds.proofs.xor.BlockBlockKind.same.Goals as goal

pub returns : goal.returns
returns c =
    let x = c.args.self in
    let y = c.args.other in
    let bytes = slice_eq-Decides Decides-eqb x.bytes y.bytes c.eq.result c.eq.ensures in
    (λ e. same_block x y (bytes.0 e), λ e. bytes.1 (ap (λ b. b.bytes) e))
