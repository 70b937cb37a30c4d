use Rattle.std.proofs.Common.{◌≡◌, true, false, ◌||◌, refl, arith}
use Rattle.std.proofs.lemmas.Bool.Decides.{nat_tests}
use Rattle.image.specs.Images.{image_meaning}
use Rattle.report.proofs.Says.{said_rebuilt, said_stored}
use Rattle.report.proofs.pairs.content_of.Goals as goal
use Rattle.report.proofs.pairs.content_of.Goals.{then-is_out, else-is_out}

pub returns-then-is_out-2 : goal.returns-then-is_out-2
returns-then-is_out-2 c =
    let m = image_meaning c.args.image.now.bytes.now in
    let o : (m.out c.args.a || m.out c.args.b) ≡ true = elim c.if-is_out.branch [
      | then-is_out w ↦ grind (arith, nat_tests, c.is_out.ensures, w.if-is_out.true)
      | else-is_out w ↦ grind (arith, nat_tests, c.is_out.ensures, w.is_out-else-is_out.ensures, w.value-is, c.if-is_out-2.true)
    ] in
    said_rebuilt m c.args.a c.args.b c.requires.first c.requires.second c.requires.long c.recover.new.into c.in_default.ensures.answer o (c.in_default.ensures.block refl) refl

pub returns-else-is_out-2 : goal.returns-else-is_out-2
returns-else-is_out-2 c =
    let m = image_meaning c.args.image.now.bytes.now in
    let o : (m.out c.args.a || m.out c.args.b) ≡ false = elim c.if-is_out.branch [
      | then-is_out w ↦ grind (arith, nat_tests, c.is_out.ensures, w.if-is_out.true, w.value-is, c.if-is_out-2.false)
      | else-is_out w ↦ grind (arith, nat_tests, c.is_out.ensures, w.if-is_out.false, w.is_out-else-is_out.ensures, w.value-is, c.if-is_out-2.false)
    ] in
    said_stored m c.args.a c.args.b c.requires.first c.requires.second c.requires.long c.recover.new.into o (c.in_default.ensures.block refl) refl
