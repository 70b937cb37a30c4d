use Rattle.std.proofs.Common.{◌≡◌, ℕ, ◌≤◌, true, false, eqb, ltb, List, length, Err, sym, ap, ◌∙◌}
use Rattle.std.proofs.lemmas.Result.{err_from_is_err_and}
use Rattle.std.proofs.lemmas.Bool.{le-ltb, eq-eqb}
use Rattle.code.specs.Sizes.{among, sizes}
use Rattle.faults.specs.declared.faults.Fault.TheVariants.{NotASize}
use Rattle.code.proofs.Primes.{unlisted}
use Rattle.image.specs.Images.{image_check, image_version, image_size}
use Rattle.image.proofs.layout.check_image.Goals as goal

-- ten bytes of version 1 whose size is none
no_size : (bs : List ℕ) (n : ℕ) → n ≡ image_size bs → 10 ≤ length bs → image_version bs ≡ 1 → among n sizes ≡ false → Err (NotASize n) ≡ image_check bs
no_size bs n s l v e =
    let t : ltb (length bs) 10 ≡ false = le-ltb (length bs) 10 l in
    let u : eqb (image_version bs) 1 ≡ true = eq-eqb (image_version bs) 1 v in
    rw (t, u, ← s, e)

pub returns-in_err-size : goal.returns-in_err-size
returns-in_err-size c =
    let p = err_from_is_err_and c.from_residual.result c.from_residual.ensures.1 in
    let q = c.in_err-size.ensures in
    let h = c.in-Some.ensures in
    p.1 ∙ ap Err (p.2 ∙ q.0) ∙ no_size c.args.bytes.now _ h.number h.ten (sym h.version ∙ c.if-header-ne1.false) (unlisted _ q.1)
