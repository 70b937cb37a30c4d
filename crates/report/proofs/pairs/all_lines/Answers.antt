use Rattle.std.proofs.Common.{◌++◌, string_bytes, ap, ◌∙◌}
use Rattle.image.specs.Images.{image_meaning}
use Rattle.report.specs.Pairs.{StationLines}
use Rattle.report.proofs.Joins.{joined_more}
use Rattle.report.proofs.pairs.all_lines.Goals as goal

pub loop-a-preserved : goal.loop-a-preserved
loop-a-preserved c =
    joined_more (StationLines (image_meaning c.args.image.now.bytes.now)) c.loop-a.a
    (string_bytes c.loop-a.text) (string_bytes c.in_ok-lines.lines) c.loop-a.invariant c.in_ok-lines.ensures
    (c.in_ok-push_str.ensures.bytes ∙ ap (λ xs. string_bytes c.loop-a.text ++ xs) c.as_str.ensures.value)
