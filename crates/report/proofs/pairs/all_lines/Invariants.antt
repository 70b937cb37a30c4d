use Rattle.image.specs.Images.{image_meaning}
use Rattle.std.proofs.Common.{string_bytes}
use Rattle.report.specs.Pairs.{Joined, StationLines}
use Rattle.report.proofs.pairs.all_lines.Given as goal

abbrev pub invariant-loop-a : goal.invariant-loop-a
invariant-loop-a l = Joined (StationLines (image_meaning l.image.bytes.now)) l.a (string_bytes l.text)
