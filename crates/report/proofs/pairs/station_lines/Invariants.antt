use Rattle.image.specs.Images.{image_meaning}
use Rattle.std.proofs.Common.{string_bytes}
use Rattle.report.specs.Pairs.{Joined, PairLine}
use Rattle.report.proofs.pairs.station_lines.Given as goal

abbrev pub invariant-loop-b : goal.invariant-loop-b
invariant-loop-b l = Joined (PairLine (image_meaning l.image.bytes.now) l.a) l.b-counter (string_bytes l.text)
