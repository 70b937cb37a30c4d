use Rattle.std.proofs.Common.{◌≡◌, string_bytes}
use Rattle.report.specs.Reports.{listed}
use Rattle.report.proofs.reports.out_stations.Given as goal

abbrev pub invariant-loop-s : goal.invariant-loop-s
invariant-loop-s g l = string_bytes l.text ≡ listed (g.S.ReadStore.means l.store).out l.s-counter
