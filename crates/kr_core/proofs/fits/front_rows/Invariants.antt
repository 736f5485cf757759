use Rattle.std.proofs.Common.{◌≡◌, ◌+◌, ◌-◌, ◌^◌, ◌≤◌, drop}
use Rattle.kr_base.specs.Causes.{capped}
use Rattle.kr_core.proofs.Fronts.{rows_in}
use Rattle.kr_core.proofs.fits.front_rows.Given as goal

abbrev pub invariant-loop-segment : goal.invariant-loop-segment
invariant-loop-segment l = record {
  left : capped (rows_in l.segments) ≡ capped (l.rows + rows_in (drop l.segment-index l.segments));
  fits : l.rows ≤ 2 ^ 64 - 1;
}
