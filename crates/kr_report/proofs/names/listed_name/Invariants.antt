use Rattle.std.proofs.Common.{◌≡◌, ◌≤◌, get_or, []}
use Rattle.kr_report.specs.Names.{listed_names}
use Rattle.kr_report.proofs.names.listed_name.Given as goal

abbrev pub invariant-loop-item : goal.invariant-loop-item
invariant-loop-item l = record {
  at : l.at ≤ l.fn.list;
  same : get_or (listed_names l.tree l.at) l.left [] ≡ get_or (listed_names l.tree l.fn.list) l.fn.number [];
}

abbrev pub decreases-loop-item : goal.decreases-loop-item
decreases-loop-item l = l.at
