use Rattle.std.proofs.Common.{◌≡◌, ◌≤◌, List, Option, length}
use Rattle.kr_classes_table.specs.Table.{Table, Field}
use Rattle.kr_classes_table.specs.Constants.{Known}
use Rattle.kr_types_scopes.specs.Lookups.{meant_there}
use Rattle.kr_types_scopes.proofs.lookup.find_local.Given as goal

-- the bindings below decide
abbrev pub invariant-loop-at : goal.invariant-loop-at
invariant-loop-at l = record {
  within : l.at ≤ length l.bindings.items;
  same : (t : Table) (v : List Known) (f : Option Field) → meant_there t v l.tree l.bindings.items l.at f l.name ≡ meant_there t v l.tree l.bindings.items l.fn.top f l.name;
}

abbrev pub decreases-loop-at : goal.decreases-loop-at
decreases-loop-at l = l.at
