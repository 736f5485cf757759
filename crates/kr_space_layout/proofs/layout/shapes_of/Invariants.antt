use Rattle.std.proofs.Common.{◌≡◌, ◌<◌, ℕ, get_or, length}
use Rattle.kr_space_layout.specs.declared.entry.Entry.{Entry}
use Rattle.kr_space_layout.specs.declared.shape.Shape.{Shape}
use Rattle.kr_space_layout.specs.Shapes.{IsShape, values_with}
use Rattle.kr_space_layout.proofs.layout.shapes_of.Given as goal

abbrev pub invariant-loop-entry : goal.invariant-loop-entry
invariant-loop-entry l = record {
  long : length l.shapes.items ≡ l.entry-index;
  each : (k : ℕ) (e : Entry) (s : Shape) → k < l.entry-index → IsShape (values_with l.this l.pool (get_or l.entries k e).domain) (get_or l.shapes.items k s);
}
