use Rattle.std.proofs.Common.{◌≡◌, ◌+◌, ◌-◌, ◌*◌, ◌≤◌, List, length}
use Rattle.kr_classes_table.specs.Table.{Heading}
use Rattle.kr_space_meaning.specs.Names.{type_within}
use Rattle.kr_space_names.specs.Texts.{wrapped}
use Rattle.kr_space_names.proofs.written.type_number.Given as goal

abbrev pub invariant-loop-wrapping : goal.invariant-loop-wrapping
invariant-loop-wrapping l = record {
  is : (hs : List Heading) → type_within (length l.text) hs l.text ≡ wrapped l.wrappings.items (type_within (length l.text - length l.wrappings.items) hs l.rest);
  room : length l.rest + 2 * length l.wrappings.items ≤ length l.text;
}

abbrev pub decreases-loop-wrapping : goal.decreases-loop-wrapping
decreases-loop-wrapping l = length l.rest
