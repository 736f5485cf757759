use Rattle.std.proofs.Common.{◌≡◌, ◌++◌, length, map, take}
use Rattle.std.specs.List.{range_with_len}
use Rattle.kr_code.specs.declared.code.Node.TheVariants as nodes
use Rattle.kr_code_bodies.proofs.fields.add_initialisers.Given as goal

abbrev pub invariant-loop-initialiser : goal.invariant-loop-initialiser
invariant-loop-initialiser l = record {
  items : l.nodes.items ≡ l.initial.nodes.items ++ map nodes.Initialiser (take l.initialiser-index l.initialisers);
  links : l.links ≡ l.initial.links ++ range_with_len (length l.initial.nodes.items) l.initialiser-index;
}
