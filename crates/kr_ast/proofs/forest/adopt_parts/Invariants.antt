use Rattle.std.proofs.Common.{◌≡◌, ◌-◌, length, drop}
use Rattle.kr_ast.specs.declared.node.Entry.{Entry}
use Rattle.kr_ast.specs.Arena.{parts}
use Rattle.kr_ast.specs.Forest.{adopted}
use Rattle.kr_ast.proofs.forest.adopt_parts.Given as goal

abbrev pub invariant-loop-position : goal.invariant-loop-position
invariant-loop-position l =
    ((d : Entry) → adopted d l.entries.items l.parent l.position (drop l.position (parts l.fn.node)) ≡ adopted d l.fn.entries.items l.parent 0 (parts l.fn.node))
    × (length l.entries.items ≡ length l.fn.entries.items)

abbrev pub decreases-loop-position : goal.decreases-loop-position
decreases-loop-position l = length (parts l.fn.node) - l.position
