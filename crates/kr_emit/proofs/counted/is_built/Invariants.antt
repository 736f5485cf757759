use Rattle.std.proofs.Common.{◌≡◌, List, drop}
use Rattle.kr_ast.specs.Arena.{Arena}
use Rattle.kr_classes_members.specs.Kept.{AreMembers}
use Rattle.kr_classes_members.specs.Shown.{table_in}
use Rattle.kr_emit_meaning.specs.Buildable.{is_built}
use Rattle.kr_emit.proofs.counted.is_built.Given as goal

abbrev pub invariant-loop-domain : goal.invariant-loop-domain
invariant-loop-domain l = (files : List Arena) → AreMembers files l.members → is_built (table_in files) l.class l.layout.domains ≡ is_built (table_in files) l.class (drop l.domain l.layout.domains)
