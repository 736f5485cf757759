use Rattle.std.proofs.Common.{◌≡◌, map, drop}
use Rattle.kr_classes_members.specs.Shown.{field_shown}
use Rattle.kr_mean.specs.Program.{position_from}
use Rattle.kr_code_bodies.proofs.field_lists.position_among.Given as goal

abbrev pub invariant-loop-number : goal.invariant-loop-number
invariant-loop-number l = position_from l.number (map (field_shown l.trees) (drop l.number l.fields)) l.name ≡ position_from 0 (map (field_shown l.trees) l.fields) l.name
