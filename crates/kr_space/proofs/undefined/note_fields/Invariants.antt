use Rattle.std.proofs.Common.{◌≡◌, fold, map, drop}
use Rattle.std.specs.Prelude.{codes, flat_map}
use Rattle.kr_classes_members.specs.Shown.{field_shown}
use Rattle.kr_space_meaning.specs.Bounds.{field_key}
use Rattle.kr_space_meaning.specs.Faults.{no_domain}
use Rattle.kr_space_meaning.specs.Order.{lesser}
use Rattle.kr_space_rules.specs.Classes.{table_of}
use Rattle.kr_space.proofs.undefined.note_fields.Given as goal

abbrev pub invariant-loop-field : goal.invariant-loop-field
invariant-loop-field l =
    fold lesser l.initial.least (flat_map (λ f. no_domain (codes "fields.") l.domains (field_key (table_of l.classes) f)) (map (field_shown l.classes.trees.now) l.fields))
    ≡ fold lesser l.least (flat_map (λ f. no_domain (codes "fields.") l.domains (field_key (table_of l.classes) f)) (map (field_shown l.classes.trees.now) (drop l.field-index l.fields)))
