use Rattle.kr_classes_names.specs.Types.{type_at}
use Rattle.kr_code_bodies.proofs.Forms.{array_numbered, not_numbered}
use Rattle.kr_code_bodies.proofs.instances.array_type.Goals as goal

pub returns-in-Array : goal.returns-in-Array
returns-in-Array c = array_numbered c.args.types.now c.args.number (type_at c.args.types.now c.in-Array.field-0) c.distinct_law.ensures c.requires c.in-Array.ensures.shown

pub returns-in_default : goal.returns-in_default
returns-in_default c = not_numbered c.args.types.now c.args.number c.form.result c.form.ensures.shown c.in_default.not-Array
