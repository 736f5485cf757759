use Rattle.kr_code.specs.Doing.{Doing, value_done}
use Rattle.kr_run_known.proofs.Going.{as_kind, handed, same_known}
use Rattle.kr_run_known.proofs.levels.value_in.Goals as goal

pub returns-in-Local : goal.returns-in-Local
returns-in-Local g c = as_kind c.args.code.now c.args.world.now c.args.fuel c.local_of.result _ _ c.in-Local.is c.local_of.ensures

pub returns-in-OwnField : goal.returns-in-OwnField
returns-in-OwnField g c = handed c.args.code.now c.args.world.now c.args.fuel c.own_field.result c.again.result _ _ c.in-OwnField.is c.again.ensures c.own_field.ensures

pub returns-in-FieldOf : goal.returns-in-FieldOf
returns-in-FieldOf g c = as_kind c.args.code.now c.args.world.now c.args.fuel c.near_field.result _ _ c.in-FieldOf.is c.near_field.ensures

pub returns-in-Binary : goal.returns-in-Binary
returns-in-Binary g c = handed c.args.code.now c.args.world.now c.args.fuel c.binary_of.result c.again-in-Binary.result _ _ c.in-Binary.is c.again-in-Binary.ensures c.binary_of.ensures

pub returns-in-And : goal.returns-in-And
returns-in-And g c = handed c.args.code.now c.args.world.now c.args.fuel c.and_of.result c.again-in-And.result _ _ c.in-And.is c.again-in-And.ensures c.and_of.ensures

pub returns-in_default : goal.returns-in_default
returns-in_default g c = same_known c.args.code.now c.args.world.now c.args.fuel c.parts_in.result c.again-in_default.result (λ (d : Doing). value_done c.args.code.now d c.args.expression.now) c.again-in_default.ensures c.parts_in.ensures
