-- Each of these parts comes first, and then its frame.
use Rattle.kr_run_moves.proofs.expressions.enter_expression.Goals as goal

pub returns-in-FieldOf : goal.returns-in-FieldOf
returns-in-FieldOf c = rw c.in-FieldOf.is c.enter_field.ensures

pub returns-in-Element : goal.returns-in-Element
returns-in-Element c = rw c.in-Element.is c.enter_element.ensures

pub returns-in-CallOn : goal.returns-in-CallOn
returns-in-CallOn c = rw c.in-CallOn.is (c.first.ensures c.args.code.now c.args.world.now)

pub returns-in-StaticCallOn : goal.returns-in-StaticCallOn
returns-in-StaticCallOn c = rw c.in-StaticCallOn.is (c.first-in-StaticCallOn.ensures c.args.code.now c.args.world.now)

pub returns-in-CallCollection : goal.returns-in-CallCollection
returns-in-CallCollection c = rw c.in-CallCollection.is c.enter_collection.ensures

pub returns-in-NewArray : goal.returns-in-NewArray
returns-in-NewArray c = rw c.in-NewArray.is (c.first-in-NewArray.ensures c.args.code.now c.args.world.now)

pub returns-in-Unary : goal.returns-in-Unary
returns-in-Unary c = rw c.in-Unary.is (c.first-in-Unary.ensures c.args.code.now c.args.world.now)

pub returns-in-And : goal.returns-in-And
returns-in-And c = rw c.in-And.is (c.first-in-And.ensures c.args.code.now c.args.world.now)

pub returns-in-Or : goal.returns-in-Or
returns-in-Or c = rw c.in-Or.is (c.first-in-Or.ensures c.args.code.now c.args.world.now)

pub returns-in-Binary : goal.returns-in-Binary
returns-in-Binary c = rw c.in-Binary.is c.enter_binary.ensures

pub returns-in-InstanceOf : goal.returns-in-InstanceOf
returns-in-InstanceOf c = rw c.in-InstanceOf.is (c.first-in-InstanceOf.ensures c.args.code.now c.args.world.now)

pub returns-in-Conditional : goal.returns-in-Conditional
returns-in-Conditional c = rw c.in-Conditional.is (c.first-in-Conditional.ensures c.args.code.now c.args.world.now)

pub returns-in-Cast : goal.returns-in-Cast
returns-in-Cast c = rw c.in-Cast.is (c.first-in-Cast.ensures c.args.code.now c.args.world.now)
