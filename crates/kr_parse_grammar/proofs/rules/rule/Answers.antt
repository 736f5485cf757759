use Rattle.kr_parse_grammar.proofs.rules.rule.Goals as goal

pub returns-in-AfterLocalName : goal.returns-in-AfterLocalName
returns-in-AfterLocalName c = rw c.in-AfterLocalName.is (c.after_local_name.ensures c.args.next c.args.tag)

pub returns-in-ObjectCreation : goal.returns-in-ObjectCreation
returns-in-ObjectCreation c = rw c.in-ObjectCreation.is (c.object_creation.ensures c.args.next c.args.tag)

pub returns-in-ArrayLength : goal.returns-in-ArrayLength
returns-in-ArrayLength c = rw c.in-ArrayLength.is (c.array_length.ensures c.args.next c.args.tag)

pub returns-in-Expression : goal.returns-in-Expression
returns-in-Expression c = rw c.in-Expression.is (c.expression.ensures c.args.next c.args.tag)

pub returns-in-Conditional : goal.returns-in-Conditional
returns-in-Conditional c = rw c.in-Conditional.is (c.conditional.ensures c.args.next c.args.tag)

pub returns-in-EnclosedPrimary : goal.returns-in-EnclosedPrimary
returns-in-EnclosedPrimary c = rw c.in-EnclosedPrimary.is (c.enclosed_primary.ensures c.args.next c.args.tag)

pub returns-in-Closing : goal.returns-in-Closing
returns-in-Closing c = rw c.in-Closing.is (c.closing.ensures c.args.next c.args.tag)

pub returns-in-ChainPrimary : goal.returns-in-ChainPrimary
returns-in-ChainPrimary c = rw c.in-ChainPrimary.is (c.chain_primary.ensures c.args.next c.args.tag)

pub returns-in-AfterChain : goal.returns-in-AfterChain
returns-in-AfterChain c = rw c.in-AfterChain.is (c.after_chain.ensures c.args.next)

pub returns-in-AfterTested : goal.returns-in-AfterTested
returns-in-AfterTested c = rw c.in-AfterTested.is (c.after_tested.ensures c.args.next)

pub returns-in-ContractedMethod : goal.returns-in-ContractedMethod
returns-in-ContractedMethod c = rw c.in-ContractedMethod.is (c.contracted_method.ensures c.args.next c.args.tag)
