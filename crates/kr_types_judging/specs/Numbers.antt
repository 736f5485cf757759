-- To be believed: the numbers of the typing rules.
use Rattle.std.specs.Prelude.{ℕ}
use Rattle.kr_types_judging.specs.declared.rules.TypingRule.{TypingRule}
use Rattle.kr_types_judging.specs.declared.rules.TypingRule.TheVariants.{UnknownType, UnknownName, RepeatedLocal, StaticCode, NumberTooLarge, Arithmetic, Shift, Comparison, Equality, Bitwise, Logical, Negation, Sign, Conditional, Assignment, CompoundAssignment, Step, Target, Cast, InstanceOf, FieldAccess, ElementAccess, Call, CollectionCall, Creation, ArrayLength, Condition, LocalValue, Return, Jump, NoResult, SuperCall, SuperConstructor, FieldValue, ConstantValue, StaticField, ContractValue, ContractWrite, ContractPlace, Throw, Catch, Signals}

abbrev pub rule_number : TypingRule → ℕ
rule_number UnknownType = 1
rule_number UnknownName = 3
rule_number RepeatedLocal = 4
rule_number StaticCode = 5
rule_number NumberTooLarge = 6
rule_number Arithmetic = 7
rule_number Shift = 8
rule_number Comparison = 9
rule_number Equality = 10
rule_number Bitwise = 11
rule_number Logical = 12
rule_number Negation = 13
rule_number Sign = 14
rule_number Conditional = 15
rule_number Assignment = 16
rule_number CompoundAssignment = 17
rule_number Step = 18
rule_number Target = 19
rule_number Cast = 20
rule_number InstanceOf = 21
rule_number FieldAccess = 22
rule_number ElementAccess = 23
rule_number Call = 24
rule_number CollectionCall = 25
rule_number Creation = 26
rule_number ArrayLength = 27
rule_number Condition = 28
rule_number LocalValue = 29
rule_number Return = 30
rule_number Jump = 31
rule_number NoResult = 32
rule_number SuperCall = 33
rule_number SuperConstructor = 34
rule_number FieldValue = 35
rule_number ConstantValue = 36
rule_number StaticField = 37
rule_number ContractValue = 38
rule_number ContractWrite = 39
rule_number ContractPlace = 40
rule_number Throw = 41
rule_number Catch = 42
rule_number Signals = 43
