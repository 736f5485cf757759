use Rattle.std.proofs.Common.{subst, ℕ, List, []}
use Rattle.std.specs.Prelude.{IfOk, Option}
use Rattle.kr_classes_table.specs.Types.{UnknownType}
use Rattle.kr_classes_table.specs.Table.{class_or}
use Rattle.kr_classes_names.specs.Types.{IsTypeNumber}
use Rattle.kr_classes_names.proofs.numbers.type_of_name.Goals as goal

pub returns-clause-number : goal.returns-clause-number
returns-clause-number c = λ files h.
    let name = c.args.name.now in
    let found = subst (λ (outer : List ℕ). IfOk c.class_type.result (λ n. IsTypeNumber c.class_type.new.types n (class_or c.number_of.result (UnknownType outer name)))) c.as_slice.ensures c.class_type.ensures.number in
    subst (λ (o : Option ℕ). IfOk c.class_type.result (λ n. IsTypeNumber c.class_type.new.types n (class_or o (UnknownType [] name)))) (c.number_of.ensures files h) found
