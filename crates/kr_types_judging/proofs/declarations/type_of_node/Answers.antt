use Rattle.std.proofs.Common.{sym, subst, ℕ}
use Rattle.std.specs.Prelude.{Option}
use Rattle.kr_types_scopes.specs.Settings.{type_there}
use Rattle.kr_classes_names.specs.Types.{IsTypeNumber}
use Rattle.kr_classes_names.specs.Numbers.{named_type}
use Rattle.kr_types_judging.proofs.Tables.{type_of_tree}
use Rattle.kr_types_judging.proofs.declarations.type_of_node.Goals as goal

pub returns-in-Some : goal.returns-in-Some
returns-in-Some c = λ g e t.
    subst (λ (o : Option ℕ). IsTypeNumber c.args.types.now c.number.result (type_there g o)) (sym c.in-Some.is)
    (type_of_tree c.args.trees.now c.args.types.now c.args.file c.in-Some.node c.number.result g e t
    (subst (λ (n : ℕ). IsTypeNumber c.args.types.now n (named_type c.args.trees.now c.args.file c.in-Some.node)) (sym c.number.ensures) (c.requires c.args.file c.in-Some.node)))
