use Rattle.std.proofs.Common.{sym, subst, ℕ}
use Rattle.kr_classes_names.specs.Types.{IsTypeNumber}
use Rattle.kr_classes_names.specs.Numbers.{named_type}
use Rattle.kr_types_judging.proofs.members.field_type.Goals as goal

pub returns : goal.returns
returns c =
    let f = c.args.field in
    subst (λ (n : ℕ). IsTypeNumber c.args.classes.now.types.now n (named_type c.args.classes.now.trees.now f.file f.declared)) (sym c.number.ensures) (c.requires f.file f.declared)
