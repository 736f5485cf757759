use Rattle.std.proofs.Common.{sym, subst, ℕ}
use Rattle.kr_classes_names.specs.Types.{IsTypeNumber}
use Rattle.kr_classes_names.specs.Numbers.{named_type}
use Rattle.kr_types_judging.proofs.calls.result_type.Goals as goal

pub returns : goal.returns
returns c =
    let m = c.args.method in
    subst (λ (n : ℕ). IsTypeNumber c.args.classes.now.types.now n (named_type c.args.classes.now.trees.now m.file m.result)) (sym c.number.ensures) (c.requires m.file m.result)
