use Rattle.std.proofs.lemmas.Result.{IfOk-weaker}
use Rattle.kr_space_rules.specs.Classes.{table_of}
use Rattle.kr_space_rules.proofs.UnfitTypes.{unfit_some}
use Rattle.kr_space_rules.proofs.unfit.is_unfit.Goals as goal

pub returns-in-Some-clause-is : goal.returns-in-Some-clause-is
returns-in-Some-clause-is c =
    IfOk-weaker c.has_unfit.result _ _
    (λ b k. unfit_some (table_of c.args.classes.now) c.args.document.now c.args.types.now c.in-Some.number c.args.items.now b k c.args.found c.in-Some.is)
    c.has_unfit.ensures.is
