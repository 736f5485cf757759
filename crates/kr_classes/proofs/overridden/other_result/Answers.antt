use Rattle.std.proofs.Common.{◌<◌, ap, ◌∙◌, length, arith}
use Rattle.std.specs.Prelude.{flat_map}
use Rattle.kr_classes_table.specs.Rules.{least, overrides}
use Rattle.kr_classes_members.proofs.Upwards.{kept_count}
use Rattle.kr_classes.specs.declared.overriding.Shared.TheVariants.{ResultType}
use Rattle.kr_classes_members.specs.Shown.{table_in}
use Rattle.kr_classes.specs.Overriding.{is_shared}
use Rattle.kr_classes.proofs.Each.{methods_there}
use Rattle.kr_classes.proofs.overridden.other_result.Goals as goal

pub returns : goal.returns
returns c =
    let t = table_in c.args.trees.now in
    let class = c.args.class in
    let l : class < length t.classes = omega (arith, c.requires.class, kept_count c.args.trees.now c.args.members.now c.requires.members) in
    c.in_ok-overriding.ensures ∙ ap (λ ms. least (flat_map (overrides t class 7 (is_shared ResultType t)) ms)) (methods_there t class l)
