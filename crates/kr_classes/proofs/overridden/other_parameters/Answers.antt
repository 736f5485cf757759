use Rattle.std.proofs.Common.{◌<◌, ap, ◌∙◌, [], length, arith}
use Rattle.std.specs.Prelude.{flat_map}
use Rattle.kr_classes_table.specs.Rules.{least, overrides, repeated}
use Rattle.kr_classes_members.proofs.Upwards.{kept_count}
use Rattle.kr_classes.specs.declared.overriding.Shared.TheVariants.{Parameters}
use Rattle.kr_classes.specs.Faults.{class_in, method_places}
use Rattle.kr_classes_members.specs.Shown.{table_in}
use Rattle.kr_classes.specs.Overriding.{is_shared}
use Rattle.kr_classes.proofs.Each.{methods_there, of_both}
use Rattle.kr_classes.proofs.overridden.other_parameters.Goals as goal

pub returns : goal.returns
returns c =
    let files = c.args.trees.now in
    let t = table_in files in
    let class = c.args.class in
    let d = class_in t class in
    let l : class < length t.classes = omega (arith, c.requires.class, kept_count files c.args.members.now c.requires.members) in
    let own = methods_there t class l in
    of_both 5 (repeated 5 [] (method_places d.methods)) (flat_map (overrides t class 5 (is_shared Parameters t)) d.methods) c.repeated_method-repeated.result c.in_ok-overriding.overriding c.earlier.result
    (c.repeated_method-repeated.ensures ∙ ap (λ ms. least (repeated 5 [] (method_places ms))) own)
    (c.in_ok-overriding.ensures ∙ ap (λ ms. least (flat_map (overrides t class 5 (is_shared Parameters t)) ms)) own)
    c.earlier.ensures.fault
