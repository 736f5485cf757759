use Rattle.std.proofs.Common.{ap, ◌∙◌, List, map}
use Rattle.kr_ast.specs.Arena.{tree_in}
use Rattle.kr_classes_table.specs.Types.{JavaType}
use Rattle.kr_classes_table.specs.Table.{parameters_in}
use Rattle.kr_ast.specs.Files.{file_at}
use Rattle.kr_classes_members.specs.Shown.{headings_in}
use Rattle.kr_classes_names.specs.Types.{type_at}
use Rattle.kr_classes.specs.Overriding.{are_same}
use Rattle.kr_classes.proofs.SameTypes.{by_types}
use Rattle.kr_classes.proofs.overriding.same_parameters.Goals as goal

pub returns : goal.returns
returns c =
    let files = c.args.trees.now in
    let ts = c.args.types.now in
    let hs = headings_in files in
    let ps = parameters_in hs (tree_in (file_at files c.args.method.file) c.args.method.parameters) in
    let qs = parameters_in hs (tree_in (file_at files c.args.above.file) c.args.above.parameters) in
    let own = ap (map (type_at ts)) c.deref.ensures.value ∙ c.in_ok-own.ensures.shown ts c.requires.numbers in
    let other = ap (map (type_at ts)) c.deref-2.ensures.value ∙ c.in_ok-other.ensures.shown ts c.requires.numbers in
    c.are_equal.ensures
    ∙ ap (λ (xs : List JavaType). are_same xs (map (type_at ts) c.deref-2.result.now)) own
    ∙ ap (λ (xs : List JavaType). are_same (map (λ p. p.type) ps) xs) other
    ∙ by_types ps qs
