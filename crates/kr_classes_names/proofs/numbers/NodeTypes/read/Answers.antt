use Rattle.std.proofs.Common.{◌≡◌, ◌∙◌, subst, ℕ, length, map, arith}
use Rattle.std.proofs.lemmas.List.{length-map}
use Rattle.kr_classes_table.specs.Types.{VoidType}
use Rattle.kr_classes_names.specs.Types.{IsTypeNumber}
use Rattle.kr_classes_names.specs.Numbers.{AreNodeTypesOf}
use Rattle.kr_classes_names.proofs.Totals.{total}
use Rattle.kr_classes_names.proofs.numbers.NodeTypes.read.Goals as goal

pub returns-clause-numbers : goal.returns-clause-numbers
returns-clause-numbers c =
    let files = c.args.trees.now in
    let l = c.loop-file.types in
    let ns = map (λ v. v.items) c.loop-file.files.items in
    let e : c.loop-file.file ≡ length files = omega arith in
    let long : length ns ≡ length files = length-map c.loop-file.files.items (λ v. v.items) ∙ c.loop-file.invariant.long ∙ e in
    total files l ns long (subst (λ (n : ℕ). AreNodeTypesOf files l n ns) e c.loop-file.invariant.numbers) (subst (λ (n : ℕ). IsTypeNumber l n VoidType) c.void-void.ensures.number c.void-void.ensures.is)
