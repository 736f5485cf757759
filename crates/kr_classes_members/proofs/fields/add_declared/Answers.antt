use Rattle.std.proofs.Common.{◌≡◌, ap, subst, ◌∙◌, ◌++◌, map, arith}
use Rattle.kr_ast.specs.Arena.{Arena, tree_in}
use Rattle.kr_classes_table.specs.Table.{declared_in, items}
use Rattle.kr_ast.specs.Files.{file_at}
use Rattle.kr_base.proofs.Added.{flat_all}
use Rattle.kr_classes_members.specs.Shown.{IsField, field_shown, headings_in}
use Rattle.kr_base.proofs.Added.{found_shown, found_stands}
use Rattle.kr_classes_members.proofs.fields.add_declared.Goals as goal

pub loop-declarator-preserved : goal.loop-declarator-preserved
loop-declarator-preserved c =
    let files = c.args.trees.now in
    let line = c.args.line in
    let a = file_at files line.file in
    let kept = c.loop-declarator.fields.items in
    let found = c.declared_field.result in
    record {
      stands = found_stands (IsField files) kept _ found c.in_ok-add_found.ensures c.loop-declarator.invariant.stands c.declared_field.ensures.stands;
      shown = found_shown (field_shown files) (λ n. declared_in (headings_in files) line.class line.is_static line.is_final (tree_in a line.declared) (tree_in a n)) (map (field_shown files) c.args.fields.now.items) kept _ found _
          c.loop-declarator.declarator-index 0 (omega arith) c.in_ok-add_found.ensures c.loop-declarator.invariant.shown c.declared_field.ensures.shown;
    }

pub returns-clause-shown : goal.returns-clause-shown
returns-clause-shown c =
    let files = c.args.trees.now in
    let line = c.args.line in
    let a = file_at files line.file in
    let xs = c.deref-declarator-items.result.now in
    let kept = c.in_ok-declarators.declarators.items in
    let before = map (field_shown files) c.args.fields.now.items in
    let listed : map (tree_in a) kept ≡ items (tree_in a line.declarators) = subst (λ (x : Arena). map (tree_in x) kept ≡ items (tree_in x line.declarators)) c.tree_of.ensures c.in_ok-declarators.ensures.shown in
    c.loop-declarator.invariant.shown
    ∙ ap (λ fs. before ++ fs)
    (flat_all (declared_in (headings_in files) line.class line.is_static line.is_final (tree_in a line.declared)) (tree_in a) xs c.loop-declarator.declarator-index _ (omega arith) (ap (map (tree_in a)) c.deref-declarator-items.ensures.value ∙ listed))
