use Rattle.std.proofs.Common.{◌∙◌, refl, sym, length, map, arith}
use Rattle.std.proofs.lemmas.List.{length-map}
use Rattle.kr_classes_names.specs.Shown.{heading_shown}
use Rattle.kr_ast.specs.Files.{tree_of_node}
use Rattle.kr_classes_names.proofs.Walks.{headings_step}
use Rattle.kr_classes_names.proofs.headings.all_headings.Goals as goal

pub loop-top-preserved : goal.loop-top-preserved
loop-top-preserved c =
    let files = c.args.trees.now in
    record {
      stands = c.in_ok-add_class.ensures.stands;
      shown = c.in_ok-add_class.ensures.shown
          ∙ headings_step (tree_of_node files) (map (heading_shown files) c.loop-top.headings.items) _ (length c.loop-top.headings.items) _ c.loop-top.top-index (record { file = 0; node = 0 }) (omega arith)
          c.loop-top.invariant.shown (sym (length-map c.loop-top.headings.items (heading_shown files))) refl;
    }
