use Rattle.std.proofs.Common.{◌∙◌, map, arith}
use Rattle.std.specs.Prelude.{Some}
use Rattle.kr_ast.specs.Arena.{tree_in}
use Rattle.kr_classes_table.specs.Table.{heading_of}
use Rattle.kr_ast.specs.Files.{file_at}
use Rattle.kr_classes_names.specs.Shown.{heading_shown}
use Rattle.kr_base.proofs.Added.{flat_step}
use Rattle.kr_classes_names.proofs.headings.add_nested.Goals as goal

pub loop-member-preserved : goal.loop-member-preserved
loop-member-preserved c =
    let files = c.args.trees.now in
    record {
      stands = c.in_ok-add_found.ensures.stands files c.loop-member.invariant.stands c.class_heading-found.ensures.stands;
      shown = c.in_ok-add_found.ensures.shown files
          ∙ flat_step (λ n. heading_of (Some c.args.outer) (tree_in (file_at files c.args.file) n)) (map (heading_shown files) c.args.headings.now.items) (map (heading_shown files) c.loop-member.headings.items) _ _ c.loop-member.member-index 0 (omega arith)
          c.loop-member.invariant.shown c.class_heading-found.ensures.shown;
    }
