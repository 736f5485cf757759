use Rattle.std.proofs.Common.{[], arith}
use Rattle.kr_ast.specs.Arena.{tree_in}
use Rattle.kr_classes_table.specs.Table.{parameter_in}
use Rattle.kr_ast.specs.Files.{file_at}
use Rattle.kr_classes_members.specs.Shown.{headings_in}
use Rattle.kr_base.proofs.Added.{found_shown, found_stands}
use Rattle.kr_space_rules.specs.Parameters.{IsParameter, parameter_shown}
use Rattle.kr_space_rules.proofs.parameters.parameters_at.Goals as goal

pub loop-node-preserved : goal.loop-node-preserved
loop-node-preserved c =
    let files = c.args.trees.now in
    let kept = c.loop-node.found.items in
    let found = c.parameter_at.result in
    record {
      stand = found_stands (IsParameter files) kept _ found c.in_ok-add_found.ensures c.loop-node.invariant.stand c.parameter_at.ensures.stands;
      shown = found_shown (parameter_shown files) (λ n. parameter_in (headings_in files) (tree_in (file_at files c.args.file) n)) [] kept _ found _ c.loop-node.node-index 0 (omega arith) c.in_ok-add_found.ensures
          c.loop-node.invariant.shown c.parameter_at.ensures.shown;
    }
