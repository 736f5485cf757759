use Rattle.std.proofs.Common.{[], arith}
use Rattle.kr_ast.specs.Arena.{tree_in}
use Rattle.kr_classes_table.specs.Table.{methods_in}
use Rattle.kr_ast.specs.Files.{file_at}
use Rattle.kr_classes_members.specs.Shown.{IsMethod, method_shown, headings_in}
use Rattle.kr_base.proofs.Added.{found_shown, found_stands}
use Rattle.kr_classes_members.proofs.methods.own_methods.Goals as goal

pub loop-member-preserved : goal.loop-member-preserved
loop-member-preserved c =
    let files = c.args.trees.now in
    let kept = c.loop-member.methods.items in
    let found = c.method_in.result in
    record {
      stands = found_stands (IsMethod files) kept _ found c.in_ok-add_found.ensures c.loop-member.invariant.stands c.method_in.ensures.stands;
      shown = found_shown (method_shown files) (λ n. methods_in (headings_in files) c.args.class (tree_in (file_at files c.args.file) n)) [] kept _ found _ c.loop-member.member-index 0 (omega arith) c.in_ok-add_found.ensures
          c.loop-member.invariant.shown c.method_in.ensures.shown;
    }
