use Rattle.std.proofs.Common.{refl}
use Rattle.std.specs.Prelude.{map}
use Rattle.kr_ast.specs.Arena.{root}
use Rattle.kr_classes_table.specs.Table.{table_of}
use Rattle.kr_space_problem.specs.Posed.{posed}
use Rattle.korat_top_files.specs.Chains.{classing, from_table}
use Rattle.korat_top_files.proofs.Outcomes.{meets_next}
use Rattle.korat_top_files.proofs.find.judge_from_classes.Goals as goal

pub returns : goal.returns
returns c =
    let trees = c.args.trees.items in
    let read = rw c.as_slice.ensures.value at c.in_ok-table.ensures.read in
    record {
      judged = meets_next (classing (map root trees)) (λ table. from_table c.args.mode c.args.fin.now (map root trees)) posed (table_of (map root trees)) c.judge_from_typing.result
          (refl, read.unbroken) c.judge_from_typing.ensures.judged;
    }
