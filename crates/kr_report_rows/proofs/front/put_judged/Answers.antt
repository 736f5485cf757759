use Rattle.std.proofs.Common.{◌≡◌, ◌∙◌, List, ℕ, map, subst, sym, ap}
use Rattle.kr_ast.specs.Arena.{Arena, root}
use Rattle.kr_base.specs.Told.{Writes}
use Rattle.kr_classes_names.specs.Shown.{AreHeads}
use Rattle.kr_classes_table.specs.Table.{headings_of, table_of}
use Rattle.kr_space_problem.specs.declared.problem.Problem.{Problem}
use Rattle.kr_report.specs.Texts.{verdict_text}
use Rattle.kr_report_rows.proofs.front.put_judged.Goals as goal

pub put_verdict-requires : goal.put_verdict-requires
put_verdict-requires g c =
    let problem = c.problem-problem.result.now in
    subst (λ (fs : List Arena). AreHeads fs problem.program.table.heads) (sym c.as_slice-trees.ensures.value)
    (subst (λ (p : Problem). AreHeads p.program.trees.items p.program.table.heads) (sym c.problem-problem.ensures) c.laws.ensures.accepted.posed.program.table.table.heads)

pub returns : goal.returns
unfolding table_of
returns g c =
    let P : List Arena → Type 0 = λ fs. Writes g.K.Sink.taken g.K.Sink.faults c.args.out.now c.put_verdict.new.out (verdict_text (headings_of (map root fs)) c.args.verdict) c.put_verdict.result in
    let files : c.as_slice-trees.result.now ≡ c.args.prepared.now.problem.program.trees.items = c.as_slice-trees.ensures.value ∙ ap (λ (p : Problem). p.program.trees.items) c.problem-problem.ensures in
    subst P files c.put_verdict.ensures
