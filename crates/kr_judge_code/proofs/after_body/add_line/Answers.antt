use Rattle.std.proofs.Common.{sym, subst, [], ◌∷◌}
use Rattle.kr_ast.specs.Tree.{Tree}
use Rattle.kr_ast.specs.Arena.{tree_in}
use Rattle.kr_code_lowering.specs.Origins.{numbering_of}
use Rattle.kr_code_lowering.specs.Sites.{arena_at}
use Rattle.kr_judge_code.specs.Olds.{AreAdded}
use Rattle.kr_judge_code.proofs.Added.{other_line}
use Rattle.kr_judge_code.proofs.after_body.add_line.Goals as goal

pub returns-in_default : goal.returns-in_default
returns-in_default c = λ s final runs.
    let p = c.args.program.now in
    let line = c.args.line in
    let e = c.entry-entry.result in
    let old = c.args.contract.now in
    subst (λ (t : Tree). AreAdded (numbering_of p final) s (t ∷ []) old old) (sym c.entry-entry.ensures.tree)
    (other_line (numbering_of p final) s (arena_at p line).text (tree_in (arena_at p line)) e.place e.node c.in_default.not-Ensures c.in_default.not-Signals old)
