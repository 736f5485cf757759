use Rattle.std.proofs.Common.{◌≡◌, refl, sym, subst, false, ◌++◌}
use Rattle.kr_ast.specs.declared.node.Node.TheVariants as nodes
use Rattle.kr_laws_types.specs.Derivation.{IsContractLine, IsExpression}
use Rattle.kr_code_lowering.specs.declared.site.Site.{Site}
use Rattle.kr_code_lowering.specs.Sites.{IsSite, tree_at}
use Rattle.kr_code_lowering.proofs.Naming.{parts_are}
use Rattle.kr_code_lowering.proofs.Parts.{tree_is}
use Rattle.kr_judge_code.specs.Olds.{olds_below, shown}
use Rattle.kr_judge_code.proofs.Added.{part_site, postcondition_added}
use Rattle.kr_judge_code.proofs.after_body.add_postcondition.Goals as goal

pub add_olds-requires-clause-site : goal.add_olds-requires-clause-site
add_olds-requires-clause-site c =
    let p = c.args.program.now in
    let ps = parts_are p c.args.line c.args.entry (nodes.Ensures c.args.condition) c.requires.here c.requires.node in
    subst (λ (s : Site). IsSite p s) (sym c.at.ensures) (part_site p c.args.line c.args.entry c.requires.here 0 c.args.condition ps.0)

pub add_olds-requires-clause-shape : goal.add_olds-requires-clause-shape
add_olds-requires-clause-shape c =
    let p = c.args.program.now in
    let t = tree_is p c.args.line c.args.entry (nodes.Ensures c.args.condition) c.requires.here c.requires.node in
    subst (λ (s : Site). IsExpression (tree_at p s)) (sym c.at.ensures) (subst IsContractLine t c.requires.shape)

pub returns : goal.returns
returns c = λ s final runs.
    let p = c.args.program.now in
    let old = c.args.contract.now in
    let olds = subst (λ (u : Site). shown p final c.add_olds.new.olds.items ≡ shown p final old.olds.items ++ olds_below false p u.file u.node) c.at.ensures (c.in_ok-add_olds.ensures final) in
    postcondition_added p c.requires.program c.args.line c.args.entry c.requires.here s final runs old (record old { olds = c.add_olds.new.olds; postconditions = c.push.new.self }) refl c.args.condition c.requires.node refl olds
    (rw c.code_number.ensures at c.in_ok-push.ensures.items)
