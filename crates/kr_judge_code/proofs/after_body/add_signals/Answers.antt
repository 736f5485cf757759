use Rattle.std.proofs.Common.{◌≡◌, refl, sym, ap, ◌∙◌, subst, ◌++◌, ◌+◌, Bool}
use Rattle.kr_ast.specs.declared.node.Node.TheVariants as nodes
use Rattle.kr_laws_types.specs.Derivation.{IsContractLine, IsExpression, IsSignalled}
use Rattle.kr_mean.specs.Verdicts.{names_thrown}
use Rattle.kr_code_lowering.specs.declared.site.Site.{Site}
use Rattle.kr_code_lowering.specs.Origins.{node_tree}
use Rattle.kr_code_lowering.specs.Sites.{IsSite, tree_at}
use Rattle.kr_code_lowering.proofs.Naming.{parts_are}
use Rattle.kr_code_lowering.proofs.Parts.{tree_is}
use Rattle.kr_judge_code.specs.Olds.{olds_below, shown}
use Rattle.kr_judge_code.proofs.Added.{part_site, signals_added}
use Rattle.kr_judge_code.proofs.after_body.add_signals.Goals as goal

pub names_thrown-is_named-requires-clause-site : goal.names_thrown-is_named-requires-clause-site
names_thrown-is_named-requires-clause-site c =
    let p = c.args.program.now in
    let ps = parts_are p c.args.line c.args.entry (nodes.Signals c.args.declared c.args.condition) c.requires.here c.requires.node in
    subst (λ (s : Site). IsSite p s) (sym c.at.ensures) (part_site p c.args.line c.args.entry c.requires.here 0 c.args.declared ps.0)

pub add_olds-requires-clause-site : goal.add_olds-requires-clause-site
add_olds-requires-clause-site c =
    let p = c.args.program.now in
    let ps = parts_are p c.args.line c.args.entry (nodes.Signals c.args.declared c.args.condition) c.requires.here c.requires.node in
    subst (λ (s : Site). IsSite p s) (sym c.at-2.ensures) (part_site p c.args.line c.args.entry c.requires.here 1 c.args.condition ps.1.0)

pub add_olds-requires-clause-shape : goal.add_olds-requires-clause-shape
add_olds-requires-clause-shape c =
    let p = c.args.program.now in
    let t = tree_is p c.args.line c.args.entry (nodes.Signals c.args.declared c.args.condition) c.requires.here c.requires.node in
    let both : IsSignalled (node_tree p c.args.line.file c.args.declared) × IsExpression (node_tree p c.args.line.file c.args.condition) = subst IsContractLine t c.requires.shape in
    subst (λ (s : Site). IsExpression (tree_at p s)) (sym c.at-2.ensures) both.1

pub caught_type-requires-clause-declared : goal.caught_type-requires-clause-declared
caught_type-requires-clause-declared c =
    let p = c.args.program.now in
    let ps = parts_are p c.args.line c.args.entry (nodes.Signals c.args.declared c.args.condition) c.requires.here c.requires.node in
    (part_site p c.args.line c.args.entry c.requires.here 0 c.args.declared ps.0).node

pub returns : goal.returns
returns c = λ s final runs.
    let p = c.args.program.now in
    let old = c.args.contract.now in
    let line = c.args.line in
    let named : c.names_thrown-is_named.result ≡ names_thrown (node_tree p line.file c.args.declared) = rw c.at.ensures at c.names_thrown-is_named.ensures in
    let olds = subst (λ (u : Site). shown p final c.add_olds.new.olds.items ≡ shown p final old.olds.items ++ olds_below c.names_thrown-is_named.result p u.file u.node) c.at-2.ensures (c.in_ok-add_olds.ensures final) in
    let olds' = olds ∙ ap (λ (b : Bool). shown p final old.olds.items ++ olds_below b p line.file c.args.condition) named in
    signals_added p c.requires.program line c.args.entry c.requires.here s final runs old (record old { olds = c.add_olds.new.olds; signals = c.push.new.self }) refl c.args.declared c.args.condition c.caught_type.result c.requires.node c.caught_type.ensures refl olds'
    (rw (c.code_number.ensures, named) at c.in_ok-push.ensures.items)
