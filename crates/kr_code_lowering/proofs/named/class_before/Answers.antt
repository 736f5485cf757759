use Rattle.std.proofs.Common.{ap, ◌∙◌}
use Rattle.kr_types_meaning.specs.Scopes.{Scope, class_before}
use Rattle.kr_types_resolving.specs.Meanings.{class_meant, object_type}
use Rattle.kr_types_resolving.proofs.Before.{before_meant, before_value}
use Rattle.kr_code_members.specs.Nodes.{table}
use Rattle.kr_code_lowering.specs.declared.site.Site.{Site}
use Rattle.kr_code_lowering.specs.Origins.{node_tree}
use Rattle.kr_code_lowering.specs.Sites.{scope_at, tree_at}
use Rattle.kr_code_lowering.proofs.named.class_before.Goals as goal

pub returns : goal.returns
returns c =
    let p = c.args.program.now in
    let s = c.args.site in
    let o = c.at.result in
    let t = node_tree p s.file c.args.object in
    c.class.ensures (table p)
    ∙ (ap class_meant c.meaning_at.ensures.shown
    ∙ (before_meant (scope_at p o) (tree_at p o) (object_type (scope_at p o) (tree_at p o))
    ∙ (ap (λ (q : Site). class_before (scope_at p q) (tree_at p q)) c.at.ensures
    ∙ (ap (λ (r : Scope). class_before r t) c.requires.handed ∙ before_value (scope_at p s) t))))
