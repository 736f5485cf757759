use Rattle.std.proofs.Common.{◌≡◌, ap, sym, ◌∙◌, subst}
use Rattle.kr_ast.specs.Arena.{Arena, tree_in, tree_of}
use Rattle.kr_ast.specs.Tree.{Tree}
use Rattle.kr_types_meaning.specs.Handing.{handed}
use Rattle.kr_types_scopes.specs.Settings.{scope_in}
use Rattle.kr_types_scopes.proofs.Plain.{plain_of}
use Rattle.kr_types_scopes.proofs.stay.stays.Goals as goal

pub returns-in_default : goal.returns-in_default
returns-in_default c = λ g bs w t role h.
    let i = c.args.node in
    let p = c.entry-above.result.place in
    let n = c.entry-above.result.node in
    let at = subst (λ (a : Arena). tree_in a i ≡ tree_of a.text (tree_in a) p n) (sym t) c.entry-above.ensures.tree in
    let plain = plain_of n c.in_default.not-Cons c.in_default.not-Declarator c.in_default.not-For c.in_default.not-Method c.in_default.not-Signature c.in_default.not-Constructor c.in_default.not-Catch c.in_default.not-Signals in
    ap (λ (u : Tree). handed (scope_in g bs w) u c.args.position) (ap (λ (a : Arena). tree_in a i) (sym t) ∙ at) ∙ c.stays_plainly.ensures h g bs w p i at plain role
