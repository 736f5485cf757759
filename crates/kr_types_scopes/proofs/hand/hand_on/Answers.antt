use Rattle.std.proofs.Common.{ap, sym, ◌∙◌, arith}
use Rattle.kr_ast.specs.Arena.{tree_in}
use Rattle.kr_types_scopes.specs.Settings.{setting, scope_in}
use Rattle.kr_types_meaning.specs.Handing.{handed}
use Rattle.kr_types_scopes.proofs.Chains.{step_same}
use Rattle.kr_types_scopes.proofs.Plain.{plain_of}
use Rattle.kr_types_scopes.proofs.hand.hand_on.Goals as goal

pub returns-in_default : goal.returns-in_default
returns-in_default c =
    let tree = c.args.tree.now in
    let old = c.args.bindings.now.items in
    record {
      made = step_same tree old c.plainly.new.here (λ g. handed (scope_in g old c.args.here.now) (tree_in g.tree c.args.node) c.args.position) c.requires.chain (omega (arith, c.plainly.ensures.top, c.requires.top))
          (λ t v.
          let g = setting t v tree in
          c.plainly.ensures.handed t v tree old c.entry-entry.result.place c.entry-entry.ensures.tree
          (plain_of c.entry-entry.result.node c.in_default.not-Cons c.in_default.not-Declarator c.in_default.not-For c.in_default.not-Method c.in_default.not-Signature c.in_default.not-Constructor c.in_default.not-Catch c.in_default.not-Signals)
          ∙ sym (ap (λ x. handed (scope_in g old c.args.here.now) x c.args.position) c.entry-entry.ensures.tree));
      none = c.requires.none;
    }
