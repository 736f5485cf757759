use Rattle.std.proofs.Common.{arith, sym, ap, refl}
use Rattle.std.specs.Prelude.{slice_index_or}
use Rattle.std.proofs.lemmas.Result.{on_ok_weaker}
use Rattle.kr_ast.specs.Arena.{tree_in}
use Rattle.kr_types_meaning.specs.Handing.{handed}
use Rattle.kr_types_scopes.specs.Scoped.{nowhere}
use Rattle.kr_types_scopes.specs.Settings.{setting, scope_in}
use Rattle.kr_types_scopes.specs.declared.within.Within.{Within}
use Rattle.kr_types_scopes.proofs.Chains.{step_same}
use Rattle.kr_types_scopes.proofs.Handed.{parent_there, is_handed}
use Rattle.kr_types_scopes.proofs.scopes.add_scope.Goals as goal

pub stays-requires : goal.stays-requires
stays-requires c = parent_there c.args.tree.now c.requires.arena c.args.at c.entry-entry.result c.entry-entry.ensures.here

pub at-requires : goal.at-requires
at-requires c = omega (arith, parent_there c.args.tree.now c.requires.arena c.args.at c.entry-entry.result c.entry-entry.ensures.here, c.requires.long)

pub returns-then-stays-clause-placed : goal.returns-then-stays-clause-placed
returns-then-stays-clause-placed c =
    let tree = c.args.tree.now in
    let old = c.args.bindings.now.items in
    let ws = c.args.within.now.items in
    let x = c.entry-entry.result in
    let up = slice_index_or ws x.parent nowhere in
    record {
      made = up;
      items = c.copy.ensures;
      handed = is_handed tree old old ws c.args.at up up x c.entry-entry.ensures.here refl
          (step_same tree old up (λ g. handed (scope_in g old up) (tree_in g.tree x.parent) x.position) c.requires.chain (c.requires.tops x.parent)
          (λ t v. sym (c.stays.ensures (setting t v tree) old up refl (ap (λ (w : Within). w.role) (sym c.at.ensures)) c.if-stays.true)));
    }

pub hand_on-requires-clause-at : goal.hand_on-requires-clause-at
hand_on-requires-clause-at c = parent_there c.args.tree.now c.requires.arena c.args.at c.entry-entry.result c.entry-entry.ensures.here

pub hand_on-requires-clause-top : goal.hand_on-requires-clause-top
hand_on-requires-clause-top c = rw c.at-here.ensures (c.requires.tops c.entry-entry.result.parent)

pub returns-clause-placed : goal.returns-clause-placed
returns-clause-placed c =
    let x = c.entry-entry.result in
    on_ok_weaker c.put.result
    (λ e. record {
      made = c.hand_on.new.here;
      items = e;
      handed = is_handed c.args.tree.now c.args.bindings.now.items c.hand_on.new.bindings.items c.args.within.now.items c.args.at c.hand_on.new.here c.at-here.result x c.entry-entry.ensures.here (sym c.at-here.ensures) c.in_ok-hand_on.ensures.made;
    }) c.put.ensures
