use Rattle.std.proofs.Common.{◌≡◌, ◌∙◌, sym, ap, subst}
use Rattle.std.specs.Prelude.{slice_get}
use Rattle.kr_ast.specs.declared.node.Node.{Node}
use Rattle.kr_types.specs.Kinds.{IsOfNamed}
use Rattle.kr_types.specs.Sites.{scope_of, tree_there}
use Rattle.kr_types.proofs.Passing.{some_entry}
use Rattle.kr_types.proofs.notes.add_node.Goals as goal

pub add_note-requires-clause-note : goal.add_note-requires-clause-note
add_note-requires-clause-note c = c.link_note-note.ensures c.args.site.now (scope_of c.args.site.now c.spot-spot.result.at) c.spot-spot.result.place

pub add_named-requires-clause-kind : goal.add_named-requires-clause-kind
add_named-requires-clause-kind c =
    let s = c.args.site.now in
    let e = some_entry (tree_there s).entries c.args.at c.requires.within in
    let same : c.spot-spot.result.node ≡ c.spot.result.node =
    sym (c.spot-spot.ensures.entry e.0 (ap (slice_get (tree_there s).entries) (sym c.spot-spot.ensures.count) ∙ e.1)).1 ∙ (c.spot.ensures.entry e.0 (ap (slice_get (tree_there s).entries) (sym c.spot.ensures.count) ∙ e.1)).1 in
    subst (λ (n : Node). IsOfNamed c.in-Named.kind n) same c.in-Named.ensures
