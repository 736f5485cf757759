use Rattle.std.proofs.Common.{ℕ, List, refl, sym, ◌∙◌, subst}
use Rattle.kr_ast.specs.Arena.{AreNamesIn}
use Rattle.kr_parse_reduction.specs.Shown.{names_of}
use Rattle.kr_parse_trees.proofs.Growing.{leaf_fits}
use Rattle.kr_parse_trees.proofs.Methods.{method_second, method_third, method_made}
use Rattle.kr_parse_trees.proofs.builder.Builder.method.Goals as goal

pub put-requires-clause-fits : goal.put-requires-clause-fits
put-requires-clause-fits c = rw c.tree.ensures (leaf_fits c.args.self.now.forest.text c.args.self.now.values _ _ _ refl refl)

pub put_below-requires-clause-fits : goal.put_below-requires-clause-fits
put_below-requires-clause-fits c =
    let o = c.in_ok-put.ensures in
    let k = rw (c.tree.ensures, c.place-place.ensures) at o.kept.1 in
    rw (c.tree-2.ensures, c.place-place.ensures, c.node.ensures, c.node-2.ensures, c.node-3.ensures)
    (method_second c.put.new.self.forest.text c.args.self.now.values c.put.new.self.values o.kept.0 c.requires.values k)

pub put-requires-2-clause-fits : goal.put-requires-2-clause-fits
put-requires-2-clause-fits c =
    let o = c.in_ok-put.ensures in
    let u = c.in_ok-put_below.ensures in
    let k = rw (c.tree.ensures, c.place-place.ensures) at o.kept.1 in
    let l = rw (c.tree-2.ensures, c.place-place.ensures) at u.kept.1 in
    let n = subst (λ (text : List ℕ). AreNamesIn text (names_of c.args.self.now.values)) (sym (u.text ∙ o.text)) c.requires.built.named in
    rw (c.tree-3.ensures, c.place-place.ensures, c.modifiers-is_static.ensures, c.name-name.ensures, c.node-4.ensures, c.node-5.ensures)
    (method_third c.put_below.new.self.forest.text c.args.self.now.values c.put.new.self.values c.put_below.new.self.values o.kept.0 u.kept.0 c.requires.values k l n)

pub returns-clause-shown : goal.returns-clause-shown
returns-clause-shown c =
    let o = c.in_ok-put.ensures in
    let u = c.in_ok-put_below.ensures in
    let k = rw (c.tree.ensures, c.place-place.ensures) at o.kept.1 in
    let l = rw (c.tree-2.ensures, c.place-place.ensures) at u.kept.1 in
    let g = rw (c.tree.ensures, c.place-place.ensures) at o.shown in
    let h = rw (c.tree-2.ensures, c.place-place.ensures, c.node.ensures, c.node-2.ensures, c.node-3.ensures) at u.shown in
    let m = rw (c.tree-3.ensures, c.place-place.ensures, c.modifiers-is_static.ensures, c.name-name.ensures, c.node-4.ensures, c.node-5.ensures) at c.in_ok-put-2.ensures.shown in
    m ∙ method_made c.args.self.now.forest c.put.new.self.forest c.put_below.new.self.forest c.args.self.now.values c.put.new.self.values c.put_below.new.self.values o.kept.0 u.kept.0 c.requires.values k l (u.text ∙ o.text) g h
