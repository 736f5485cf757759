use Rattle.std.proofs.Common.{ℕ, List, sym, ◌∙◌, subst}
use Rattle.kr_ast.specs.Arena.{AreNamesIn}
use Rattle.kr_parse_reduction.specs.Shown.{names_of}
use Rattle.kr_parse_trees.proofs.Contracted.{contracted_under, contracted_above, contracted_made}
use Rattle.kr_parse_trees.proofs.builder.Builder.contracted_method.Goals as goal

pub put_below-requires-clause-fits : goal.put_below-requires-clause-fits
put_below-requires-clause-fits c =
    rw (c.tree.ensures, c.place-place.ensures, c.node.ensures, c.node-2.ensures, c.node-3.ensures)
    (contracted_under c.args.self.now.forest.text c.args.self.now.values c.requires.values)

pub put-requires-clause-fits : goal.put-requires-clause-fits
put-requires-clause-fits c =
    let u = c.in_ok-put_below.ensures in
    let l = rw (c.tree.ensures, c.place-place.ensures) at u.kept.1 in
    let n = subst (λ (text : List ℕ). AreNamesIn text (names_of c.args.self.now.values)) (sym u.text) c.requires.built.named in
    rw (c.tree-2.ensures, c.place-place.ensures, c.modifiers-is_static.ensures, c.name-name.ensures, c.node-4.ensures, c.node-5.ensures)
    (contracted_above c.put_below.new.self.forest.text c.args.self.now.values c.put_below.new.self.values u.kept.0 c.requires.values l n)

pub returns-clause-shown : goal.returns-clause-shown
returns-clause-shown c =
    let u = c.in_ok-put_below.ensures in
    let l = rw (c.tree.ensures, c.place-place.ensures) at u.kept.1 in
    let h = rw (c.tree.ensures, c.place-place.ensures, c.node.ensures, c.node-2.ensures, c.node-3.ensures) at u.shown in
    let m = rw (c.tree-2.ensures, c.place-place.ensures, c.modifiers-is_static.ensures, c.name-name.ensures, c.node-4.ensures, c.node-5.ensures) at c.in_ok-put.ensures.shown in
    m ∙ contracted_made c.args.self.now.forest c.put_below.new.self.forest c.args.self.now.values c.put_below.new.self.values u.kept.0 c.requires.values l u.text h
