use Rattle.std.proofs.Common.{refl, ap, ◌∙◌, ◌+◌, [], ◌∷◌, length, length-append, arith}
use Rattle.kr_ast.specs.Arena.{tree_in}
use Rattle.kr_code_lowering.specs.Sites.{arena_at}
use Rattle.kr_code_lowering.proofs.Begun.{coded_more, coded_still, site_code, site_number, site_within}
use Rattle.kr_code_lowering.proofs.Gathered.{nodes_push}
use Rattle.kr_code_lowering.proofs.nodes.add_node.Goals as goal

pub returns-then-not-has_code-clause-before : goal.returns-then-not-has_code-clause-before
returns-then-not-has_code-clause-before c =
    let p = c.args.program.now in
    let s = c.args.site in
    let e = c.entry-entry.result in
    let none = site_code p s e c.entry-entry.ensures c.has_code.result (c.has_code.ensures (arena_at p s).text (tree_in (arena_at p s)) e.place) ∙ c.if-not-has_code.true in
    coded_still p (s.first + s.node) (length c.args.nodes.now.items) (site_within p s c.requires.site) none c.requires.before

pub returns-clause-before : goal.returns-clause-before
returns-clause-before c =
    let p = c.args.program.now in
    let s = c.args.site in
    let e = c.entry-entry.result in
    let old = c.args.nodes.now.items in
    let some = site_code p s e c.entry-entry.ensures c.has_code.result (c.has_code.ensures (arena_at p s).text (tree_in (arena_at p s)) e.place) ∙ c.if-not-has_code.false in
    let more = coded_more p (s.first + s.node) (length old) (site_within p s c.requires.site) some c.requires.before in
    omega (arith, more, ap length c.in_ok-push.ensures.items, length-append old (c.in_ok-made.made ∷ []))

pub returns-clause-nodes : goal.returns-clause-nodes
returns-clause-nodes c =
    let p = c.args.program.now in
    let s = c.args.site in
    let e = c.entry-entry.result in
    let old = c.args.nodes.now.items in
    let made = c.in_ok-made.ensures in
    let some = site_code p s e c.entry-entry.ensures c.has_code.result (c.has_code.ensures (arena_at p s).text (tree_in (arena_at p s)) e.place) ∙ c.if-not-has_code.false in
    let number = site_number p s c.requires.site some (length old) c.requires.before in
    nodes_push p c.args.arrays.now c.args.names.now c.node_at.new.names c.args.links.now c.node_at.new.links old c.push.new.self.items c.in_ok-made.made (length old) made.names made.links c.requires.nodes refl (rw number at made.resolves) c.in_ok-push.ensures.items
