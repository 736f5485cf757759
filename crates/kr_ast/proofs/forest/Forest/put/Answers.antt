use Rattle.std.proofs.Common.{◌++◌, ◌∷◌, [], sym, ap, ◌∙◌, subst, arith}
use Rattle.kr_ast.specs.declared.node.Entry.{Entry}
use Rattle.kr_ast.specs.Arena.{Arena, trees, tree_of, tree_at, parts, names, AreNamesIn}
use Rattle.kr_ast.specs.Forest.{AreFree, AreRoots}
use Rattle.kr_ast.proofs.Adopted.{free-append}
use Rattle.kr_ast.proofs.Put.{forest_put, trees_put, roots_put, length_put}
use Rattle.kr_ast.proofs.forest.Forest.put.Goals as goal

pub adopt_parts-requires : goal.adopt_parts-requires
adopt_parts-requires c =
    let free : AreFree c.self.inside.entries.items (parts c.args.node) = subst (λ (a : Arena). AreFree a.entries (parts c.args.node)) (sym c.self.view_is) c.requires.free in
    record { free = subst (λ l. AreFree l (parts c.args.node)) (sym c.in_ok-push.ensures.pushed) (free-append _ _ (parts c.args.node) free) }

pub invariant_of-self-2 : goal.invariant_of-self-2
invariant_of-self-2 c =
    let d : Entry = record { place = c.args.place; node = c.args.node; parent = 0; position = 0 } in
    let free : AreFree c.self.inside.entries.items (parts c.args.node) = subst (λ (a : Arena). AreFree a.entries (parts c.args.node)) (sym c.self.view_is) c.requires.free in
    let named : AreNamesIn c.self.inside.text.items (names c.args.node) = subst (λ (a : Arena). AreNamesIn a.text (names c.args.node)) (sym c.self.view_is) c.requires.named in
    let long = length_put d c.self.inside.entries.items _ _ c.args.node c.args.place c.len-at.result free (omega arith) c.in_ok-push.ensures.pushed (c.adopt_parts.ensures.now d) in (
      forest_put d c.self.inside.entries.items _ _ c.args.node c.args.place c.len-at.result free (omega arith) c.in_ok-push.ensures.pushed (c.adopt_parts.ensures.now d) _ c.self.invariant.0 named,
      omega arith,
      c.self.invariant.2,
    )

pub returns-clause-trees : goal.returns-clause-trees
returns-clause-trees c =
    let d : Entry = record { place = c.args.place; node = c.args.node; parent = 0; position = 0 } in
    let free : AreFree c.self.inside.entries.items (parts c.args.node) = subst (λ (a : Arena). AreFree a.entries (parts c.args.node)) (sym c.self.view_is) c.requires.free in
    trees_put d c.self.inside.entries.items _ _ c.args.node c.args.place c.len-at.result free (omega arith) c.in_ok-push.ensures.pushed (c.adopt_parts.ensures.now d) c.self.inside.text.items
    ∙ ap (λ (a : Arena). trees a.text a.entries ++ tree_of a.text (tree_at a.text a.entries) c.args.place c.args.node ∷ []) c.self.view_is

pub returns-clause-roots : goal.returns-clause-roots
returns-clause-roots c rest r =
    let d : Entry = record { place = c.args.place; node = c.args.node; parent = 0; position = 0 } in
    let free : AreFree c.self.inside.entries.items (parts c.args.node) = subst (λ (a : Arena). AreFree a.entries (parts c.args.node)) (sym c.self.view_is) c.requires.free in
    let r' : AreRoots c.self.inside.entries.items (parts c.args.node ++ rest) = subst (λ (a : Arena). AreRoots a.entries (parts c.args.node ++ rest)) (sym c.self.view_is) r in
    roots_put d c.self.inside.entries.items _ _ c.args.node c.args.place c.len-at.result free (omega arith) c.in_ok-push.ensures.pushed (c.adopt_parts.ensures.now d) rest r'
