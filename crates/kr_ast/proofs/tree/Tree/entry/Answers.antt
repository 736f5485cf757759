use Rattle.std.proofs.Common.{◌≡◌, ◌+◌, ◌<◌, length, subst}
use Rattle.kr_ast.specs.Arena.{Arena, AreNamesIn, ArePartsFrom, IsPartOfParent, names, parts, tree_at, tree_of}
use Rattle.kr_ast.proofs.Trees.{tree_stands}
use Rattle.kr_ast.proofs.tree.Tree.entry.Goals as goal

pub returns-clause-tree : goal.returns-clause-tree
returns-clause-tree c =
    let entry = c.at.result in
    let P : Arena → Type 0 = λ a. tree_at a.text a.entries c.args.at ≡ tree_of a.text (tree_at a.text a.entries) entry.place entry.node in
    subst P c.self.view_is (tree_stands c.self.inside.text.items c.self.inside.entries.items c.self.invariant.0.forest c.args.at entry c.at.ensures)

pub returns-clause-parts : goal.returns-clause-parts
returns-clause-parts c =
    let entry = c.at.result in
    let P : Arena → Type 0 = λ a. ArePartsFrom a.entries c.args.at 0 (parts entry.node) in
    subst P c.self.view_is (c.self.invariant.0.forest.stands c.args.at entry c.at.ensures)

pub returns-clause-names : goal.returns-clause-names
returns-clause-names c =
    let entry = c.at.result in
    let P : Arena → Type 0 = λ a. AreNamesIn a.text (names entry.node) in
    subst P c.self.view_is (c.self.invariant.0.forest.named c.args.at entry c.at.ensures)

pub returns-clause-held : goal.returns-clause-held
returns-clause-held c =
    let entry = c.at.result in
    let here = c.at.ensures in
    let P : Arena → Type 0 = λ a. c.args.at + 1 < length a.entries → IsPartOfParent a.entries c.args.at entry in
    subst P c.self.view_is (λ below. c.self.invariant.0.forest.held c.args.at entry here (c.self.invariant.0.parted c.args.at entry here below))
