use Rattle.std.proofs.Common.{◌≡◌, sym, ap, ◌∙◌, map, length, if◌then◌else◌, arith}
use Rattle.std.specs.Prelude.{Some, None}
use Rattle.std.proofs.lemmas.List.{length-map}
use Rattle.kr_ast.specs.Arena.{Arena, name_in, root, tree_in, tree_of}
use Rattle.kr_ast.specs.Tree as trees
use Rattle.kr_classes_table.specs.Table.{headings_of, class_named}
use Rattle.kr_classes_names.specs.Shown.{heading_shown}
use Rattle.kr_ast.specs.Files.{file_at}
use Rattle.kr_classes_names.proofs.ClassNumbers.{qualified, outer_kept, is_self, is_other, some_below}
use Rattle.kr_classes_names.proofs.class_names.Heads.class_named.Goals as goal

pub index-requires : goal.index-requires
index-requires c =
    let files = c.args.trees.now in
    let h = c.requires.heads in
    let below = some_below (headings_of (map root files)) c.name-in-QualifiedType.result.now c.in_ok-class-in-QualifiedType.class (c.in_ok-class-in-QualifiedType.ensures files h) in
    let same = length-map c.args.self.now.headings.items (heading_shown files) in
    let all = ap length h.shown in
    omega (arith, below, same, all)

pub returns-in-None : goal.returns-in-None
returns-in-None c =
    let files = c.args.trees.now in
    let hs = headings_of (map root files) in
    let h = c.requires.heads in
    let t = c.tree_of-tree.result.now in
    let n = c.name-in-QualifiedType.result.now in
    let o = c.name-in-QualifiedType-2.result.now in
    let p = c.entry.result.place in
    let class = c.in_ok-class-in-QualifiedType.class in
    let is : tree_in (file_at files c.args.file) c.args.node ≡ trees.QualifiedType p o n =
    sym (ap (λ (a : Arena). tree_in a c.args.node) c.tree_of-tree.ensures) ∙ c.entry.ensures.tree ∙ ap (tree_of t.text (tree_in t) p) c.in-QualifiedType.is
    ∙ ap (λ x. trees.QualifiedType p x (name_in t.text c.in-QualifiedType.name)) (sym c.name-in-QualifiedType-2.ensures) ∙ ap (λ x. trees.QualifiedType p o x) (sym c.name-in-QualifiedType.ensures) in
    let named = c.in_ok-class-in-QualifiedType.ensures files h in
    let outer = outer_kept files hs c.args.self.now.headings.items c.index.result.now class h.shown (some_below hs n class named) c.index.ensures in
    sym (ap (class_named hs) is ∙ qualified hs p o n class c.in_ok-outer_class-in-QualifiedType.outer_class None named (c.in_ok-outer_class-in-QualifiedType.ensures files h) (outer ∙ c.in-None.is))

pub returns-then-found-outer_class : goal.returns-then-found-outer_class
returns-then-found-outer_class c =
    let files = c.args.trees.now in
    let hs = headings_of (map root files) in
    let h = c.requires.heads in
    let t = c.tree_of-tree.result.now in
    let n = c.name-in-QualifiedType.result.now in
    let o = c.name-in-QualifiedType-2.result.now in
    let p = c.entry.result.place in
    let class = c.in_ok-class-in-QualifiedType.class in
    let other = c.in_ok-outer_class-in-QualifiedType.outer_class in
    let is : tree_in (file_at files c.args.file) c.args.node ≡ trees.QualifiedType p o n =
    sym (ap (λ (a : Arena). tree_in a c.args.node) c.tree_of-tree.ensures) ∙ c.entry.ensures.tree ∙ ap (tree_of t.text (tree_in t) p) c.in-QualifiedType.is
    ∙ ap (λ x. trees.QualifiedType p x (name_in t.text c.in-QualifiedType.name)) (sym c.name-in-QualifiedType-2.ensures) ∙ ap (λ x. trees.QualifiedType p o x) (sym c.name-in-QualifiedType.ensures) in
    let named = c.in_ok-class-in-QualifiedType.ensures files h in
    let outer = outer_kept files hs c.args.self.now.headings.items c.index.result.now class h.shown (some_below hs n class named) c.index.ensures in
    sym (ap (class_named hs) is ∙ qualified hs p o n class other (Some c.in-Some.found) named (c.in_ok-outer_class-in-QualifiedType.ensures files h) (outer ∙ c.in-Some.is)
    ∙ ap (λ b. if b then Some class else None) (is_self c.in-Some.found other c.if-found-outer_class.true))

pub returns-else-found-outer_class : goal.returns-else-found-outer_class
returns-else-found-outer_class c =
    let files = c.args.trees.now in
    let hs = headings_of (map root files) in
    let h = c.requires.heads in
    let t = c.tree_of-tree.result.now in
    let n = c.name-in-QualifiedType.result.now in
    let o = c.name-in-QualifiedType-2.result.now in
    let p = c.entry.result.place in
    let class = c.in_ok-class-in-QualifiedType.class in
    let other = c.in_ok-outer_class-in-QualifiedType.outer_class in
    let is : tree_in (file_at files c.args.file) c.args.node ≡ trees.QualifiedType p o n =
    sym (ap (λ (a : Arena). tree_in a c.args.node) c.tree_of-tree.ensures) ∙ c.entry.ensures.tree ∙ ap (tree_of t.text (tree_in t) p) c.in-QualifiedType.is
    ∙ ap (λ x. trees.QualifiedType p x (name_in t.text c.in-QualifiedType.name)) (sym c.name-in-QualifiedType-2.ensures) ∙ ap (λ x. trees.QualifiedType p o x) (sym c.name-in-QualifiedType.ensures) in
    let named = c.in_ok-class-in-QualifiedType.ensures files h in
    let outer = outer_kept files hs c.args.self.now.headings.items c.index.result.now class h.shown (some_below hs n class named) c.index.ensures in
    sym (ap (class_named hs) is ∙ qualified hs p o n class other (Some c.in-Some.found) named (c.in_ok-outer_class-in-QualifiedType.ensures files h) (outer ∙ c.in-Some.is)
    ∙ ap (λ b. if b then Some class else None) (is_other c.in-Some.found other c.if-found-outer_class.false))
