-- Lists, item by item.
use Rattle.std.proofs.Common.{◌≡◌, refl, sym, ap, ◌∙◌, ℕ, ◌+◌, [], ◌∷◌, subst}
use Rattle.kr_ast.specs.Tree as trees
use Rattle.kr_ast.specs.Tree.{Tree}
use Rattle.kr_ast.specs.Arena.{ArePartsFrom, parts}
use Rattle.kr_ast.specs.declared.node.Entry.{Entry}
use Rattle.kr_ast.specs.declared.node.Node.{Node}
use Rattle.kr_ast.specs.declared.node.Node.TheVariants.{Cons}
use Rattle.kr_classes_table.specs.Table.{items}
use Rattle.kr_types_meaning.specs.Scopes.{Scope, after}
use Rattle.kr_types_meaning.specs.Handing.{handed}
use Rattle.kr_types_meaning.specs.Running.{running}
use Rattle.kr_laws_types.proofs.Loops.{running_same}
use Rattle.kr_types.specs.declared.program.Program.{Program}
use Rattle.kr_types.specs.Programs.{IsProgram}
use Rattle.kr_code.specs.Resolved.{AreParts}
use Rattle.kr_code_lowering.specs.declared.site.Site.{Site}
use Rattle.kr_code_lowering.specs.Origins.{node_scope, node_tree, numbering_of}
use Rattle.kr_code_lowering.specs.Sites.{IsHere, arena_at, scope_at, tree_at, number_at}
use Rattle.kr_code_lowering.specs.Lists.{IsAhead}
use Rattle.kr_code_lowering.proofs.Parts.{part_in, part_scope, tree_is}

pub ahead : (p : Program) → IsProgram p → (s : Site) (e : Entry) → IsHere p s e → (a b : ℕ) → e.node ≡ Cons a b → IsAhead p s a b
ahead p is s e at a b it more h final =
    let n = numbering_of p final in
    let s' : Scope = scope_at p s in
    let x : Tree = node_tree p s.file a in
    let y : Tree = node_tree p s.file b in
    let t : tree_at p s ≡ trees.Cons x y = tree_is p s e (Cons a b) at it in
    let parts_are : ArePartsFrom (arena_at p s).entries s.node 0 (a ∷ b ∷ []) = subst (λ (m : Node). ArePartsFrom (arena_at p s).entries s.node 0 (parts m)) it at.parts in
    let scope : node_scope p s.file b ≡ after s' x = part_scope p is s at.site 1 b parts_are.1.0 ∙ ap (λ (u : Tree). handed s' u 1) t in
    let behind : AreParts n (after (running s') x) (items y) more = subst (λ (u : Scope). AreParts n u (items y) more) (ap running scope ∙ sym (running_same s' x).scope) (h final) in
    subst (λ (u : Tree). AreParts n (running s') (items u) ((number_at p s a) ∷ more)) (sym t) (part_in p is final s e (Cons a b) at it 0 a parts_are.0 (running s') refl, behind)
