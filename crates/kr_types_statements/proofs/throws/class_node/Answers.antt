use Rattle.std.proofs.Common.{◌≡◌, refl, sym, ap, ◌∙◌, ℕ, List}
use Rattle.kr_base.specs.declared.place.Place.{Place}
use Rattle.kr_ast.specs.declared.node.Name.{Name}
use Rattle.kr_ast.specs.declared.node.Node.{Node}
use Rattle.kr_ast.specs.declared.node.Node.TheVariants as nodes
use Rattle.kr_ast.specs.Tree.{Tree}
use Rattle.kr_ast.specs.Arena.{tree_in, tree_of}
use Rattle.kr_types_meaning.specs.Scopes.{Scope, caught_type, written}
use Rattle.kr_types_statements.proofs.throws.class_node.Goals as goal

-- what isn't a parameter names the class itself
named : (s : Scope) (text : List ℕ) (look : ℕ → Tree) (p : Place) (n : Node) → ((a : ℕ) (x : Name) → n ≡ nodes.Parameter a x → ⊥) → written s (tree_of text look p n) ≡ caught_type s (tree_of text look p n)
named s text look p (nodes.Parameter a x) no_parameter = absurd (no_parameter a x refl)
named s text look p _ no_parameter = refl

pub returns-in-Parameter : goal.returns-in-Parameter
returns-in-Parameter c = λ s.
    let tree = c.args.tree.now in
    sym (ap (caught_type s) (c.entry.ensures.tree ∙ ap (λ (n : Node). tree_of tree.text (tree_in tree) c.entry.result.place n) c.in-Parameter.is))

pub returns-in_default : goal.returns-in_default
returns-in_default c = λ s.
    let tree = c.args.tree.now in
    ap (written s) c.entry.ensures.tree ∙ named s tree.text (tree_in tree) c.entry.result.place c.entry.result.node c.in_default.not-Parameter ∙ sym (ap (caught_type s) c.entry.ensures.tree)
