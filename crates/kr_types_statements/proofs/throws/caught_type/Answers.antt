use Rattle.std.proofs.Common.{◌<◌, refl, ap, ◌∙◌, sym, subst, [], length}
use Rattle.kr_ast.specs.Arena.{Arena, tree_in}
use Rattle.kr_ast.specs.Files.{file_at}
use Rattle.kr_classes_members.specs.Shown.{table_in}
use Rattle.kr_types_meaning.specs.Scopes.{caught_type, written}
use Rattle.kr_types_scopes.specs.Settings.{setting}
use Rattle.kr_types_statements.proofs.throws.caught_type.Goals as goal

pub class_node-node-requires : goal.class_node-node-requires
class_node-node-requires c = subst (λ (a : Arena). c.args.declared < length a.entries) (sym c.tree_of.ensures) c.requires.declared

pub returns-clause-within : goal.returns-clause-within
returns-clause-within c = (c.type_of_node.ensures (setting (table_in c.args.classes.now.trees.now) [] (file_at c.args.classes.now.trees.now c.args.file)) refl refl).within

pub returns-clause-is : goal.returns-clause-is
returns-clause-is c = λ s e.
    let at = file_at c.args.classes.now.trees.now c.args.file in
    (c.type_of_node.ensures (setting s.table [] at) e refl).type_is
    ∙ ap (λ (a : Arena). written s (tree_in a c.class_node-node.result)) (sym c.tree_of.ensures) ∙ c.class_node-node.ensures s ∙ ap (λ (a : Arena). caught_type s (tree_in a c.args.declared)) c.tree_of.ensures
