-- The headings of the class table of files.
use Rattle.std.proofs.Common.{◌≡◌, refl, ap, ◌∙◌, sym, subst, ℕ, List, map}
use Rattle.std.specs.Prelude.{Some}
use Rattle.kr_ast.specs.Arena.{Arena, root, tree_in}
use Rattle.kr_classes_table.specs.Types.{JavaType}
use Rattle.kr_classes_table.specs.Table.{Table, headings_of, table_of, type_named}
use Rattle.kr_ast.specs.Files.{file_at}
use Rattle.kr_classes_members.specs.Shown.{table_in}
use Rattle.kr_types_scopes.specs.Settings.{Setting, type_there}
use Rattle.kr_classes_names.specs.Types.{TypeList, IsTypeNumber}
use Rattle.kr_classes_names.specs.Numbers.{named_type}

pub headings_are : (files : List Arena) → (table_in files).headings ≡ headings_of (map root files)
unfolding table_of
headings_are files = refl

pub type_of_tree : (files : List Arena) (l : TypeList) (f k n : ℕ) (g : Setting) → g.table ≡ table_in files → g.tree ≡ file_at files f → IsTypeNumber l n (named_type files f k) → IsTypeNumber l n (type_there g (Some k))
type_of_tree files l f k n g e t i =
    subst (λ (x : JavaType). IsTypeNumber l n x)
    (ap (λ hs. type_named hs (tree_in (file_at files f) k)) (sym (headings_are files) ∙ ap (λ (x : Table). x.headings) (sym e)) ∙ ap (λ (a : Arena). type_named g.table.headings (tree_in a k)) (sym t)) i
