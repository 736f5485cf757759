-- The meaning of classes and names.
use Rattle.std.proofs.Common.{◌≡◌, sym, ap, ◌∙◌, ℕ, List, map}
use Rattle.std.specs.Prelude.{Option, Some, unwrap_or}
use Rattle.kr_base.specs.declared.place.Place.{Place}
use Rattle.kr_ast.specs.Arena.{Arena, root, tree_in}
use Rattle.kr_ast.specs.Tree as trees
use Rattle.kr_ast.specs.Tree.{Tree}
use Rattle.kr_classes_table.specs.Table.{Field, headings_of, number_of}
use Rattle.kr_classes_table.specs.Constants.{Known, field_meant}
use Rattle.kr_types_meaning.specs.Rules.{Judgement, name_rule}
use Rattle.kr_types_meaning.specs.Scopes.{Scope, FieldName, field_or_none, meant, meant_by}
use Rattle.kr_ast.specs.Files.{file_at}
use Rattle.kr_types_scopes.specs.Settings.{setting, class_there, class_number}
use Rattle.kr_classes_members.specs.Shown.{table_in}
use Rattle.kr_types_judging.proofs.Tables.{headings_are}

pub class_is : (files : List Arena) (known : List Known) (f k : ℕ) (o : Option ℕ) (p : Place) (n : List ℕ) (e ms : Tree) (found : Option ℕ) → o ≡ Some k → tree_in (file_at files f) k ≡ trees.Class p n e ms → found ≡ number_of (headings_of (map root files)) n
    → class_there (setting (table_in files) known (file_at files f)) o ≡ unwrap_or found 0
class_is files known f k o p n e ms found i t h =
    ap (class_there (setting (table_in files) known (file_at files f))) i ∙ ap (class_number (table_in files)) t ∙ ap (λ hs. unwrap_or (number_of hs n) 0) (headings_are files) ∙ ap (λ x. unwrap_or x 0) (sym h)

-- a name that means no local means a field
pub field_said : (s : Scope) (f : Field) (n : List ℕ) (v : Judgement) (c : ℕ) → v ≡ name_rule s (FieldName f) → ((o : Option Field) → meant_by s.locals o n ≡ field_or_none o) → field_meant s.table c n ≡ Some f → s.class ≡ c → v ≡ name_rule s (meant s n)
field_said s f n v c said none found k =
    said ∙ ap (name_rule s) (sym (none (field_meant s.table s.class n) ∙ ap field_or_none (ap (λ d. field_meant s.table d n) k ∙ found)))
