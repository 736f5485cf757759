-- Parts of a node: their scopes, and what the node touches and runs by them.
use Rattle.std.proofs.Common.{◌≡◌, refl, sym, ap, ◌∙◌, subst, ℕ, ◌<◌, length, Some}
use Rattle.std.specs.Prelude.{slice_get}
use Rattle.kr_ast.specs.declared.node.Node.{Node}
use Rattle.kr_ast.specs.declared.node.Entry.{Entry}
use Rattle.kr_ast.specs.Arena.{Arena, ArePartsFrom, IsPart, parts, tree_in, tree_of}
use Rattle.kr_ast.specs.Tree as trees
use Rattle.kr_ast.specs.Tree.{Tree}
use Rattle.kr_value.specs.declared.object.Class.{Class}
use Rattle.kr_classes_table.specs.Constants.{values_of}
use Rattle.kr_types_meaning.specs.Scopes.{Scope, class_before, value}
use Rattle.kr_types_meaning.specs.Typing.{judged, type_in, type_of}
use Rattle.kr_types_meaning.specs.Running.{running}
use Rattle.kr_ast.specs.Files.{file_at}
use Rattle.kr_classes_members.specs.Shown.{table_in}
use Rattle.kr_types_meaning.specs.Handing.{handed}
use Rattle.kr_types.specs.declared.program.Program.{Program}
use Rattle.kr_types.specs.declared.program.TypedFile.{TypedFile}
use Rattle.kr_types.specs.Programs.{IsProgram, scope_there}
use Rattle.kr_mean.specs.Program as meaning
use Rattle.kr_mean.specs.Meaning.{target_of}
use Rattle.kr_mean.specs.Purity.{may_touch, writes_to}
use Rattle.kr_pure_effects.specs.Nodes.{IsEntry}

-- ---- a node by its kind

module _ (a : Arena) (i : ℕ) (e : Entry) (n : Node) (at : IsEntry a i e) (is : e.node ≡ n) where
  pub tree_is : tree_in a i ≡ tree_of a.text (tree_in a) e.place n
  tree_is = at.tree ∙ ap (tree_of a.text (tree_in a) e.place) is

  pub parts_are : ArePartsFrom a.entries i 0 (parts n)
  parts_are = subst (λ (m : Node). ArePartsFrom a.entries i 0 (parts m)) is at.parts

pub class_running : (s : Scope) (e : Tree) → class_before (running s) e ≡ class_before s e
class_running s (trees.Variable p n) = refl
class_running s _ = refl

pub one_file : (p : Program) (f : ℕ) (t u : TypedFile) → slice_get p.files.items f ≡ Some t → slice_get p.files.items f ≡ Some u → t ≡ u
one_file p f t u h k = let e : Some t ≡ Some u = sym h ∙ k in cc (e)

-- ---- a part that the node hands its own scope as a value

module _ (p : Program) (program : IsProgram p) (f : ℕ) (t : TypedFile) (typed : slice_get p.files.items f ≡ Some t) where
  abbrev a : Arena
  a = file_at p.trees.items f

  abbrev scope : ℕ → Scope
  scope i = scope_there p.trees.items f t i

  module _ (i j x : ℕ) (u : Tree) (there : i < length a.entries) (part : IsPart a.entries i j x) (is : tree_in a i ≡ u) (hands : (s : Scope) → handed s u j ≡ value s) where
    pub part_value : scope x ≡ value (scope i)
    part_value = ((program.files f t typed).scopes (table_in p.trees.items) (values_of (table_in p.trees.items))).hands i j x there part ∙ ap (λ (v : Tree). handed (scope i) v j) is ∙ hands (scope i)

    pub part_type : type_in (judged (scope x) (tree_in a x)).typed ≡ type_of (scope i) (tree_in a x)
    part_type = ap (λ (s : Scope). type_in (judged s (tree_in a x)).typed) part_value

    -- a node that writes the part touches what a write of the part does
    pub write_touches : ((s : Scope) (mean : meaning.Program) (class : Class) → writes_to mean (target_of s (tree_in a x)) class ≡ may_touch mean s u class) → (mean : meaning.Program) (class : Class)
        → writes_to mean (target_of (running (scope x)) (tree_in a x)) class ≡ may_touch mean (running (scope i)) (tree_in a i) class
    write_touches writes mean class =
        ap (λ (s : Scope). writes_to mean (target_of (running s) (tree_in a x)) class) part_value ∙ writes (running (scope i)) mean class ∙ ap (λ (v : Tree). may_touch mean (running (scope i)) v class) (sym is)
