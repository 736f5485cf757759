-- A problem as it is posed: its program with more types, its array types, and its bounds.
use Rattle.std.proofs.Common.{◌≡◌, ℕ, List, map, ap, sym, subst, ◌∙◌}
use Rattle.std.specs.Prelude.{flat_map}
use Rattle.kr_ast.specs.Arena.{Arena, root}
use Rattle.kr_ast.specs.Tree.{Tree}
use Rattle.kr_classes_table.specs.Types.{JavaType}
use Rattle.kr_classes_table.specs.Nodes.{nodes}
use Rattle.kr_classes_table.specs.Table.{headings_of, table_of}
use Rattle.kr_classes_table.specs.Arrays.{array_types_of, arrays_in, arrays_named}
use Rattle.kr_classes_names.specs.Types.{TypeList, Extends, type_at}
use Rattle.kr_space_names.specs.Collected.{collected, types_shown}
use Rattle.kr_space_names.proofs.Once.{once_more}
use Rattle.kr_space_names.proofs.Collecting.{node_types_kept}
use Rattle.kr_types.specs.declared.program.Program.{Program}
use Rattle.kr_types.specs.Programs.{IsProgram}
use Rattle.kr_types.proofs.Faults.{typed_kept}
use Rattle.kr_mean.specs.declared.mode.Mode.{Mode}
use Rattle.kr_mean.specs.Program as meaning
use Rattle.kr_fin.specs.declared.document.ArrayBound.{ArrayBound}
use Rattle.kr_fin.specs.declared.document.FinDoc.{FinDoc}
use Rattle.kr_space_layout.specs.Bounds.{Bounds, problem_with}
use Rattle.kr_space_meaning.specs.Bounds.{bounded, problem_in, problem_of, setting_of}
use Rattle.kr_space_rules.specs.declared.bounds.Bound.{Bound}
use Rattle.kr_space_rules.specs.Entries.{AreBounds, bound_shown}
use Rattle.kr_space.specs.Basis.{AreArrays, bounds_on}
use Rattle.kr_space.proofs.Parts.{arrays_are}

-- a program stays one where its types grow
pub program_kept : (p : Program) (l : TypeList) → Extends p.table.types l → IsProgram p → IsProgram (record p { table = record p.table { types = l } })
program_kept p l e k = record {
  few = k.few;
  small = k.small;
  table = record {
    table = record {
      heads = k.table.table.heads;
      members = k.table.table.members;
      numbers = node_types_kept p.trees.items p.table.types l p.table.numbers e k.table.table.numbers;
      values = k.table.table.values;
    };
    unbroken = k.table.unbroken;
  };
  roster = k.roster;
  count = k.count;
  files = λ f t g. typed_kept p.trees.items p.table.types l f t e (k.files f t g);
  well_typed = k.well_typed;
}

-- the array types of the files, followed by those of the document
pub arrays_whole : (files : List Tree) (document : FinDoc) (l : TypeList) (all : List ArrayBound) (bounds : List Bound) (first arrays : List ℕ) → types_shown l first ≡ array_types_of files
    → types_shown l arrays ≡ collected (types_shown l first) (flat_map (λ a. arrays_in a.0) (map (bound_shown l all) bounds)) → map (bound_shown l all) bounds ≡ (setting_of files document).arrays
    → types_shown l arrays ≡ (setting_of files document).types
unfolding setting_of
arrays_whole files document l all bounds first arrays f a b =
    let named = flat_map (arrays_named (headings_of files)) (flat_map nodes files) in
    a ∙ (ap (λ (ts : List JavaType). collected ts (flat_map (λ a. arrays_in a.0) (map (bound_shown l all) bounds))) f
    ∙ (ap (λ (bs : List (JavaType × ArrayBound)). collected (array_types_of files) (flat_map (λ a. arrays_in a.0) bs)) b
    ∙ sym (once_more named (flat_map (λ a. arrays_in a.0) (setting_of files document).arrays))))

pub posed_is : (files : List Tree) (document : FinDoc) (mode : Mode) (l : TypeList) (arrays : List ℕ) (bounds : Bounds) → AreArrays l (setting_of files document) arrays → bounds ≡ bounds_on (setting_of files document) mode
    → problem_with (meaning.program_with (table_of files) (map (type_at l) arrays)) bounds ≡ problem_of files document mode
unfolding problem_in setting_of
posed_is files document mode l arrays bounds a b =
    ap (λ (ts : List JavaType). problem_with (meaning.program_with (table_of files) ts) bounds) a.shown
    ∙ ap (λ (bs : Bounds). problem_with (meaning.program_with (table_of files) (setting_of files document).types) bs) b

pub posed_here : (trees here : List Arena) (document : FinDoc) (mode : Mode) (l : TypeList) (arrays : List ℕ) (bounds : Bounds) → here ≡ trees → AreArrays l (setting_of (map root here) document) arrays → bounds ≡ bounds_on (setting_of (map root here) document) mode
    → problem_with (meaning.program_with (table_of (map root trees)) (map (type_at l) arrays)) bounds ≡ problem_of (map root trees) document mode
posed_here trees here document mode l arrays bounds e a b =
    posed_is (map root trees) document mode l arrays bounds (subst (λ (ts : List Arena). AreArrays l (setting_of (map root ts) document) arrays) e a) (b ∙ ap (λ (ts : List Arena). bounds_on (setting_of (map root ts) document) mode) e)

-- the bounds of the document
pub bounds_here : (files : List Tree) (document : FinDoc) (l : TypeList) (named : List ArrayBound) (bounds here : List Bound) → named ≡ document.arrays → here ≡ bounds → AreBounds l named bounds (bounded (headings_of files) named)
    → AreBounds l document.arrays here (setting_of files document).arrays
bounds_here files document l named bounds here n h k =
    subst (λ (bs : List (JavaType × ArrayBound)). AreBounds l document.arrays here bs) (sym (arrays_are files document))
    (subst (λ (bs : List Bound). AreBounds l document.arrays bs (bounded (headings_of files) document.arrays)) (sym h)
    (subst (λ (as_named : List ArrayBound). AreBounds l as_named bounds (bounded (headings_of files) as_named)) n k))
