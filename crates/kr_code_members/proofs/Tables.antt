-- The class table by the headings, and the numbers of names.
use Rattle.std.proofs.Common.{◌≡◌, refl, sym, ap, ◌∙◌, subst, ℕ, zero, suc, ◌+◌, ◌^◌, ◌<◌, Bool, false, List, [], ◌∷◌, ◌++◌, length, map, take, get_or, append-nil, zero-add, bytes_eq, if◌then◌else◌, arith}
use Rattle.std.specs.Prelude.{Option, Some, None, flat_map, option_and_then, option_to_list}
use Rattle.std.proofs.lemmas.Bool.{or_parts}
use Rattle.std.proofs.lemmas.List.{length-map, take_more}
use Rattle.std.proofs.lemmas.Grind.{flat_map-append}
use Rattle.std.proofs.lemmas.List.Folds.{flat_map-map}
use Rattle.kr_base.specs.declared.place.Place.{Place}
use Rattle.kr_ast.specs.Arena.{Arena, root}
use Rattle.kr_classes_table.specs.Table.{Table, Class, Method, Heading, class_at, class_of, classes_from, constructors_in, fields_in, headings_from, items, methods_in, number_from, number_of, own_fields, table_of}
use Rattle.kr_classes_table.specs.Rules.{Fault, C1, C2, C3, C4, C5, C6, C7, C8, break_if, class_fault, each_class, is_name_among, least, repeated}
use Rattle.kr_classes_table.proofs.Least.{is_least}
use Rattle.kr_classes_table.proofs.Tables.{long, unbroken, first_none}
use Rattle.kr_classes_names.specs.Shown.{heading_shown}
use Rattle.kr_classes.proofs.ByClass as ByClass
use Rattle.kr_classes.proofs.ByClass.{at_index}
use Rattle.kr_classes_names.proofs.ClassNumbers.{turned}
use Rattle.kr_types.specs.declared.program.Program.{Program}
use Rattle.kr_types.specs.Programs.{IsProgram}
use Rattle.kr_mean.specs.Program.{constructor_of, first, program_with}
use Rattle.kr_classes_members.specs.Rosters.{methods_of_class}
use Rattle.kr_code_members.specs.Nodes.{table}
use Rattle.kr_code_members.specs.Walk.{heading_numbered, no_heading}
use Rattle.kr_base.proofs.ListLemmas.{append_is_nil}
use Rattle.kr_classes_names.proofs.Same.{itself}

-- ---- the table's parts

pub headings_are : (files : List Arena) → (table_of (map root files)).headings ≡ headings_from 0 (flat_map (λ a. items (root a)) files)
unfolding table_of
headings_are files = ap (headings_from 0) (flat_map-map items root files)

pub few_classes : (p : Program) → IsProgram p → length (table p).headings < 2 ^ 32
unfolding table_of
few_classes p program = let heads = program.table.table.heads in subst (λ (hs : List Heading). length hs < 2 ^ 32) heads.shown (omega (arith, heads.few, length-map p.table.heads.headings.items (heading_shown p.trees.items)))

classes_are : (p : Program) → (table p).classes ≡ classes_from (table p).headings 0 (table p).headings
unfolding table_of
classes_are p = refl

pub class_count_is : (p : Program) → length (table p).classes ≡ length (table p).headings
class_count_is p = ap length (classes_are p) ∙ long (table p).headings 0 (table p).headings

-- a class, whichever
pub no_class : Program → Class
no_class p = class_of [] 0 no_heading

class_read : (p : Program) (c : ℕ) (d : Class) → c < length (table p).headings → get_or (table p).classes c d ≡ class_of (table p).headings c (heading_numbered p c)
class_read p c d l =
    let hs = (table p).headings in
    ap (λ (cs : List Class). get_or cs c d) (classes_are p) ∙ ByClass.class_read hs 0 hs c d no_heading l ∙ ap (λ (n : ℕ). class_of hs n (heading_numbered p c)) (zero-add c)

class_is : (p : Program) (c : ℕ) → c < length (table p).headings → class_at (table p).classes c ≡ Some (class_of (table p).headings c (heading_numbered p c))
class_is p c l = at_index (table p).classes c (no_class p) (omega (arith, l, class_count_is p)) ∙ ap (λ (d : Class). Some d) (class_read p c (no_class p) l)

pub fields_are : (p : Program) (c : ℕ) → c < length (table p).headings → own_fields (table p) c ≡ flat_map (fields_in (table p).headings c) (heading_numbered p c).members
fields_are p c l =
    ap (λ (o : Option Class). flat_map (λ d. d.fields) (option_to_list o)) (class_is p c l) ∙ append-nil (flat_map (fields_in (table p).headings c) (heading_numbered p c).members)

pub constructor_is : (p : Program) (c : ℕ) → c < length (table p).headings → constructor_of (program_with (table p) []) c ≡ first (flat_map (constructors_in (table p).headings) (heading_numbered p c).members)
constructor_is p c l = ap (option_and_then (λ (d : Class). first d.constructors)) (class_is p c l)

-- the methods of one class more
pub methods_more : (p : Program) (c : ℕ) (d : Class) → c < length (table p).classes → flat_map methods_of_class (take c (table p).classes) ++ flat_map (methods_in (table p).headings c) (heading_numbered p c).members ≡ flat_map methods_of_class (take (c + 1) (table p).classes)
methods_more p c d l =
    let cs = (table p).classes in
    let before = flat_map methods_of_class (take c cs) in
    ap (λ (ms : List Method). before ++ ms) (sym (ap methods_of_class (class_read p c d (omega (arith, l, class_count_is p)))) ∙ sym (append-nil (methods_of_class (get_or cs c d))))
    ∙ sym (flat_map-append methods_of_class (take c cs) (get_or cs c d ∷ []))
    ∙ ap (flat_map methods_of_class) (sym (take_more cs c d l))

-- ---- a class's name has its number

abbrev named_at : Heading → List ℕ × Place
named_at h = (h.name, h.place)

-- a name that isn't repeated isn't one of those before it
unseen : (r : ℕ) (seen : List (List ℕ)) (hs : List Heading) (c : ℕ) (d : Heading) → repeated r seen (map named_at hs) ≡ [] → c < length hs → is_name_among (get_or hs c d).name seen ≡ false
unseen r seen [] c d e l = absurd (omega (arith, l))
unseen r seen (h ∷ hs) zero d e l = unbroken (is_name_among h.name seen) r h.place (append_is_nil (break_if (is_name_among h.name seen) r h.place) (repeated r (h.name ∷ seen) (map named_at hs)) e).0
unseen r seen (h ∷ hs) (suc c) d e l =
    let rest = (append_is_nil (break_if (is_name_among h.name seen) r h.place) (repeated r (h.name ∷ seen) (map named_at hs)) e).1 in
    let n = (get_or hs c d).name in
    (or_parts (bytes_eq n h.name) (is_name_among n seen) (unseen r (h.name ∷ seen) hs c d rest (omega (arith, l)))).1

numbered : (r : ℕ) (seen : List (List ℕ)) (k : ℕ) (hs : List Heading) (c : ℕ) (d : Heading) → repeated r seen (map named_at hs) ≡ [] → c < length hs → number_from k hs (get_or hs c d).name ≡ Some (k + c)
numbered r seen k [] c d e l = absurd (omega (arith, l))
numbered r seen k (h ∷ hs) zero d e l = ap (λ (b : Bool). if b then Some k else number_from (k + 1) hs h.name) (itself h.name) ∙ ap (λ (n : ℕ). Some n) (omega arith)
numbered r seen k (h ∷ hs) (suc c) d e l =
    let rest = (append_is_nil (break_if (is_name_among h.name seen) r h.place) (repeated r (h.name ∷ seen) (map named_at hs)) e).1 in
    let n = (get_or hs c d).name in
    let other : bytes_eq h.name n ≡ false = turned h.name n ∙ (or_parts (bytes_eq n h.name) (is_name_among n seen) (unseen r (h.name ∷ seen) hs c d rest (omega (arith, l)))).0 in
    ap (λ (b : Bool). if b then Some k else number_from (k + 1) hs n) other ∙ numbered r (h.name ∷ seen) (k + 1) hs c d rest (omega (arith, l)) ∙ ap (λ (m : ℕ). Some m) (omega arith)

names_of_classes : (all : List Heading) (k : ℕ) (hs : List Heading) → map (λ (d : Class). (d.name, d.place)) (classes_from all k hs) ≡ map named_at hs
names_of_classes all k [] = refl
names_of_classes all k (h ∷ hs) = ap (λ (ns : List (List ℕ × Place)). named_at h ∷ ns) (names_of_classes all (k + 1) hs)

apart : (t : Table) → class_fault t ≡ None → C1 t ≡ []
unfolding class_fault
apart t e =
    let rule : (Table → ℕ → Class → List Fault) → Option Fault = λ r. least (each_class (r t) 0 t.classes) in
    (is_least (C1 t)).none (first_none (least (C1 t)) (rule C2 ∷ rule C3 ∷ rule C4 ∷ rule C5 ∷ rule C6 ∷ rule C7 ∷ rule C8 ∷ []) e)

pub class_number : (p : Program) → IsProgram p → (c : ℕ) → c < length (table p).headings → number_of (table p).headings (heading_numbered p c).name ≡ Some c
class_number p program c l =
    let collections = Rattle.std.specs.Prelude.codes "HashSet" ∷ Rattle.std.specs.Prelude.codes "LinkedList" ∷ [] in
    let none : repeated 1 collections (map named_at (table p).headings) ≡ [] =
    ap (repeated 1 collections) (sym (ap (map (λ (d : Class). (d.name, d.place))) (classes_are p) ∙ names_of_classes (table p).headings 0 (table p).headings)) ∙ apart (table p) program.table.unbroken in
    numbered 1 collections 0 (table p).headings c no_heading none l ∙ ap (λ (n : ℕ). Some n) (zero-add c)
