-- The builders' class after those of accepted sources.
use Rattle.std.proofs.Common.{◌≡◌, ℕ, ◌+◌, ◌<◌, ◌^◌, List, [], ◌∷◌, ◌++◌, length, Some, None, refl, sym, ap, ◌∙◌, subst}
use Rattle.std.specs.Prelude.{codes, flat_map, slice_get}
use Rattle.kr_base.specs.declared.place.Place.{Place}
use Rattle.kr_ast.specs.Tree.{Tree}
use Rattle.kr_classes_table.proofs.Tables.{long}
use Rattle.kr_classes_table.specs.Ancestors.{IsAcyclic, IsClosed}
use Rattle.kr_classes_table.specs.Rules.{class_fault}
use Rattle.kr_classes_table.specs.Table.{Class, Heading, Table, class_at, class_of, classes_from, constructors_in, fields_in, headings_of, items, methods_in, table_of}
use Rattle.kr_mean.specs.Entries.{structure_of}
use Rattle.kr_mean.specs.Problem.{Problem}
use Rattle.kr_mean.specs.Program.{program_of}
use Rattle.kr_mean.specs.Space.{IsVector, space_of}
use Rattle.kr_mean.specs.declared.row.Row.{Row}
use Rattle.kr_emit_meaning.specs.Buildable.{build_fault, builders_name}
use Rattle.kr_emit_meaning.specs.Builders.{objects_in}
use Rattle.kr_emit_laws.specs.Pieces as pieces
use Rattle.kr_emit_laws.specs.Pieces.{after_pieces}
use Rattle.kr_emit_laws.specs.Syntax.{Builder, builders_of}
use Rattle.kr_emit_laws.specs.BuilderTree.{builder_tree, method_end, methods_tree}
use Rattle.kr_emit_laws.proofs.Acyclic.{is_acyclic, is_closed}
use Rattle.kr_emit_laws.proofs.TypingLines.{IsPlain, lines_same, own_fields_same}
use Rattle.kr_emit_laws.proofs.Unbroken.{unbroken}
use Rattle.kr_emit_laws.specs.OneMore.{IsAdded, new_heading, one_more}
use Rattle.kr_emit_laws.specs.Built.{Builds}
use Rattle.kr_emit_laws.specs.Laws.{with_builders}
use Rattle.kr_emit_laws.proofs.Accepted.{IsSuited}
use Rattle.kr_emit_laws.proofs.Beside.{IsBeside, row_built}
use Rattle.kr_emit_laws.proofs.Wider.{IsWider}

-- ---- a class of builders has nothing but methods

fields_none : (hs : List Heading) (c : ℕ) (at : List ℕ → Place) (front : List ℕ) (k : ℕ) (bs : List Builder) → flat_map (fields_in hs c) (items (methods_tree at front k bs)) ≡ []
fields_none hs c at front k [] = refl
fields_none hs c at front k (b ∷ bs) = fields_none hs c at (method_end front k b) (k + 1) bs

constructors_none : (hs : List Heading) (at : List ℕ → Place) (front : List ℕ) (k : ℕ) (bs : List Builder) → flat_map (constructors_in hs) (items (methods_tree at front k bs)) ≡ []
constructors_none hs at front k [] = refl
constructors_none hs at front k (b ∷ bs) = constructors_none hs at (method_end front k b) (k + 1) bs

last_class : (ds : List Class) (d : Class) → class_at (ds ++ d ∷ []) (length ds) ≡ Some d
last_class [] d = refl
last_class (x ∷ ds) d = last_class ds d

abbrev first_front : List ℕ
first_front = after_pieces [] (pieces.class_head [])

abbrev class_place : (List ℕ → Place) → Place
class_place at = at (codes "class" ++ codes " ")

module _ (files : List Tree) (problem : Problem) (rows : List Row) (at : List ℕ → Place) (suited : IsSuited files problem) (faults : class_fault (table_of files) ≡ None) (buildable : build_fault problem ≡ None)
    (added : IsAdded files (at (codes "class" ++ codes " ")) builders_name (methods_tree at (after_pieces [] (pieces.class_head [])) 0 (builders_of problem rows))) where
  abbrev members : Tree
  members = methods_tree at first_front 0 (builders_of problem rows)

  abbrev t : Table
  t = table_of files

  abbrev u : Table
  u = table_of (one_more files (class_place at) builders_name members)

  abbrev hs : List Heading
  hs = headings_of (one_more files (class_place at) builders_name members)

  abbrev number : ℕ
  number = length (headings_of files)

  abbrev d : Class
  d = class_of hs number (new_heading (class_place at) builders_name members)

  plain : IsPlain d
  plain = record { super = refl; outer = refl; fields = fields_none hs number at first_front 0 (builders_of problem rows); constructors = constructors_none hs at first_front 0 (builders_of problem rows) }

  acyclic : IsAcyclic t
  acyclic = is_acyclic t (unbroken t faults).C3

  classes_are : t.classes ≡ classes_from t.headings 0 t.headings
  unfolding table_of
  classes_are = refl

  closed : IsClosed t
  closed = is_closed t classes_are

  classes_long : length t.classes ≡ number
  unfolding table_of
  classes_long = long (headings_of files) 0 (headings_of files)

  headings_are : hs ≡ u.headings
  unfolding table_of
  headings_are = refl

  wider : IsWider t u
  wider = record {
    numbers = added.larger.names.kept;
    outers = added.larger.names.outer;
    lines = lines_same t u d added.classes plain acyclic closed;
    fields = own_fields_same t u d added.classes plain acyclic closed;
    constructors = added.larger.constructors;
  }

  pub beside : IsBeside files problem rows at
  beside = record {
    formed = suited.formed;
    domains = suited.domains;
    typed = suited.typed;
    rules = suited.rules;
    whole = suited.whole;
    buildable = buildable;
    objects = suited.objects;
    elements = suited.elements;
    short = suited.short;
    wider = subst (λ (x : Table). IsWider x u) (sym suited.table) wider;
    headings = headings_are;
    number = number;
    class = d;
    here = ap (λ (ds : List Class). class_at ds number) added.classes ∙ (ap (class_at (t.classes ++ d ∷ [])) (sym classes_long) ∙ last_class t.classes d);
    super = refl;
    front = first_front;
    methods = ap (λ (x : List Heading). flat_map (methods_in x number) (items members)) headings_are;
  }

  pub row_builds : (n : ℕ) (row : Row) (v : List ℕ) → slice_get rows n ≡ Some row → row.structure ≡ structure_of problem v → IsVector (space_of problem) v → n < 2 ^ 64 → length (objects_in row.structure) < 2 ^ 64
      → Builds (program_of (with_builders files (builder_tree at problem rows))) (length (headings_of files)) n problem row.structure
  unfolding beside
  row_builds n row v there is iv few_rows few_objects = row_built files problem rows at beside n row v there is iv few_rows few_objects
