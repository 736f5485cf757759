-- The method of a builder: `bN` means it in the class of the builders.
use Rattle.std.proofs.Common.{◌≡◌, ℕ, zero, suc, ◌+◌, ◌<◌, ◌^◌, Bool, true, false, List, [], ◌∷◌, ◌++◌, length, get_or, Option, Some, None, refl, sym, ap, ◌∙◌, arith}
use Rattle.std.specs.Prelude.{flat_map, find, codes, decimal, bytes_eq, option_and_then, option_to_list, if◌then◌else◌}
use Rattle.std.proofs.lemmas.Bool.{false_from_ne_true}
use Rattle.std.proofs.lemmas.Fmt.{decimal_injective}
use Rattle.std.proofs.lemmas.List.{append-nil, append_cancel_left}
use Rattle.std.proofs.lemmas.Slice.Eq.{bytes_eq-Decides}
use Rattle.kr_base.specs.declared.place.Place.{Place}
use Rattle.kr_classes_table.specs.Constants.{or_else, outer_class}
use Rattle.kr_classes_table.specs.Table.{Class, Heading, Method, class_at, items, line_of, line_within, method_named, methods_in, own_methods, super_of, type_named}
use Rattle.kr_classes_table.specs.Types.{is_void}
use Rattle.kr_types_meaning.specs.Scopes.{static_only}
use Rattle.kr_mean.specs.Program.{Program}
use Rattle.kr_emit_laws.specs.Pieces.{method_name}
use Rattle.kr_emit_laws.specs.Syntax.{Builder, SimpleName}
use Rattle.kr_emit_laws.specs.BuilderTree.{body_start, body_tree, method_end, methods_tree, result_end, result_start, type_tree}
use Rattle.kr_laws_runs.proofs.Overriders.{no_line}
use Rattle.kr_emit_laws.proofs.Calls.{IsBuilder}

abbrev pub no_builder : Builder
no_builder = record { key = []; type = SimpleName []; lines = [] }

-- ---- methods by their names

pub record IsFound (hs : List Heading) (c : ℕ) (at : List ℕ → Place) (methods : List Method) (name : List ℕ) (b : Builder) : Type 0 where
  pub method : Method
  pub found : find (λ (m : Method). bytes_eq m.name name) methods ≡ Some method
  pub static : method.is_static ≡ true
  pub parameters : method.parameters ≡ []
  pub place : Place
  pub result : method.result ≡ type_named hs (type_tree place b.type)
  pub front : List ℕ
  pub body : method.body ≡ items (body_tree at front b.lines)

same_method : (k : ℕ) → bytes_eq (method_name k) (method_name k) ≡ true
same_method k = (bytes_eq-Decides (method_name k) (method_name k)).1 refl

other_method : (k n : ℕ) → k < n → n < 2 ^ 64 → bytes_eq (method_name k) (method_name n) ≡ false
other_method k n less small =
    false_from_ne_true (bytes_eq (method_name k) (method_name n)) (λ e.
    let same : k ≡ n = decimal_injective k n (omega (arith, less, small)) (omega (arith, small)) (append_cancel_left (codes "b") (decimal k) (decimal n) ((bytes_eq-Decides (method_name k) (method_name n)).0 e)) in
    absurd (omega (arith, same, less)))

abbrev method_of : List Heading → ℕ → (List ℕ → Place) → List ℕ → ℕ → Builder → Method
method_of hs c at front k b = record {
  class = c;
  name = method_name k;
  place = at (result_end front b ++ codes " ");
  is_static = true;
  parameters = [];
  result = type_named hs (type_tree (at (result_start front b)) b.type);
  contracts = [];
  body = items (body_tree at (body_start front k b) b.lines);
}

pub found_from : (hs : List Heading) (c : ℕ) (at : List ℕ → Place) (front : List ℕ) (k : ℕ) (bs : List Builder) (i n : ℕ) → i < length bs → n ≡ k + i → n < 2 ^ 64
    → IsFound hs c at (flat_map (methods_in hs c) (items (methods_tree at front k bs))) (method_name n) (get_or bs i no_builder)
found_from hs c at front k [] i n h e small = absurd (omega (arith, h))
found_from hs c at front k (b ∷ bs) zero n h e small =
    let same : bytes_eq (method_name k) (method_name n) ≡ true = let q : k ≡ n = omega (arith, e) in ap (λ (m : ℕ). bytes_eq (method_name k) (method_name m)) (sym q) ∙ same_method k in
    record {
      method = method_of hs c at front k b;
      found = ap (λ (x : Bool). let o : Option Method = if x then Some (method_of hs c at front k b) else find (λ (m : Method). bytes_eq m.name (method_name n)) (flat_map (methods_in hs c) (items (methods_tree at (method_end front k b) (k + 1) bs))) in o) same;
      static = refl;
      parameters = refl;
      place = at (result_start front b);
      result = refl;
      front = body_start front k b;
      body = refl;
    }
found_from hs c at front k (b ∷ bs) (suc i) n h e small =
    let later = found_from hs c at (method_end front k b) (k + 1) bs i n (omega (arith, h)) (omega (arith, e)) small in
    let other : bytes_eq (method_name k) (method_name n) ≡ false = other_method k n (omega (arith, e)) small in
    record {
      method = later.method;
      found = ap (λ (x : Bool). let o : Option Method = if x then Some (method_of hs c at front k b) else find (λ (m : Method). bytes_eq m.name (method_name n)) (flat_map (methods_in hs c) (items (methods_tree at (method_end front k b) (k + 1) bs))) in o) other ∙ later.found;
      static = later.static;
      parameters = later.parameters;
      place = later.place;
      result = later.result;
      front = later.front;
      body = later.body;
    }

-- ---- in a table whose class of a number has these methods

pub builder_of_class : (program : Program) (c : ℕ) (d : Class) (at : List ℕ → Place) (front : List ℕ) (bs : List Builder) (n : ℕ) → class_at program.table.classes c ≡ Some d → d.super ≡ None → d.methods ≡ flat_map (methods_in program.table.headings c) (items (methods_tree at front 0 bs))
    → n < length bs → n < 2 ^ 64 → ((p : Place) → is_void (type_named program.table.headings (type_tree p (get_or bs n no_builder).type)) ≡ false) → IsBuilder program c n at (get_or bs n no_builder).lines
builder_of_class program c d at front bs n here super methods inside small valued =
    let hs : List Heading = program.table.headings in
    let f = found_from hs c at front 0 bs n n inside (omega arith) small in
    let none : super_of program.table c ≡ None = ap (λ (x : Option Class). option_and_then (λ (d : Class). d.super) x) here ∙ super in
    let line : line_of program.table c ≡ c ∷ [] = ap (λ (o : Option ℕ). c ∷ line_within (length program.table.classes) program.table o) none ∙ ap (λ (l : List ℕ). c ∷ l) (no_line (length program.table.classes) program.table) in
    let own : own_methods program.table c ≡ flat_map (methods_in hs c) (items (methods_tree at front 0 bs)) = ap (λ (x : Option Class). flat_map (λ (d : Class). d.methods) (option_to_list x)) here ∙ (append-nil d.methods ∙ methods) in
    let named : method_named program.table c (method_name n) ≡ Some f.method =
    ap (λ (l : List ℕ). find (λ (m : Method). bytes_eq m.name (method_name n)) (flat_map (own_methods program.table) l)) line
    ∙ (ap (find (λ (m : Method). bytes_eq m.name (method_name n))) (append-nil (own_methods program.table c) ∙ own) ∙ f.found) in
    record {
      method = f.method;
      meant = ap (λ (o : Option Method). or_else o (option_and_then (λ o. option_and_then static_only (method_named program.table o (method_name n))) (outer_class program.table c))) named;
      static = f.static;
      parameters = f.parameters;
      result = ap is_void f.result ∙ valued f.place;
      front = f.front;
      body = f.body;
    }
