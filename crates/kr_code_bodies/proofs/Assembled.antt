-- Classes, and methods and classes together.
use Rattle.std.proofs.Common.{◌≡◌, sym, ap, ◌∙◌, subst, ℕ, zero, suc, ◌+◌, ◌<◌, ◌≤◌, List, [], ◌∷◌, ◌++◌, length, length-append, map, take, All, arith}
use Rattle.std.specs.Prelude.{Option, Some, IsSome, flat_map, slice_get}
use Rattle.std.specs.List.{AllZip, range_with_len}
use Rattle.kr_value.specs.declared.value.Value.{Value}
use Rattle.kr_classes_table.specs.Table as tables
use Rattle.kr_classes_table.specs.Table.{Table, fields_of, line_of, own_fields}
use Rattle.kr_classes_names.specs.ListedTypes.{IsGrown}
use Rattle.kr_types.specs.declared.program.Program.{Program}
use Rattle.kr_mean.specs.Program.{constructor_of, declared_fields, default_of, program_with}
use Rattle.kr_code_members.specs.Nodes.{run_program, table}
use Rattle.kr_code.specs.declared.code.Code.{Code}
use Rattle.kr_code.specs.declared.code.Node.{Node}
use Rattle.kr_code.specs.declared.code.Node.TheVariants as nodes
use Rattle.kr_code.specs.declared.code.ClassCode.{ClassCode}
use Rattle.kr_code.specs.declared.code.MethodCode.{MethodCode}
use Rattle.kr_code.specs.declared.code.Constructor as made
use Rattle.kr_code.specs.declared.code.Initialiser.{Initialiser}
use Rattle.kr_code.specs.declared.expression.Nodes.{Nodes}
use Rattle.kr_code.specs.Resolved.{AreInitialisers, initialised_fields}
use Rattle.kr_classes_members.specs.Rosters.{all_fields, fields_of_class, first_of}
use Rattle.kr_classes_members.proofs.Sections.{one_more}
use Rattle.kr_code_lowering.specs.Origins.{Final, numbering_of}
use Rattle.kr_code_lowering.specs.Sites.{Becomes}
use Rattle.kr_code_lowering.proofs.Growth.{grown_none, grown_on}
use Rattle.kr_code_bodies.specs.Made.{AreBodies, AreThere, Begins, IsClassMade, IsConstructorMade, IsInitial, IsMethodMade, IsMethodNumbered}
use Rattle.kr_code_bodies.proofs.There.{becomes_before}
use Rattle.kr_code_bodies.proofs.Initial.{initialisers_are, nodes_behind}
use Rattle.kr_code_bodies.proofs.Upward.{line_there}

-- ---- more by then

pub method_later : (p : Program) (arrays : List ℕ) (known : List (List ℕ)) (before linked : List ℕ) (m : tables.Method) (k : MethodCode) → IsGrown before linked → IsMethodMade p arrays known before m k → IsMethodMade p arrays known linked m k
method_later p arrays known before linked m k g h final code b = h final code (becomes_before p known before linked final code g b)

pub class_later : (p : Program) (arrays : List ℕ) (known : List (List ℕ)) (before linked : List ℕ) (ns ms : List Node) (vs ws : List Value) (c : ℕ) (k : ClassCode) → IsGrown before linked → IsGrown ns ms → IsGrown vs ws
    → IsClassMade p arrays known before ns vs c k → IsClassMade p arrays known linked ms ws c k
class_later p arrays known before linked ns ms vs ws c k g gn gv h = record {
  class = λ final code b begins. h.class final code (becomes_before p known before linked final code g b) (record { nodes = grown_on ns ms code.nodes.items gn begins.nodes; values = grown_on vs ws code.values.items gv begins.values });
  line = λ final code b. h.line final code (becomes_before p known before linked final code g b);
}

-- ---- a class

module _ (p : Program) (c : ℕ) (within : c < length (table p).classes) (links1 links2 links3 : List ℕ) (old new : List Node) (values : List Value) (xs : List Initialiser) (defaults line initialisers : Nodes) (x : Option made.Constructor)
    (values_there : AreThere values defaults (map (λ f. default_of f.type) (fields_of (table p) c)))
    (line_there_is : AreThere links1 line (line_of (table p) c))
    (initial : AllZip (IsInitial p) (initialised_fields (declared_fields (run_program p []) c)) xs)
    (nodes_are : new ≡ old ++ map nodes.Initialiser xs)
    (second : IsGrown links1 links2)
    (initialisers_there : AreThere links2 initialisers (range_with_len (length old) (length xs)))
    (third : IsGrown links2 links3)
    (arrays : List ℕ) (known : List (List ℕ))
    (constructor : IsConstructorMade p arrays known links3 c (constructor_of (program_with (table p) []) c) x) where
  pub class_made : IsClassMade p arrays known links3 new values c (record { defaults = defaults; line = line; initialisers = initialisers; constructor = x })
  class_made = record {
    class = λ final code b begins.
        let listed = initialisers_there code.links.items (grown_on links2 links3 code.links.items third b.links) in
        record {
          defaults = values_there code.values.items begins.values;
          line = line_there_is code.links.items (grown_on links1 links2 code.links.items second (grown_on links2 links3 code.links.items third b.links));
          initialisers = subst (AreInitialisers (run_program p arrays) code (numbering_of p final) (initialised_fields (declared_fields (run_program p []) c))) (sym listed)
              (initialisers_are p arrays code final (initialised_fields (declared_fields (run_program p []) c)) xs (length old) initial (nodes_behind old new xs code nodes_are begins.nodes));
          constructor = constructor final code b;
        };
    line = λ final code b.
        let there = line_there_is code.links.items (grown_on links1 links2 code.links.items second (grown_on links2 links3 code.links.items third b.links)) in
        subst (All (λ d. IsSome (slice_get code.classes.items d))) (sym there) (line_there p c code.classes.items within b.classes);
  }

-- ---- numbers of fields

pub first_next : (t : Table) (c : ℕ) → first_of fields_of_class t (c + 1) ≡ first_of fields_of_class t c + length (own_fields t c)
first_next t c = ap length (one_more fields_of_class t.classes c) ∙ length-append (flat_map fields_of_class (take c t.classes)) (own_fields t c)

take_length : {A B : Type 0} (f : A → List B) (xs : List A) (n : ℕ) → length (flat_map f (take n xs)) ≤ length (flat_map f xs)
take_length f [] zero = omega arith
take_length f [] (suc n) = omega arith
take_length f (x ∷ xs) zero = omega arith
take_length f (x ∷ xs) (suc n) = omega (arith, take_length f xs n, length-append (f x) (flat_map f (take n xs)), length-append (f x) (flat_map f xs))

pub first_within : (t : Table) (c : ℕ) → first_of fields_of_class t c ≤ length (all_fields t)
first_within t c = take_length fields_of_class t.classes c

-- ---- the whole

pub bodies_are : (p : Program) (arrays : List ℕ) (known : List (List ℕ)) (linked : List ℕ) (ns : List Node) (vs : List Value) (ms : List MethodCode) (ks : List ClassCode)
    → ((k : ℕ) (m : MethodCode) → slice_get ms k ≡ Some m → IsMethodNumbered p arrays known linked k m) → ((c : ℕ) (k : ClassCode) → slice_get ks c ≡ Some k → IsClassMade p arrays known linked ns vs c k)
    → (final : Final) (code : Code) → Becomes p known linked final code → code.nodes.items ≡ ns → code.methods.items ≡ ms → code.classes.items ≡ ks → code.values.items ≡ vs → AreBodies (run_program p arrays) code (numbering_of p final)
bodies_are p arrays known linked ns vs ms ks methods classes final code b en em ek ev =
    let begins : Begins ns vs code = record { nodes = subst (IsGrown ns) (sym en) (grown_none ns); values = subst (IsGrown vs) (sym ev) (grown_none vs) } in
    record {
      methods = λ k m i. methods k m (sym (ap (λ (xs : List MethodCode). slice_get xs k) em) ∙ i) final code b;
      classes = λ c k i. (classes c k (sym (ap (λ (xs : List ClassCode). slice_get xs c) ek) ∙ i)).class final code b begins;
      lines = λ c k i. (classes c k (sym (ap (λ (xs : List ClassCode). slice_get xs c) ek) ∙ i)).line final code b;
    }
