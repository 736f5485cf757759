-- Builders whose lines fit have no broken node.
use Rattle.std.proofs.Common.{◌≡◌, refl, sym, ap, ◌∙◌, subst, ℕ, suc, ◌+◌, ◌<◌, ◌≤◌, Bool, true, false, not, ◌&&◌, rules, List, [], ◌∷◌, ◌++◌, length, arith, Some}
use Rattle.std.specs.Prelude.{bytes_eq, codes, decimal, pos, negsuc}
use Rattle.std.specs.List.{AllByRecursion}
use Rattle.std.proofs.lemmas.Bool.{or_right}
use Rattle.std.proofs.lemmas.Fmt.{decimal_injective}
use Rattle.std.proofs.lemmas.List.{append_cancel_left}
use Rattle.kr_base.specs.Places.{nowhere}
use Rattle.kr_base.specs.declared.place.Place.{Place}
use Rattle.kr_ast.specs.declared.node.Primitive.TheVariants as primitives
use Rattle.kr_ast.specs.Tree as trees
use Rattle.kr_ast.specs.Tree.{Tree}
use Rattle.kr_classes_table.specs.Numbers.{Bits32, Bits64}
use Rattle.kr_classes_table.specs.Types.{JavaType, NumberType, BooleanType, NullType, VoidType, ClassType, ArrayType, SetType, ListType, InferredType, UnknownType, AppliedType, is_known, is_same}
use Rattle.kr_classes_table.specs.Rules.{Fault}
use Rattle.kr_classes_table.specs.Table.{Table, Heading, type_named, is_assignable}
use Rattle.kr_classes_table.specs.Constants.{field_meant}
use Rattle.kr_types_meaning.specs.Scopes.{Scope, LocalName, Local as ScopeLocal, value, after, meant, meant_by}
use Rattle.kr_types_meaning.specs.Rules.{Value, Variable, is_code, is_new, array_rule}
use Rattle.kr_types_meaning.specs.Typing.{Judged, one, judged}
use Rattle.kr_emit_laws.specs.BuilderTree.{type_tree, operand_tree, type_end, new_start, created_start, array_end, length_start, field_start, element_start, statement_tree, statement_end, line_start, body_tree, result_start, result_end, body_start, method_end, methods_tree}
use Rattle.kr_emit_laws.specs.Pieces.{local_name, method_name}
use Rattle.kr_emit_laws.specs.Syntax.{Builder, Line, Creates, CreatesArray, SetsField, SetsElement, Operand, Whole, Boolean, NullOperand, Local, TypeName, PrimitiveName, SimpleName, NestedName}
use Rattle.kr_laws_never_stuck.proofs.Declared.{equal_names, names_equal}
use Rattle.kr_emit_laws.specs.Fitting.{meant_type, local_type, width_of, IsOperand, Fits, types_after, LinesFit, BuilderFits, MethodsLaw}
use Rattle.kr_emit_laws.proofs.Setting.{of, IsValue, IsSimple, valued, local_judged, number_judged, long_judged, negative_judged, negative_long_judged, truth_judged, null_judged, field_judged, element_judged, set_unbroken, with_local, local_unbroken, type_judged, creation_judged, array_judged, return_unbroken, body_scope, method_unbroken}
use Rattle.kr_emit_laws.proofs.Locals.{locals_of, found_local, new_local}

-- ---- names of locals

names_apart : (i j : ℕ) → i < 9223372036854775809 → j < 9223372036854775809 → bytes_eq (local_name i) (local_name j) ≡ true → i ≡ j
names_apart i j l m e = decimal_injective i j (omega (arith, l)) (omega (arith, m)) (append_cancel_left (codes "o") (decimal i) (decimal j) (names_equal (local_name i) (local_name j) e))

-- ---- names of types

simple : (p : Place) (t : TypeName) → IsSimple (type_tree p t)
simple p (PrimitiveName k) = tt
simple p (SimpleName n) = tt
simple p (NestedName o n) = tt

-- wherever a type's name is, it means one type
anywhere : (hs : List Heading) (p : Place) (t : TypeName) → type_named hs (type_tree p t) ≡ type_named hs (type_tree nowhere t)
anywhere hs p (PrimitiveName primitives.Int) = refl
anywhere hs p (PrimitiveName primitives.Long) = refl
anywhere hs p (PrimitiveName primitives.Boolean) = refl
anywhere hs p (PrimitiveName primitives.Void) = refl
anywhere hs p (SimpleName n) = refl
anywhere hs p (NestedName o n) = refl

-- a type is the same as itself
both_true : (a b : Bool) → a ≡ true → b ≡ true → (a && b) ≡ true
both_true true b e f = f
both_true false b e f = absurd (cc (e))

same_type : (a : JavaType) → is_same a a ≡ true
same_type (NumberType Bits32) = refl
same_type (NumberType Bits64) = refl
same_type BooleanType = refl
same_type NullType = refl
same_type VoidType = refl
same_type (ClassType c) = grind (arith, rules)
same_type (ArrayType a) = same_type a
same_type (SetType a) = same_type a
same_type (ListType a) = same_type a
same_type InferredType = refl
same_type (UnknownType o n) = both_true (bytes_eq o o) (bytes_eq n n) (equal_names o o refl) (equal_names n n refl)
same_type (AppliedType h a) = both_true (is_same h h) (is_same a a) (same_type h) (same_type a)

array_unbroken : (s : Scope) (p : Place) (k : Tree) (a : JavaType) → judged s k ≡ of (Value a) → (judged s (trees.ArrayType p k)).faults ≡ []
unfolding judged
array_unbroken s p k a e = ap (λ (z : Judged). (one p array_rule z).faults) e

-- ---- operands

module _ (place : List ℕ → Place) where
  -- a scope with the locals of these types
  record HasLocals (s : Scope) (types : List JavaType) : Type 0 where
    locals : s.locals ≡ locals_of local_name types
    code : is_code s.part ≡ true

  local_meant : (s : Scope) (types : List JavaType) (i : ℕ) (a : JavaType) → HasLocals s types → length types ≤ 9223372036854775809 → local_type types i ≡ Some a → (k : ℕ) × (meant s (local_name i) ≡ LocalName k a)
  local_meant s types i a h few e =
      let found = found_local local_name 9223372036854775809 names_apart (field_meant s.table s.class (local_name i)) types i a few e in
      (found.0, ap (λ ls. meant_by ls (field_meant s.table s.class (local_name i)) (local_name i)) h.locals ∙ found.1)

  local_new : (s : Scope) (types : List JavaType) (n : ℕ) → HasLocals s types → length types < 9223372036854775809 → n ≡ length types → is_new s (local_name n) (meant s (local_name n)) ≡ true
  local_new s types n h few e =
      ap (λ j. is_new s (local_name j) (meant s (local_name j))) e
      ∙ (ap (λ ls. is_new s (local_name (length types)) (meant_by ls (field_meant s.table s.class (local_name (length types))) (local_name (length types)))) h.locals
      ∙ new_local local_name 9223372036854775809 names_apart s (field_meant s.table s.class (local_name (length types))) types few)

  operand_valued : (s : Scope) (front : List ℕ) (types : List JavaType) (v : Operand) (a : JavaType) → HasLocals s types → length types ≤ 9223372036854775809 → IsOperand types v a → IsValue s (operand_tree place front v) a
  operand_valued s front types (Whole true (pos n)) a h few i = valued s _ a (Value (NumberType (width_of true))) (long_judged s (place front) n i.1) (ap (λ z. Some z) (sym i.0))
  operand_valued s front types (Whole false (pos n)) a h few i = valued s _ a (Value (NumberType (width_of false))) (number_judged s (place front) n i.1) (ap (λ z. Some z) (sym i.0))
  operand_valued s front types (Whole true (negsuc n)) a h few i = valued s _ a (Value (NumberType (width_of true))) (negative_long_judged s (place front) (place (front ++ codes "-")) (suc n)) (ap (λ z. Some z) (sym i))
  operand_valued s front types (Whole false (negsuc n)) a h few i = valued s _ a (Value (NumberType (width_of false))) (negative_judged s (place front) (place (front ++ codes "-")) (suc n)) (ap (λ z. Some z) (sym i))
  operand_valued s front types (Boolean b) a h few i = valued s _ a (Value BooleanType) (truth_judged s (place front) b) (ap (λ z. Some z) (sym i))
  operand_valued s front types NullOperand a h few i = valued s _ a (Value NullType) (null_judged s (place front)) (ap (λ z. Some z) (sym i))
  operand_valued s front types (Local n) a h few i = let m = local_meant s types n a h few i.0 in valued s _ a (Variable a) (local_judged s (place front) (local_name n) m.0 a m.1 i.1) refl

  -- ---- lines

  -- the line, in the scope that it leaves
  record Goes (s : Scope) (types : List JavaType) (e : Tree) : Type 0 where
    unbroken : (judged s e).faults ≡ []
    locals : HasLocals (after s e) types
    table : (after s e).table ≡ s.table
    result : (after s e).result ≡ s.result

  with_locals : (s : Scope) (types : List JavaType) (k : Tree) (n : ℕ) (a : JavaType) → HasLocals s types → n ≡ length types → type_named s.table.headings k ≡ a → HasLocals (with_local s k (local_name n)) (a ∷ types)
  with_locals s types k n a h e named = record {
    locals = ap (λ (ls : List ScopeLocal). record { name = local_name n; type = type_named s.table.headings k } ∷ ls) h.locals
        ∙ (ap (λ (z : JavaType). record { name = local_name n; type = z } ∷ locals_of local_name types) named ∙ ap (λ (j : ℕ). record { name = local_name j; type = a } ∷ locals_of local_name types) e);
    code = h.code;
  }

  same_class : (t : Table) (c : ℕ) → is_assignable t (ClassType c) (ClassType c) ≡ true
  same_class t c = Rattle.std.proofs.lemmas.Bool.or_left (Rattle.std.specs.Prelude.nat_eq c c) _ (grind (arith, rules))

  line_goes : (s : Scope) (front : List ℕ) (types : List JavaType) (line : Line) → HasLocals s types → length types < 9223372036854775808 → Fits s.table types line → Goes s (types_after s.table types line) (statement_tree place front line)
  line_goes s front types (Creates t n) h few f =
      let k = type_tree (place front) t in
      let named : type_named s.table.headings k ≡ ClassType f.1.class = anywhere s.table.headings (place front) t ∙ f.1.named in
      let s2 = with_local s k (local_name n) in
      let start = created_start (type_end front t) n in
      let made = creation_judged s2 (place (new_start (type_end front t) n)) (type_tree (place start) t) f.1.class (simple (place start) t) (anywhere s.table.headings (place start) t ∙ f.1.named) f.1.plain h.code in
      record {
        unbroken = local_unbroken s (place front) (place (type_end front t ++ codes " ")) k _ (local_name n) (ClassType f.1.class) (ap (λ (z : Judged). z.faults) (type_judged s k (ClassType f.1.class) (simple (place front) t) named refl))
            (local_new s types n h (omega (arith, few)) f.0) (valued s2 _ (ClassType f.1.class) (Value (ClassType f.1.class)) made refl) (ap (is_assignable s.table (ClassType f.1.class)) named ∙ same_class s.table f.1.class);
        locals = with_locals s types k n (meant_type s.table t) h f.0 (anywhere s.table.headings (place front) t);
        table = refl;
        result = refl;
      }
  line_goes s front types (CreatesArray t n (pos l)) h few f =
      let k = type_tree (place front) t in
      let a = meant_type s.table t in
      let named : type_named s.table.headings k ≡ meant_type s.table t = anywhere s.table.headings (place front) t in
      let s2 = with_local s (trees.ArrayType (place front) k) (local_name n) in
      let start = created_start (array_end front t) n in
      let made = array_judged s2 (place (new_start (array_end front t) n)) (type_tree (place start) t) _ (meant_type s.table t) (simple (place start) t) (anywhere s.table.headings (place start) t) f.1 (number_judged (value s2) (place (length_start front n t)) l f.2) h.code in
      record {
        unbroken = local_unbroken s (place front) (place (array_end front t ++ codes " ")) (trees.ArrayType (place front) k) _ (local_name n) (ArrayType a) (array_unbroken s (place front) k a (type_judged s k a (simple (place front) t) named f.1))
            (local_new s types n h (omega (arith, few)) f.0) (valued s2 _ (ArrayType a) (Value (ArrayType a)) made refl) (ap (λ (z : JavaType). is_assignable s.table (ArrayType a) (ArrayType z)) named ∙ same_type a);
        locals = with_locals s types (trees.ArrayType (place front) k) n (ArrayType a) h f.0 (ap ArrayType named);
        table = refl;
        result = refl;
      }
  line_goes s front types (CreatesArray t n (negsuc l)) h few f = absurd f
  line_goes s front types (SetsField n name v) h few f =
      let m = local_meant s types n (ClassType f.1.class) h (omega (arith, few)) f.1.local in
      let target = field_judged (value s) (place front) (place front) (local_name n) name m.0 f.1.class f.0 m.1 f.1.found f.1.instance f.1.known in
      record {
        unbroken = set_unbroken s (place front) (place front) _ _ f.0.type f.2.type target (operand_valued (value s) (field_start front n name) types v f.2.type (record { locals = h.locals; code = h.code }) (omega (arith, few)) f.2.operand) f.2.assignable h.code;
        locals = h;
        table = refl;
        result = refl;
      }
  line_goes s front types (SetsElement n i v) h few f =
      let m = local_meant s types n (ArrayType f.0) h (omega (arith, few)) f.1 in
      let target = element_judged (value s) (place front) (place front) (place (front ++ local_name n ++ codes "[")) (local_name n) i m.0 f.0 m.1 f.2 f.3 in
      record {
        unbroken = set_unbroken s (place front) (place front) _ _ f.0 f.4.type target (operand_valued (value s) (element_start front n i) types v f.4.type (record { locals = h.locals; code = h.code }) (omega (arith, few)) f.4.operand) f.4.assignable h.code;
        locals = h;
        table = refl;
        result = refl;
      }

  -- ---- bodies

  longer : (t : Table) (types : List JavaType) (line : Line) → length (types_after t types line) ≤ suc (length types)
  longer t types (Creates k n) = omega arith
  longer t types (CreatesArray k n l) = omega arith
  longer t types (SetsField n name v) = omega arith
  longer t types (SetsElement n i v) = omega arith

  lines_unbroken : (s : Scope) (front : List ℕ) (types : List JavaType) (lines : List Line) → HasLocals s types → length types + length lines ≤ 9223372036854775808 → LinesFit s.table s.result types lines → (judged s (body_tree place front lines)).faults ≡ []
  unfolding judged
  lines_unbroken s front types [] h few f =
      let m = local_meant s types 0 f.type h (omega (arith, few)) f.local in
      ap (λ (fs : List Fault). fs ++ []) (return_unbroken s (place (line_start front)) (place (line_start front ++ codes "return" ++ codes " ")) (local_name 0) m.0 f.type m.1 f.known (or_right (not (is_known s.result)) (is_assignable s.table f.type s.result) f.assignable))
  lines_unbroken s front types (line ∷ lines) h few f =
      let e = statement_tree place (line_start front) line in
      let rest = body_tree place (statement_end (line_start front) line) lines in
      let g = line_goes s (line_start front) types line h (omega (arith, few)) f.0 in
      let fit = subst (λ (t : Table). LinesFit t (after s e).result (types_after s.table types line) lines) (sym g.table) (subst (λ (r : JavaType). LinesFit s.table r (types_after s.table types line) lines) (sym g.result) f.1) in
      ap (λ (fs : List Fault). fs ++ (judged (after s e) rest).faults) g.unbroken
      ∙ lines_unbroken (after s e) (statement_end (line_start front) line) (types_after s.table types line) lines g.locals (omega (arith, few, longer s.table types line)) fit

  -- ---- methods

  methods_unbroken : (s : Scope) (front : List ℕ) (n : ℕ) (builders : List Builder) → s.locals ≡ [] → is_code s.part ≡ true → AllByRecursion (BuilderFits s.table) builders → (judged s (methods_tree place front n builders)).faults ≡ []
  unfolding judged
  methods_unbroken s front n [] l code f = refl
  methods_unbroken s front n (b ∷ bs) l code f =
      let r = type_tree (place (result_start front b)) b.type in
      let a = meant_type s.table b.type in
      let inner = lines_unbroken (body_scope s a) (body_start front n b) [] b.lines (record { locals = l; code = code }) (omega (arith, f.0.few)) f.0.lines in
      ap (λ (fs : List Fault). fs ++ (judged s (methods_tree place (method_end front n b) (n + 1) bs)).faults)
      (method_unbroken s (place (result_end front b ++ codes " ")) (place (result_end front b ++ codes " ")) (method_name n) r (body_tree place (body_start front n b) b.lines) a (simple (place (result_start front b)) b.type) (anywhere s.table.headings (place (result_start front b)) b.type) f.0.known inner)
      ∙ methods_unbroken s (method_end front n b) (n + 1) bs l code f.1

pub methods_law : MethodsLaw
methods_law place front n s builders l code f = methods_unbroken place s front n builders l code f
