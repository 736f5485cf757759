-- Code of the grammar's shape, whose created array types have numbers.
use Rattle.std.proofs.Common.{◌≡◌, refl, sym, ap, ◌∙◌, subst, inl, inr, ◌⊎◌, ℕ, ◌+◌, Bool, true, false, ◌||◌, List, [], ◌∷◌, ◌++◌, Some}
use Rattle.std.specs.Prelude.{flat_map, if◌then◌else◌}
use Rattle.std.proofs.lemmas.Bool.{or_cases, or_right, or_left}
use Rattle.kr_ast.specs.Tree as trees
use Rattle.kr_ast.specs.Tree.{Tree}
use Rattle.kr_classes_table.specs.Nodes.{nodes}
use Rattle.kr_classes_table.specs.Types.{JavaType, ArrayType, is_same}
use Rattle.kr_classes_table.specs.Table.{Heading, items, headings_of, type_named}
use Rattle.kr_classes_table.specs.Arrays.{arrays_in, arrays_named, is_listed, once, array_types_of, array_number_from, array_number}
use Rattle.kr_types_meaning.specs.Scopes.{Scope, Declaring, Locals, Fields, Constants, in_old, bind_local, bind_as, declaring, after}
use Rattle.kr_types_meaning.specs.Rules.{is_after_body}
use Rattle.kr_laws_types.specs.DerivedExpressions.{Shaped}
use Rattle.kr_laws_types.specs.Derivation as shapes
use Rattle.kr_laws_types.specs.Derivation.{MayBeExpression, AreDeclarators, One, Several}
use Rattle.kr_laws_types.specs.Shapes.{Sort, Expression, Expressions, Statement, Statements, Declarators, Catch, Catches, HasNumber, IsCode}
use Rattle.kr_laws_types.specs.Expressions.{plain}
use Rattle.kr_laws_runs.proofs.Respects.{AllOf, all_front, all_back}
use Rattle.kr_laws_safety.proofs.Heaps.{same_type}
use Rattle.kr_laws_safety.proofs.Vectors.{type_same}
use Rattle.kr_laws_safety.specs.Typed.{Olds}
use Rattle.kr_laws_never_stuck.proofs.Shaped.{AreStatements}

-- ---- numbers of array types

-- a node whose array type, if it creates one, has a number
abbrev pub IsNumbered : List JavaType → List Heading → Tree → Type 0
IsNumbered arrays hs (trees.ArrayCreation p t e) = HasNumber arrays (type_named hs t)
IsNumbered arrays hs t = Unit {0}

pub listed_front : (t : JavaType) (xs ys : List JavaType) → is_listed t xs ≡ true → is_listed t (xs ++ ys) ≡ true
listed_front t [] ys h = absurd (cc (h))
listed_front t (x ∷ xs) ys h = go (or_cases (is_same t x) (is_listed t xs) h) (listed_front t xs ys)
  where
    go : (is_same t x ≡ true) ⊎ (is_listed t xs ≡ true) → (is_listed t xs ≡ true → is_listed t (xs ++ ys) ≡ true) → is_listed t (x ∷ xs ++ ys) ≡ true
    go (inl e) r = or_left (is_same t x) (is_listed t (xs ++ ys)) e
    go (inr e) r = or_right (is_same t x) (is_listed t (xs ++ ys)) (r e)

pub listed_back : (t : JavaType) (xs ys : List JavaType) → is_listed t ys ≡ true → is_listed t (xs ++ ys) ≡ true
listed_back t [] ys h = h
listed_back t (x ∷ xs) ys h = or_right (is_same t x) (is_listed t (xs ++ ys)) (listed_back t xs ys h)

-- a type among some occurs once, or was there before
pub listed_once : (t : JavaType) (seen xs : List JavaType) → is_listed t xs ≡ true → (is_listed t (once seen xs) ≡ true) ⊎ (is_listed t seen ≡ true)
listed_once t seen [] h = absurd (cc (h))
listed_once t seen (x ∷ xs) h = go (is_listed x seen) refl (or_cases (is_same t x) (is_listed t xs) h) (listed_once t seen xs) (listed_once t (x ∷ seen) xs)
  where
    later : (is_listed t (once (x ∷ seen) xs) ≡ true) ⊎ (is_listed t (x ∷ seen) ≡ true) → (is_listed t (x ∷ once (x ∷ seen) xs) ≡ true) ⊎ (is_listed t seen ≡ true)
    later (inl e) = inl (or_right (is_same t x) (is_listed t (once (x ∷ seen) xs)) e)
    later (inr e) = split (or_cases (is_same t x) (is_listed t seen) e)
      where
        split : (is_same t x ≡ true) ⊎ (is_listed t seen ≡ true) → (is_listed t (x ∷ once (x ∷ seen) xs) ≡ true) ⊎ (is_listed t seen ≡ true)
        split (inl e) = inl (or_left (is_same t x) (is_listed t (once (x ∷ seen) xs)) e)
        split (inr e) = inr e

    go : (b : Bool) → is_listed x seen ≡ b → (is_same t x ≡ true) ⊎ (is_listed t xs ≡ true) → (is_listed t xs ≡ true → (is_listed t (once seen xs) ≡ true) ⊎ (is_listed t seen ≡ true)) → (is_listed t xs ≡ true → (is_listed t (once (x ∷ seen) xs) ≡ true) ⊎ (is_listed t (x ∷ seen) ≡ true))
        → (is_listed t (if b then once seen xs else x ∷ once (x ∷ seen) xs) ≡ true) ⊎ (is_listed t seen ≡ true)
    go true q (inl e) r s = inr (ap (λ (u : JavaType). is_listed u seen) (same_type t x e) ∙ q)
    go true q (inr e) r s = r e
    go false q (inl e) r s = inl (or_left (is_same t x) (is_listed t (once (x ∷ seen) xs)) e)
    go false q (inr e) r s = later (s e)

-- a listed type has a number
listed_number : (k : ℕ) (t : JavaType) (xs : List JavaType) → is_listed t xs ≡ true → (n : ℕ) × (array_number_from k xs t ≡ Some n)
listed_number k t [] h = absurd (cc (h))
listed_number k t (x ∷ xs) h = go (is_same t x) refl h (listed_number (k + 1) t xs)
  where
    go : (b : Bool) → is_same t x ≡ b → (b || is_listed t xs) ≡ true → (is_listed t xs ≡ true → (n : ℕ) × (array_number_from (k + 1) xs t ≡ Some n)) → (n : ℕ) × ((if b then Some k else array_number_from (k + 1) xs t) ≡ Some n)
    go true q h r = (k, refl)
    go false q h r = r h

all_numbered : (arrays : List JavaType) (hs : List Heading) (ns : List Tree) → ((t : JavaType) → is_listed t (flat_map (arrays_named hs) ns) ≡ true → (k : ℕ) × (array_number arrays t ≡ Some k)) → AllOf (IsNumbered arrays hs) ns
all_numbered arrays hs [] h = tt
all_numbered arrays hs (n ∷ ns) h = (here n h, all_numbered arrays hs ns (λ t i. h t (listed_back t (arrays_named hs n) (flat_map (arrays_named hs) ns) i)))
  where
    here : (n : Tree) → ((t : JavaType) → is_listed t (arrays_named hs n ++ flat_map (arrays_named hs) ns) ≡ true → (k : ℕ) × (array_number arrays t ≡ Some k)) → IsNumbered arrays hs n
    here (trees.ArrayCreation p t e) h =
        let u = type_named hs t in
        h (ArrayType u) (listed_front (ArrayType u) (arrays_in u ++ ArrayType u ∷ []) (flat_map (arrays_named hs) ns) (listed_back (ArrayType u) (arrays_in u) (ArrayType u ∷ []) (or_left (is_same u u) false (type_same u))))
    here _ h = tt

-- the array types that the files name have numbers, followed by those of a finitization
pub files_numbered : (files : List Tree) (more : List JavaType) → AllOf (IsNumbered (array_types_of files ++ more) (headings_of files)) (flat_map nodes files)
files_numbered files more = all_numbered (array_types_of files ++ more) (headings_of files) (flat_map nodes files) (λ t h. listed_number 0 t (array_types_of files ++ more) (listed_front t (array_types_of files) more (once_only t (listed_once t [] (flat_map (arrays_named (headings_of files)) (flat_map nodes files)) h))))
  where
    once_only : (t : JavaType) → (is_listed t (array_types_of files) ≡ true) ⊎ (false ≡ true) → is_listed t (array_types_of files) ≡ true
    once_only t (inl e) = e
    once_only t (inr e) = absurd (cc (e))

-- ---- expressions

module _ (arrays : List JavaType) (olds : Olds) (hs : List Heading) where
  abbrev pub All : Tree → Type 0
  All t = AllOf (IsNumbered arrays hs) (nodes t)

  front : (xs ys : List Tree) → AllOf (IsNumbered arrays hs) (xs ++ ys) → AllOf (IsNumbered arrays hs) xs
  front xs ys h = all_front (IsNumbered arrays hs) xs ys h

  back : (xs ys : List Tree) → AllOf (IsNumbered arrays hs) (xs ++ ys) → AllOf (IsNumbered arrays hs) ys
  back xs ys h = all_back (IsNumbered arrays hs) xs ys h

  -- a scope of the program, and of no condition after a body
  abbrev pub IsPlain : Scope → Type 0
  IsPlain s = (s.table.headings ≡ hs) × (is_after_body s.part ≡ false)

  abbrev Shape : Sort → Tree → Type 0
  Shape (Expression m) e = Shaped false e
  Shape Expressions e = Shaped true e
  Shape sort e = ⊥

  pub expression_code : (sort : Sort) (s : Scope) (e : Tree) → IsPlain s → Shape sort e → All e → IsCode arrays olds sort s e
  expression_code (Expression m) s (trees.Number p n) k h a = tt
  expression_code (Expression m) s (trees.LongNumber p n) k h a = tt
  expression_code (Expression m) s (trees.Truth p b) k h a = tt
  expression_code (Expression m) s (trees.Null p) k h a = tt
  expression_code (Expression m) s (trees.This p) k h a = tt
  expression_code (Expression m) s (trees.Variable p n) k h a = tt
  expression_code (Expression m) s (trees.FieldAccess p e n) k h a = expression_code (Expression false) s e k h a.1
  expression_code (Expression m) s (trees.ArrayAccess p x y) k h a = (expression_code (Expression false) s x k h.0 (front (nodes x) (nodes y) a.1), expression_code (Expression false) s y k h.1 (back (nodes x) (nodes y) a.1))
  expression_code (Expression m) s (trees.Call p n es) k h a = expression_code Expressions s es k h a.1
  expression_code (Expression m) s (trees.MethodCall p e n es) k h a = (expression_code (Expression false) s e k h.0 (front (nodes e) (nodes es) a.1), expression_code Expressions s es k h.1 (back (nodes e) (nodes es) a.1))
  expression_code (Expression m) s (trees.SuperCall p n es) k h a = expression_code Expressions s es k h a.1
  expression_code (Expression m) s (trees.ObjectCreation p t es) k h a = (h.0, expression_code Expressions s es k h.1 (back (nodes t) (nodes es) a.1))
  expression_code (Expression m) s (trees.ArrayCreation p t e) k h a = (h.0, subst (λ (z : List Heading). HasNumber arrays (type_named z t)) (sym k.0) a.0, expression_code (Expression false) s e k h.1 (back (nodes t) (nodes e) a.1))
  expression_code (Expression m) s (trees.Unary p o e) k h a = expression_code (Expression false) s e k h a.1
  expression_code (Expression m) s (trees.Step p o e) k h a = expression_code (Expression false) s e k h a.1
  expression_code (Expression m) s (trees.Binary p o x y) k h a = (expression_code (Expression false) s x k h.0 (front (nodes x) (nodes y) a.1), expression_code (Expression false) s y k h.1 (back (nodes x) (nodes y) a.1))
  expression_code (Expression m) s (trees.InstanceOf p e t) k h a = (expression_code (Expression false) s e k h.0 (front (nodes e) (nodes t) a.1), h.1)
  expression_code (Expression m) s (trees.Conditional p c x y) k h a =
      let f = front (nodes c ++ nodes x) (nodes y) a.1 in
      (expression_code (Expression false) s c k h.0 (front (nodes c) (nodes x) f), expression_code (Expression false) s x k h.1 (back (nodes c) (nodes x) f), expression_code (Expression false) s y k h.2 (back (nodes c ++ nodes x) (nodes y) a.1))
  expression_code (Expression m) s (trees.Cast p t e) k h a = (h.0, expression_code (Expression false) s e k h.1 (back (nodes t) (nodes e) a.1))
  expression_code (Expression m) s (trees.Assignment p x y) k h a = (expression_code (Expression false) s x k h.0 (front (nodes x) (nodes y) a.1), expression_code (Expression false) s y k h.1 (back (nodes x) (nodes y) a.1))
  expression_code (Expression m) s (trees.CompoundAssignment p o x y) k h a = (h.0, expression_code (Expression false) s x k h.1 (front (nodes x) (nodes y) a.1), expression_code (Expression false) s y k h.2 (back (nodes x) (nodes y) a.1))
  expression_code (Expression m) s (trees.Result p) k h a = tt
  expression_code (Expression m) s (trees.Old p e) k h a = (λ n. absurd (cc (n, k.1)), expression_code (Expression false) (in_old s) e k h a.1)
  expression_code (Expression m) s _ k h a = absurd h
  expression_code Expressions s trees.Nil k h a = tt
  expression_code Expressions s (trees.Cons x y) k h a = (expression_code (Expression false) s x k h.0 (front (nodes x) (nodes y) a), expression_code Expressions s y k h.1 (back (nodes x) (nodes y) a))
  expression_code Expressions s _ k h a = absurd h
  expression_code _ s e k h a = absurd h

  -- one that may be absent
  pub maybe_code : (s : Scope) (e : Tree) → IsPlain s → MayBeExpression e → All e → IsCode arrays olds (Expression true) s e
  maybe_code s e k (inl q) a = subst (λ (z : Tree). IsCode arrays olds (Expression true) s z) (sym q) refl
  maybe_code s e k (inr h) a = expression_code (Expression true) s e k h a

  -- ---- statements

  bind_plain : (what : Declaring) (n : List ℕ) (s : Scope) → IsPlain s → IsPlain (bind_as what n s)
  bind_plain Locals n s k = k
  bind_plain Fields n s k = k
  bind_plain (Constants f) n s k = k

  after_plain : (s : Scope) (t : Tree) → IsPlain s → IsPlain (after s t)
  after_plain s (trees.Cons a b) k = after_plain (after s a) b (after_plain s a k)
  after_plain s (trees.Local p t ds) k = after_plain (declaring Locals t s) ds k
  after_plain s (trees.Declarator p n e) k = bind_plain s.declaring n s k
  after_plain s (trees.Parameter p t n) k = k
  after_plain s (trees.Signature p r ps cs) k = after_plain s ps k
  after_plain s _ k = k

  declarators_code : (s : Scope) (ds : Tree) → IsPlain s → AreDeclarators ds → All ds → IsCode arrays olds Declarators s ds
  declarators_code s trees.Nil k h a = tt
  declarators_code s (trees.Cons (trees.Declarator p n e) b) k h a =
      let f = front (nodes (trees.Declarator p n e)) (nodes b) a in
      (maybe_code (bind_local n s.declared s) e k h.0 f.1, declarators_code (after s (trees.Declarator p n e)) b (after_plain s (trees.Declarator p n e) k) h.1 (back (nodes (trees.Declarator p n e)) (nodes b) a))
  declarators_code s (trees.Cons _ b) k h a = absurd h.0
  declarators_code s _ k h a = absurd h

  abbrev Of : shapes.Sort → Sort
  Of (One d) = Statement d
  Of Several = Statements
  Of shapes.Catch = Catch
  Of shapes.Catches = Catches

  pub statement_code : (sort : shapes.Sort) (s : Scope) (t : Tree) → IsPlain s → shapes.IsCode sort t → All t → IsCode arrays olds (Of sort) s t
  statement_code Several s trees.Nil k h a = tt
  statement_code Several s (trees.Cons x y) k h a = (statement_code (One true) s x k h.0 (front (nodes x) (nodes y) a), statement_code Several (after s x) y (after_plain s x k) h.1 (back (nodes x) (nodes y) a))
  statement_code Several s _ k h a = absurd h
  statement_code (One d) s (trees.Local p t ds) k h a = (h.0, h.1, declarators_code (declaring Locals t s) ds k h.2 (back (nodes t) (nodes ds) a.1))
  statement_code (One d) s (trees.Empty p) k h a = tt
  statement_code (One d) s (trees.Block p ts) k h a = statement_code Several s ts k h a.1
  statement_code (One d) s (trees.ExpressionStatement p e) k h a = expression_code (Expression false) s e k h a.1
  statement_code (One d) s (trees.Return p e) k h a = maybe_code s e k h a.1
  statement_code (One d) s (trees.Break p) k h a = tt
  statement_code (One d) s (trees.Continue p) k h a = tt
  statement_code (One d) s (trees.IfThen p c x) k h a = (expression_code (Expression false) s c k h.0 (front (nodes c) (nodes x) a.1), statement_code (One false) s x k h.1 (back (nodes c) (nodes x) a.1))
  statement_code (One d) s (trees.IfElse p c x y) k h a =
      let f = front (nodes c ++ nodes x) (nodes y) a.1 in
      (expression_code (Expression false) s c k h.0 (front (nodes c) (nodes x) f), statement_code (One false) s x k h.1 (back (nodes c) (nodes x) f), statement_code (One false) s y k h.2 (back (nodes c ++ nodes x) (nodes y) a.1))
  statement_code (One d) s (trees.While p c x) k h a = (expression_code (Expression false) s c k h.0 (front (nodes c) (nodes x) a.1), statement_code (One false) s x k h.1 (back (nodes c) (nodes x) a.1))
  statement_code (One d) s (trees.Do p x c) k h a = (statement_code (One false) s x k h.0 (front (nodes x) (nodes c) a.1), expression_code (Expression false) s c k h.1 (back (nodes x) (nodes c) a.1))
  statement_code (One d) s (trees.For p i c u x) k h a =
      let w = after s i in
      let kw = after_plain s i k in
      let f = front (nodes i ++ nodes c ++ nodes u) (nodes x) a.1 in
      let g = front (nodes i ++ nodes c) (nodes u) f in (
        statement_code Several s i k h.0 (front (nodes i) (nodes c) g),
        maybe_code w c kw h.1 (back (nodes i) (nodes c) g),
        expression_code Expressions w u kw h.2 (back (nodes i ++ nodes c) (nodes u) f),
        statement_code (One false) w x kw h.3 (back (nodes i ++ nodes c ++ nodes u) (nodes x) a.1),
      )
  statement_code (One d) s (trees.Throw p e) k h a = expression_code (Expression false) s e k h a.1
  statement_code (One d) s (trees.Try p x cs) k h a = (h.0, statement_code (One false) s x k h.1 (front (nodes x) (nodes cs) a.1), statement_code shapes.Catches s cs k h.2 (back (nodes x) (nodes cs) a.1))
  statement_code (One d) s _ k h a = absurd h
  statement_code shapes.Catch s (trees.Catch p d x) k h a = (h.0, statement_code (One false) (after s d) x (after_plain s d k) h.1 (back (nodes d) (nodes x) a.1))
  statement_code shapes.Catch s _ k h a = absurd h
  statement_code shapes.Catches s trees.Nil k h a = tt
  statement_code shapes.Catches s (trees.Cons x y) k h a = (statement_code shapes.Catch s x k h.0 (front (nodes x) (nodes y) a), statement_code shapes.Catches s y k h.1 (back (nodes x) (nodes y) a))
  statement_code shapes.Catches s _ k h a = absurd h

  -- those of a body
  pub body_code : (s : Scope) (b : Tree) → IsPlain s → shapes.IsCode Several b → All b → AreStatements arrays olds s (items b)
  body_code s trees.Nil k h a = tt
  body_code s (trees.Cons x y) k h a = (statement_code (One true) (plain s) x k h.0 (front (nodes x) (nodes y) a), body_code (after s x) y (after_plain s x k) h.1 (back (nodes x) (nodes y) a))
  body_code s _ k h a = absurd h
