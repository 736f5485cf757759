-- The array types that builders name are numbered in their program.
use Rattle.std.proofs.Common.{◌≡◌, ℕ, suc, ◌+◌, ◌⊎◌, inl, inr, Bool, true, false, ◌||◌, List, [], ◌∷◌, ◌++◌, get_or, Some, refl, sym, ap, ◌∙◌, arith, subst}
use Rattle.std.specs.Prelude.{codes, flat_map, not, ℤ, if◌then◌else◌}
use Rattle.std.specs.List.{position_or_len}
use Rattle.std.proofs.lemmas.Bool.{cases_Bool, or_left, or_right}
use Rattle.std.proofs.lemmas.List.Concat.{flat_map-append}
use Rattle.kr_base.specs.declared.place.Place.{Place}
use Rattle.kr_ast.specs.Tree as trees
use Rattle.kr_ast.specs.Tree.{Tree, Nil}
use Rattle.kr_classes_table.specs.Arrays.{array_number, array_number_from, array_types_of, arrays_in, arrays_named, is_listed, once}
use Rattle.kr_classes_table.specs.Nodes.{nodes}
use Rattle.kr_classes_table.specs.Table.{Heading, headings_of, type_named}
use Rattle.kr_classes_table.specs.Types.{JavaType, ArrayType, VoidType, is_same}
use Rattle.kr_laws_safety.proofs.Heaps.{same_type}
use Rattle.kr_laws_safety.proofs.Vectors.{type_same}
use Rattle.kr_laws_pruning.proofs.Membership.{Has}
use Rattle.kr_laws_never_stuck.proofs.Codes.{listed_back, listed_front}
use Rattle.kr_emit_laws.specs.Pieces as pieces
use Rattle.kr_emit_laws.specs.Pieces.{after_pieces}
use Rattle.kr_emit_laws.specs.Syntax.{Builder, CreatesArray, Line, TypeName}
use Rattle.kr_emit_laws.specs.BuilderTree.{body_start, body_tree, file_tree, line_start, method_end, methods_tree, result_end, result_start, statement_end, statement_tree, type_tree, class_tree}

agree : (s t : JavaType) → is_same s t ≡ is_same t s
agree s t = go (cases_Bool (is_same s t)) (cases_Bool (is_same t s))
  where
    go : (is_same s t ≡ true) ⊎ (is_same s t ≡ false) → (is_same t s ≡ true) ⊎ (is_same t s ≡ false) → is_same s t ≡ is_same t s
    go (inl a) (inl b) = a ∙ sym b
    go (inr a) (inr b) = a ∙ sym b
    go (inl a) (inr b) = absurd (cc (b, ap (λ (u : JavaType). is_same t u) (same_type s t a) ∙ type_same t))
    go (inr a) (inl b) = absurd (cc (a, ap (λ (u : JavaType). is_same s u) (same_type t s b) ∙ type_same s))

-- ---- numbers

abbrev position : JavaType → List JavaType → ℕ
position t types = position_or_len (λ u. is_same u t) types

first_position : (t u : JavaType) (us : List JavaType) → is_same t u ≡ true → position t (u ∷ us) ≡ 0
first_position t u us e = ap (λ (b : Bool). let n : ℕ = if not b then 1 + position t us else 0 in n) (agree u t ∙ e)

later_position : (t u : JavaType) (us : List JavaType) → is_same t u ≡ false → position t (u ∷ us) ≡ suc (position t us)
later_position t u us e = ap (λ (b : Bool). let n : ℕ = if not b then 1 + position t us else 0 in n) (agree u t ∙ e) ∙ omega arith

number_from : (k : ℕ) (types : List JavaType) (t : JavaType) → is_listed t types ≡ true → array_number_from k types t ≡ Some (k + position_or_len (λ u. is_same u t) types)
number_from k [] t h = absurd (cc (h))
number_from k (u ∷ us) t h = go (is_same t u) refl h (λ i. number_from (k + 1) us t i)
  where
    go : (b : Bool) → is_same t u ≡ b → (b || is_listed t us) ≡ true → (is_listed t us ≡ true → array_number_from (k + 1) us t ≡ Some (k + 1 + position t us)) → (if b then Some k else array_number_from (k + 1) us t) ≡ Some (k + position t (u ∷ us))
    go true q h r = ap (λ (n : ℕ). Some n) (omega (arith, first_position t u us q))
    go false q h r = r h ∙ ap (λ (n : ℕ). Some n) (omega (arith, later_position t u us q))

pub number_is : (types : List JavaType) (t : JavaType) → is_listed t types ≡ true → array_number types t ≡ Some (position_or_len (λ u. is_same u t) types)
number_is types t h = number_from 0 types t h ∙ ap (λ (n : ℕ). Some n) (omega arith)

pub type_there : (types : List JavaType) (t : JavaType) → is_listed t types ≡ true → is_same (get_or types (position_or_len (λ u. is_same u t) types) VoidType) t ≡ true
type_there [] t h = absurd (cc (h))
type_there (u ∷ us) t h = go (is_same t u) refl h (λ i. type_there us t i)
  where
    go : (b : Bool) → is_same t u ≡ b → (b || is_listed t us) ≡ true → (is_listed t us ≡ true → is_same (get_or us (position t us) VoidType) t ≡ true) → is_same (get_or (u ∷ us) (position t (u ∷ us)) VoidType) t ≡ true
    go true q h r = ap (λ (n : ℕ). is_same (get_or (u ∷ us) n VoidType) t) (first_position t u us q) ∙ (agree u t ∙ q)
    go false q h r = ap (λ (n : ℕ). is_same (get_or (u ∷ us) n VoidType) t) (later_position t u us q) ∙ r h

-- ---- listed types

-- a type of a list is one of those that are listed once, or was seen before
pub listed_once : (t : JavaType) (seen xs : List JavaType) → is_listed t xs ≡ true → (is_listed t seen ≡ true) ⊎ (is_listed t (once seen xs) ≡ true)
listed_once t seen [] h = absurd (cc (h))
listed_once t seen (x ∷ xs) h = go (is_listed x seen) refl (is_same t x) refl h (λ i. listed_once t seen xs i) (λ i. listed_once t (x ∷ seen) xs i)
  where
    two : (b : Bool) → is_same t x ≡ b → (is_listed t (x ∷ seen) ≡ true) ⊎ (is_listed t (once (x ∷ seen) xs) ≡ true) → (is_listed t seen ≡ true) ⊎ ((is_same t x || is_listed t (once (x ∷ seen) xs)) ≡ true)
    two true q r = inr (or_left (is_same t x) (is_listed t (once (x ∷ seen) xs)) q)
    two false q (inl i) = inl (ap (λ (b : Bool). b || is_listed t seen) (sym q) ∙ i)
    two false q (inr i) = inr (or_right (is_same t x) (is_listed t (once (x ∷ seen) xs)) i)

    go : (c : Bool) → is_listed x seen ≡ c → (b : Bool) → is_same t x ≡ b → (b || is_listed t xs) ≡ true → (is_listed t xs ≡ true → (is_listed t seen ≡ true) ⊎ (is_listed t (once seen xs) ≡ true))
        → (is_listed t xs ≡ true → (is_listed t (x ∷ seen) ≡ true) ⊎ (is_listed t (once (x ∷ seen) xs) ≡ true)) → (is_listed t seen ≡ true) ⊎ (is_listed t (if c then once seen xs else x ∷ once (x ∷ seen) xs) ≡ true)
    go true c true q h r l = inl (ap (λ (u : JavaType). is_listed u seen) (same_type t x q) ∙ c)
    go true c false q h r l = r h
    go false c true q h r l = inr (or_left (is_same t x) (is_listed t (once (x ∷ seen) xs)) q)
    go false c false q h r l = two false q (l h)

-- ---- in the tree of builders

module _ (hs : List Heading) (name : TypeName) (e : JavaType) (means : (p : Place) → type_named hs (type_tree p name) ≡ e) (at : List ℕ → Place) where
  abbrev Lists : List Tree → Type 0
  Lists ns = is_listed (ArrayType e) (flat_map (arrays_named hs) ns) ≡ true

  lists_first : (xs ys : List Tree) → Lists xs → Lists (xs ++ ys)
  lists_first xs ys h = ap (is_listed (ArrayType e)) (flat_map-append (arrays_named hs) xs ys) ∙ listed_front (ArrayType e) (flat_map (arrays_named hs) xs) (flat_map (arrays_named hs) ys) h

  lists_last : (xs ys : List Tree) → Lists ys → Lists (xs ++ ys)
  lists_last xs ys h = ap (is_listed (ArrayType e)) (flat_map-append (arrays_named hs) xs ys) ∙ listed_back (ArrayType e) (flat_map (arrays_named hs) xs) (flat_map (arrays_named hs) ys) h

  named : (p : Place) → is_listed (ArrayType e) (arrays_named hs (trees.ArrayType p (type_tree p name))) ≡ true
  named p =
      ap (λ (t : JavaType). is_listed (ArrayType e) (arrays_in t ++ ArrayType t ∷ [])) (means p)
      ∙ listed_back (ArrayType e) (arrays_in e) (ArrayType e ∷ []) (or_left (is_same (ArrayType e) (ArrayType e)) false (type_same (ArrayType e)))

  in_line : (front : List ℕ) (n : ℕ) (size : ℤ) → Lists (nodes (statement_tree at front (CreatesArray name n size)))
  in_line front n size = listed_front (ArrayType e) (arrays_named hs (trees.ArrayType (at front) (type_tree (at front) name))) _ (named (at front))

  in_body : (front : List ℕ) (lines : List Line) (n : ℕ) (size : ℤ) → Has (CreatesArray name n size) lines → Lists (nodes (body_tree at front lines))
  in_body front [] n size h = absurd h
  in_body front (line ∷ rest) n size (inl q) =
      let start : List ℕ = line_start front in
      lists_first (nodes (statement_tree at start line)) (nodes (body_tree at (statement_end start line) rest)) (subst (λ (l : Line). Lists (nodes (statement_tree at start l))) (sym q) (in_line start n size))
  in_body front (line ∷ rest) n size (inr i) =
      let start : List ℕ = line_start front in
      lists_last (nodes (statement_tree at start line)) (nodes (body_tree at (statement_end start line) rest)) (in_body (statement_end start line) rest n size i)

  abbrev signature_at : List ℕ → Builder → Tree
  signature_at front b = trees.Signature (at (result_end front b ++ codes " ")) (type_tree (at (result_start front b)) b.type) Nil Nil

  abbrev method_at : List ℕ → ℕ → Builder → Tree
  method_at front k b = trees.Method (at (result_end front b ++ codes " ")) true (pieces.method_name k) (signature_at front b) (body_tree at (body_start front k b) b.lines)

  in_methods : (front : List ℕ) (k : ℕ) (bs : List Builder) (b : Builder) (n : ℕ) (size : ℤ) → Has b bs → Has (CreatesArray name n size) b.lines → Lists (nodes (methods_tree at front k bs))
  in_methods front k [] b n size h i = absurd h
  in_methods front k (x ∷ bs) b n size (inl q) i =
      let rest : List Tree = nodes (methods_tree at (method_end front k x) (k + 1) bs) in
      let lines : Lists (nodes (body_tree at (body_start front k x) x.lines)) = in_body (body_start front k x) x.lines n size (subst (λ (y : Builder). Has (CreatesArray name n size) y.lines) (sym q) i) in
      lists_first (nodes (method_at front k x)) rest (lists_last (method_at front k x ∷ nodes (signature_at front x)) (nodes (body_tree at (body_start front k x) x.lines)) lines)
  in_methods front k (x ∷ bs) b n size (inr h) i =
      lists_last (nodes (method_at front k x)) (nodes (methods_tree at (method_end front k x) (k + 1) bs)) (in_methods (method_end front k x) (k + 1) bs b n size h i)

  -- in the program of files and builders
  pub array_listed : (files : List Tree) (builders : List Builder) (b : Builder) (n : ℕ) (size : ℤ) → headings_of (files ++ file_tree at builders ∷ []) ≡ hs → Has b builders → Has (CreatesArray name n size) b.lines
      → is_listed (ArrayType e) (array_types_of (files ++ file_tree at builders ∷ [])) ≡ true
  array_listed files builders b n size is h i =
      let front : List ℕ = after_pieces [] (pieces.class_head []) in
      let ms : List Tree = nodes (methods_tree at front 0 builders) in
      let tree : Lists (nodes (file_tree at builders)) = lists_first (nodes (class_tree at builders)) [] (in_methods front 0 builders b n size h i) in
      let all : Lists (flat_map nodes (files ++ file_tree at builders ∷ [])) =
      subst (λ (ns : List Tree). Lists ns) (sym (flat_map-append nodes files (file_tree at builders ∷ []))) (lists_last (flat_map nodes files) (nodes (file_tree at builders) ++ []) (lists_first (nodes (file_tree at builders)) [] tree)) in
      go (listed_once (ArrayType e) [] (flat_map (arrays_named (headings_of (files ++ file_tree at builders ∷ []))) (flat_map nodes (files ++ file_tree at builders ∷ []))) (ap (λ (h : List Heading). is_listed (ArrayType e) (flat_map (arrays_named h) (flat_map nodes (files ++ file_tree at builders ∷ [])))) is ∙ all))
    where
      go : (is_listed (ArrayType e) [] ≡ true) ⊎ (is_listed (ArrayType e) (array_types_of (files ++ file_tree at builders ∷ [])) ≡ true) → is_listed (ArrayType e) (array_types_of (files ++ file_tree at builders ∷ [])) ≡ true
      go (inl q) = absurd (cc (q))
      go (inr q) = q
