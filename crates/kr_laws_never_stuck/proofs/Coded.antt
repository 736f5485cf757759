-- The code of each class is of the grammar's shape.
use Rattle.std.proofs.Common.{◌≡◌, refl, ap, ◌∙◌, subst, inl, inr, ℕ, zero, suc, ◌+◌, Bool, true, false, List, [], ◌∷◌, ◌++◌, length, Option, Some, None, arith}
use Rattle.std.specs.Prelude.{flat_map}
use Rattle.kr_ast.specs.Tree as trees
use Rattle.kr_ast.specs.Tree.{Tree}
use Rattle.kr_classes_table.specs.Nodes.{nodes}
use Rattle.kr_classes_table.specs.Types.{JavaType}
use Rattle.kr_classes_table.specs.Table.{Heading, Table, Class, Field, Method, Constructor, items, heading_of, with_nested, headings_from, headings_of, declared_in, fields_in, methods_in, constructors_in, class_of, table_of}
use Rattle.kr_classes_table.specs.Arrays.{array_types_of}
use Rattle.kr_types_meaning.specs.Scopes.{Scope}
use Rattle.kr_laws_types.specs.Derivation.{AreDeclarators, MayCallSuper, IsMember, IsClass, AreClasses}
use Rattle.kr_laws_types.specs.Shapes.{Expression, Expressions, IsCode}
use Rattle.kr_laws_runs.proofs.Respects.{AllOf, all_front, all_back, all_both}
use Rattle.kr_mean.specs.Program.{program_with, method_scope, constructor_scope}
use Rattle.kr_mean.specs.Purity.{IsOneOf}
use Rattle.kr_laws_safety.specs.Typed.{Olds}
use Rattle.kr_laws_never_stuck.specs.WellTyped.{AreFiles}
use Rattle.kr_laws_never_stuck.proofs.Shaped.{AreStatements, AreSuperArguments, HasCode}
use Rattle.kr_laws_never_stuck.proofs.Codes.{IsNumbered, files_numbered, IsPlain, expression_code, maybe_code, body_code}
use Rattle.kr_laws_never_stuck.proofs.Files.{heading_at, class_is}
use Rattle.kr_laws_never_stuck.proofs.Members.{member_of}

module _ (arrays : List JavaType) (hs : List Heading) where
  abbrev N : Tree → Type 0
  N t = IsNumbered arrays hs t

  abbrev Numbered : Tree → Type 0
  Numbered t = AllOf N (nodes t)

  -- ---- members

  abbrev pub IsCoded : Tree → Type 0
  IsCoded m = IsMember false m × Numbered m

  members_coded : (ms : Tree) → IsMember true ms → Numbered ms → AllOf IsCoded (items ms)
  members_coded trees.Nil h a = tt
  members_coded (trees.Cons x y) h a = ((h.0, all_front N (nodes x) (nodes y) a), members_coded y h.1 (all_back N (nodes x) (nodes y) a))
  members_coded _ h a = absurd h

  pub record IsCodedHeading (h : Heading) : Type 0 where
    pub tree : Tree
    pub members : h.members ≡ items tree
    pub all : AllOf IsCoded (items tree)

  heading_coded : (outer : Option ℕ) (m : Tree) → IsCoded m → AllOf IsCodedHeading (heading_of outer m)
  heading_coded outer (trees.Class p n e ms) h = (record { tree = ms; members = refl; all = members_coded ms h.0.1 (all_back N (nodes e) (nodes ms) h.1.1) }, tt)
  heading_coded outer _ h = tt

  nested_coded : (k : ℕ) (ms : List Tree) → AllOf IsCoded ms → AllOf IsCodedHeading (flat_map (heading_of (Some k)) ms)
  nested_coded k [] h = tt
  nested_coded k (m ∷ ms) h = all_both IsCodedHeading (heading_of (Some k) m) (flat_map (heading_of (Some k)) ms) (heading_coded (Some k) m h.0) (nested_coded k ms h.1)

  abbrev IsCodedClass : Tree → Type 0
  IsCodedClass m = IsClass m × Numbered m

  own_coded : (k : ℕ) (m : Tree) → IsCodedClass m → AllOf IsCodedHeading (with_nested k (heading_of None m))
  own_coded k (trees.Class p n e ms) h = let all = members_coded ms h.0.1 (all_back N (nodes e) (nodes ms) h.1.1) in (record { tree = ms; members = refl; all = all }, nested_coded k (items ms) all)
  own_coded k _ h = absurd h.0

  headings_coded : (k : ℕ) (ms : List Tree) → AllOf IsCodedClass ms → AllOf IsCodedHeading (headings_from k ms)
  headings_coded k [] h = tt
  headings_coded k (m ∷ ms) h = let own = with_nested k (heading_of None m) in all_both IsCodedHeading own (headings_from (k + length own) ms) (own_coded k m h.0) (headings_coded (k + length own) ms h.1)

  file_coded : (file : Tree) → AreClasses file → Numbered file → AllOf IsCodedClass (items file)
  file_coded trees.Nil h a = tt
  file_coded (trees.Cons x y) h a = ((h.0, all_front N (nodes x) (nodes y) a), file_coded y h.1 (all_back N (nodes x) (nodes y) a))
  file_coded _ h a = absurd h

  pub files_coded : (files : List Tree) → AreFiles files → AllOf N (flat_map nodes files) → AllOf IsCodedClass (flat_map items files)
  files_coded [] h a = tt
  files_coded (file ∷ files) h a = all_both IsCodedClass (items file) (flat_map items files) (file_coded file h.0 (all_front N (nodes file) (flat_map nodes files) a)) (files_coded files h.1 (all_back N (nodes file) (flat_map nodes files) a))

  coded_at : (xs : List Heading) (c : ℕ) (h : Heading) → AllOf IsCodedHeading xs → heading_at xs c ≡ Some h → IsCodedHeading h
  coded_at [] c h g q = absurd (cc (q))
  coded_at (x ∷ xs) zero h g q = subst IsCodedHeading (ap (λ (o : Option Heading). elim o as (λ y. Heading) [ Some y ↦ y | None ↦ x ]) q) g.0
  coded_at (x ∷ xs) (suc c) h g q = coded_at xs c h g.1 q

  -- ---- code of members

  module _ (olds : Olds) where
    initial_code : (s : Scope) (c : ℕ) (st fi : Bool) (type : Tree) (f : Field) (ds : Tree) → IsPlain arrays olds hs s → AreDeclarators ds → Numbered ds → IsOneOf f (flat_map (declared_in hs c st fi type) (items ds)) → IsCode arrays olds (Expression true) s f.initial
    initial_code s c st fi type f trees.Nil k h a i = absurd i
    initial_code s c st fi type f (trees.Cons (trees.Declarator p n e) b) k h a (inl i) = subst (λ (x : Field). IsCode arrays olds (Expression true) s x.initial) i (maybe_code arrays olds hs s e k h.0 (all_front N (nodes (trees.Declarator p n e)) (nodes b) a).1)
    initial_code s c st fi type f (trees.Cons (trees.Declarator p n e) b) k h a (inr i) = initial_code s c st fi type f b k h.1 (all_back N (nodes (trees.Declarator p n e)) (nodes b) a) i
    initial_code s c st fi type f (trees.Cons _ b) k h a i = absurd h.0
    initial_code s c st fi type f _ k h a i = absurd h

    field_code : (s : Scope) (c : ℕ) (f : Field) (m : Tree) → IsPlain arrays olds hs s → IsCoded m → IsOneOf f (fields_in hs c m) → IsCode arrays olds (Expression true) s f.initial
    field_code s c f (trees.Field p st fi type ds) k h i = initial_code s c st fi type f ds k h.0.1 (all_back N (nodes type) (nodes ds) h.1.1) i
    field_code s c f _ k h i = absurd i

    method_code : (c : ℕ) (x : Method) (m : Tree) (s : Method → Scope) → ((x : Method) → IsPlain arrays olds hs (s x)) → IsCoded m → IsOneOf x (methods_in hs c m) → AreStatements arrays olds (s x) x.body
    method_code c x (trees.Method p st n (trees.Signature q r ps cs) b) s k h (inl i) = subst (λ (y : Method). AreStatements arrays olds (s y) y.body) i (body_code arrays olds hs _ b (k _) h.0.1 (all_back N (nodes (trees.Signature q r ps cs)) (nodes b) h.1.1))
    method_code c x (trees.Method p st n (trees.Signature q r ps cs) b) s k h (inr i) = absurd i
    method_code c x (trees.Method p st n _ b) s k h i = absurd h.0.0
    method_code c x _ s k h i = absurd i

    super_code : (s : Scope) (t : Tree) → IsPlain arrays olds hs s → MayCallSuper t → Numbered t → AreSuperArguments arrays olds s t
    super_code s (trees.ConstructorCall p es) k h a = expression_code arrays olds hs Expressions s es k h a.1
    super_code s _ k h a = tt

    constructor_code : (x : Constructor) (m : Tree) (s : Constructor → Scope) → ((x : Constructor) → IsPlain arrays olds hs (s x)) → IsCoded m → IsOneOf x (constructors_in hs m) → AreSuperArguments arrays olds (s x) x.call × AreStatements arrays olds (s x) x.body
    constructor_code x (trees.Constructor p ps call b) s k h (inl i) =
        let f = all_front N (nodes ps ++ nodes call) (nodes b) h.1.1 in
        subst (λ (y : Constructor). AreSuperArguments arrays olds (s y) y.call × AreStatements arrays olds (s y) y.body) i
        (super_code _ call (k _) h.0.1 (all_back N (nodes ps) (nodes call) f), body_code arrays olds hs _ b (k _) h.0.2 (all_back N (nodes ps ++ nodes call) (nodes b) h.1.1))
    constructor_code x (trees.Constructor p ps call b) s k h (inr i) = absurd i
    constructor_code x _ s k h i = absurd i

-- ---- whole programs

pub has_code : (files : List Tree) (more : List JavaType) → AreFiles files → HasCode (program_with (table_of files) (array_types_of files ++ more))
unfolding table_of
has_code files more shapes =
    let arrays = array_types_of files ++ more in
    let hs = headings_of files in
    let program = program_with (table_of files) arrays in
    let all = headings_coded arrays hs 0 (flat_map items files) (files_coded arrays hs files shapes (files_numbered files more)) in
    record {
      initials = λ c d f q i olds s table part.
          let r = class_is hs 0 hs c d q in
          let g = coded_at arrays hs hs c r.0 all r.1 in
          let z : 0 + c ≡ c = omega arith in
          let there = subst (λ (ms : List Tree). IsOneOf f (flat_map (fields_in hs c) ms)) g.members (subst (λ (x : Class). IsOneOf f x.fields) (r.2 ∙ ap (λ (n : ℕ). class_of hs n r.0) z) i) in
          let m = member_of (IsCoded arrays hs) (fields_in hs c) f (items g.tree) g.all there in
          field_code arrays hs olds s c f m.0 (ap (λ (t : Table). t.headings) table, part) m.1 m.2;
      bodies = λ c d x q i olds.
          let r = class_is hs 0 hs c d q in
          let g = coded_at arrays hs hs c r.0 all r.1 in
          let z : 0 + c ≡ c = omega arith in
          let there = subst (λ (ms : List Tree). IsOneOf x (flat_map (methods_in hs c) ms)) g.members (subst (λ (y : Class). IsOneOf x y.methods) (r.2 ∙ ap (λ (n : ℕ). class_of hs n r.0) z) i) in
          let m = member_of (IsCoded arrays hs) (methods_in hs c) x (items g.tree) g.all there in
          method_code arrays hs olds c x m.0 (method_scope program) (λ y. (refl, refl)) m.1 m.2;
      constructors = λ c d x q i olds.
          let r = class_is hs 0 hs c d q in
          let g = coded_at arrays hs hs c r.0 all r.1 in
          let z : 0 + c ≡ c = omega arith in
          let there = subst (λ (ms : List Tree). IsOneOf x (flat_map (constructors_in hs) ms)) g.members (subst (λ (y : Class). IsOneOf x y.constructors) (r.2 ∙ ap (λ (n : ℕ). class_of hs n r.0) z) i) in
          let m = member_of (IsCoded arrays hs) (constructors_in hs) x (items g.tree) g.all there in
          constructor_code arrays hs olds x m.0 (constructor_scope program c) (λ y. (refl, refl)) m.1 m.2;
    }
