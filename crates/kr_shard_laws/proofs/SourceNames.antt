-- The names of classes, fields and parameters in files that were read, and how many contract lines a method has.
use Rattle.std.proofs.Common.{ℕ, ◌+◌, ◌≤◌, Bool, true, false, List, [], ◌∷◌, length, Some, None, sym, subst, arith}
use Rattle.std.specs.Prelude.{flat_map}
use Rattle.std.specs.List.{AllByRecursion}
use Rattle.kr_ast.specs.Tree as trees
use Rattle.kr_ast.specs.Tree.{Tree}
use Rattle.kr_classes_table.specs.Predefined.{Predefined, listed_before, predefined, predefined_classes}
use Rattle.kr_classes_table.specs.Table.{Field, Heading, Method, classes_from, declared_in, fields_in, heading_of, headings_from, headings_of, items, methods_in, parameters_in, table_of, with_nested}
use Rattle.kr_laws_never_stuck.specs.Apart.{all_fields}
use Rattle.kr_laws_never_stuck.specs.Grown.{IsGrown, AreGrown, AreProgram}
use Rattle.kr_shard_laws.specs.Names.{ContractLinesLaw, IsIdentifier, NamesLaw, all_methods}
use Rattle.kr_shard_laws.proofs.Tokens.{all_names}
use Rattle.kr_shard_laws.proofs.Lengths.{tokens_few}
use Rattle.kr_shard_laws.proofs.PredefinedNames.{predefined_names}
use Rattle.kr_shard_laws.proofs.Derived.{AllItems, IsDeclared, IsParameter, Named, of_file}
use Rattle.kr_space_meaning.proofs.Each.{each_of_both, each_weaker}

module _ (most : ℕ) where
  -- its name and those of its fields, its methods' parameters and nested classes are names
  unfoldable IsHeading : Heading → Type 0
  IsHeading h = IsIdentifier h.name × AllByRecursion (Named IsIdentifier most false) h.members

  of_items : (ms : Tree) → Named IsIdentifier most true ms → AllByRecursion (Named IsIdentifier most false) (items ms)
  of_items (trees.Cons m b) h = (h.0, of_items b h.1)
  of_items _ h = tt

  -- ---- classes

  nested : (k : ℕ) (ms : Tree) → Named IsIdentifier most true ms → AllByRecursion IsHeading (flat_map (heading_of (Some k)) (items ms))
  unfolding IsHeading
  nested k (trees.Cons (trees.Class p n e b) ms) h = ((h.0.0, of_items b h.0.1), nested k ms h.1)
  nested k (trees.Cons a ms) h = nested k ms h.1
  nested k _ h = tt

  of_class : (k : ℕ) (t : Tree) → Named IsIdentifier most false t → AllByRecursion IsHeading (with_nested k (heading_of None t))
  unfolding IsHeading
  of_class k (trees.Class p n e ms) h = ((h.0, of_items ms h.1), nested k ms h.1)
  of_class k _ h = tt

  of_headings : (k : ℕ) (ts : List Tree) → AllByRecursion (Named IsIdentifier most false) ts → AllByRecursion IsHeading (headings_from k ts)
  of_headings k [] h = tt
  of_headings k (t ∷ ts) h =
      let mine = with_nested k (heading_of None t) in
      each_of_both IsHeading mine (headings_from (k + length mine) ts) (of_class k t h.0) (of_headings (k + length mine) ts h.1)

  -- ---- fields

  of_declarators : (hs : List Heading) (c : ℕ) (st fi : Bool) (type ds : Tree) → AllItems (IsDeclared IsIdentifier most) ds → AllByRecursion (λ f. IsIdentifier f.name) (flat_map (declared_in hs c st fi type) (items ds))
  of_declarators hs c st fi type (trees.Cons (trees.Declarator p n e) ds) h = (h.0, of_declarators hs c st fi type ds h.1)
  of_declarators hs c st fi type (trees.Cons d ds) h = of_declarators hs c st fi type ds h.1
  of_declarators hs c st fi type _ h = tt

  of_member : (hs : List Heading) (c : ℕ) (m : Tree) → Named IsIdentifier most false m → AllByRecursion (λ f. IsIdentifier f.name) (fields_in hs c m)
  of_member hs c (trees.Field p st fi type ds) h = of_declarators hs c st fi type ds h
  of_member hs c _ h = tt

  of_members : (hs : List Heading) (c : ℕ) (ms : List Tree) → AllByRecursion (Named IsIdentifier most false) ms → AllByRecursion (λ f. IsIdentifier f.name) (flat_map (fields_in hs c) ms)
  of_members hs c [] h = tt
  of_members hs c (m ∷ ms) h = each_of_both (λ (f : Field). IsIdentifier f.name) (fields_in hs c m) (flat_map (fields_in hs c) ms) (of_member hs c m h.0) (of_members hs c ms h.1)

  of_classes : (whole : List Heading) (c : ℕ) (hs : List Heading) → AllByRecursion IsHeading hs → AllByRecursion (λ f. IsIdentifier f.name) (flat_map (λ d. d.fields) (classes_from whole c hs))
  unfolding IsHeading
  of_classes whole c [] h = tt
  of_classes whole c (x ∷ xs) h =
      each_of_both (λ (f : Field). IsIdentifier f.name) (flat_map (fields_in whole c) x.members) (flat_map (λ d. d.fields) (classes_from whole (c + 1) xs)) (of_members whole c x.members h.0.1) (of_classes whole (c + 1) xs h.1)

  of_table : (files : List Tree) → AllByRecursion IsHeading (headings_of files) → AllByRecursion (λ f. IsIdentifier f.name) (all_fields (table_of files))
  unfolding table_of
  of_table files h = of_classes (headings_of files) 0 (headings_of files) h

  -- ---- methods

  -- its parameters have names, and it has so many contract lines at most
  abbrev IsMethod : Method → Type 0
  IsMethod m = AllByRecursion (λ p. IsIdentifier p.name) m.parameters × (length m.contracts ≤ most)

  of_parameters : (hs : List Heading) (ps : Tree) → AllItems (IsParameter IsIdentifier most) ps → AllByRecursion (λ p. IsIdentifier p.name) (parameters_in hs ps)
  of_parameters hs (trees.Cons (trees.Parameter p t n) ps) h = (h.0, of_parameters hs ps h.1)
  of_parameters hs (trees.Cons d ps) h = of_parameters hs ps h.1
  of_parameters hs _ h = tt

  of_method : (hs : List Heading) (c : ℕ) (t : Tree) → Named IsIdentifier most false t → AllByRecursion IsMethod (methods_in hs c t)
  of_method hs c (trees.Method p st n (trees.Signature q r ps cs) b) h = ((of_parameters hs ps h.0, h.1), tt)
  of_method hs c (trees.Method p st n s b) h = tt
  of_method hs c _ h = tt

  of_own : (hs : List Heading) (c : ℕ) (ms : List Tree) → AllByRecursion (Named IsIdentifier most false) ms → AllByRecursion IsMethod (flat_map (methods_in hs c) ms)
  of_own hs c [] h = tt
  of_own hs c (m ∷ ms) h = each_of_both IsMethod (methods_in hs c m) (flat_map (methods_in hs c) ms) (of_method hs c m h.0) (of_own hs c ms h.1)

  methods_of : (whole : List Heading) (c : ℕ) (hs : List Heading) → AllByRecursion IsHeading hs → AllByRecursion IsMethod (flat_map (λ d. d.methods) (classes_from whole c hs))
  unfolding IsHeading
  methods_of whole c [] h = tt
  methods_of whole c (x ∷ xs) h =
      each_of_both IsMethod (flat_map (methods_in whole c) x.members) (flat_map (λ d. d.methods) (classes_from whole (c + 1) xs)) (of_own whole c x.members h.0.1) (methods_of whole (c + 1) xs h.1)

  of_methods : (files : List Tree) → AllByRecursion IsHeading (headings_of files) → AllByRecursion IsMethod (all_methods (table_of files))
  unfolding table_of
  of_methods files h = methods_of (headings_of files) 0 (headings_of files) h

  -- ---- files

  of_files : (n : ℕ) (sources : List (List ℕ)) (files : List Tree) → AllByRecursion (λ bytes. length bytes ≤ most) sources → AreGrown n sources files → AllByRecursion (Named IsIdentifier most false) (flat_map items files)
  of_files n [] [] short g = tt
  of_files n (bytes ∷ sources) (file ∷ files) short g =
      let d : IsGrown n bytes file = g.0 in
      each_of_both (Named IsIdentifier most false) (items file) (flat_map items files)
      (of_items file (of_file IsIdentifier most d.tokens file d.derived (all_names d.spelled.1) (omega (arith, short.0, tokens_few d.spelled.1)))) (of_files (n + 1) sources files short.1 g.1)
  of_files n _ _ short g = absurd g

  of_predefined : (k : ℕ) (cs : List Predefined) → AllByRecursion (λ c. IsIdentifier c.name) cs → AllByRecursion (Named IsIdentifier most false) (items (listed_before k cs trees.Nil))
  of_predefined k [] h = tt
  of_predefined k (c ∷ cs) h = ((h.0, tt), of_predefined (k + 1) cs h.1)

  predefined_named : AllByRecursion (Named IsIdentifier most false) (items predefined)
  unfolding predefined
  predefined_named = of_predefined 0 predefined_classes predefined_names

  of_program : (sources : List (List ℕ)) (files : List Tree) → AllByRecursion (λ bytes. length bytes ≤ most) sources → AreProgram sources files → AllByRecursion (Named IsIdentifier most false) (flat_map items files)
  of_program sources [] short g = absurd g
  of_program sources (tree ∷ files) short g =
      each_of_both (Named IsIdentifier most false) (items tree) (flat_map items files)
      (subst (λ (t : Tree). AllByRecursion (Named IsIdentifier most false) (items t)) (sym g.0) predefined_named) (of_files 0 sources files short g.1)

  heading_names : (hs : List Heading) → AllByRecursion IsHeading hs → AllByRecursion (λ h. IsIdentifier h.name) hs
  unfolding IsHeading
  heading_names [] h = tt
  heading_names (x ∷ xs) h = (h.0.0, heading_names xs h.1)

  headings : (sources : List (List ℕ)) (files : List Tree) → AllByRecursion (λ bytes. length bytes ≤ most) sources → AreProgram sources files → AllByRecursion IsHeading (headings_of files)
  headings sources files short g = of_headings 0 (flat_map items files) (of_program sources files short g)

-- ---- all sources

total : List (List ℕ) → ℕ
total [] = 0
total (bytes ∷ sources) = length bytes + total sources

all_within : (most : ℕ) (sources : List (List ℕ)) → total sources ≤ most → AllByRecursion (λ bytes. length bytes ≤ most) sources
unfolding total
all_within most [] h = tt
all_within most (bytes ∷ sources) h = (omega (arith, h), all_within most sources (omega (arith, h)))

pub named : NamesLaw
named sources files g =
    let most = total sources in
    let all = headings most sources files (all_within most sources (omega arith)) g in
    record {
      classes = heading_names most (headings_of files) all;
      fields = of_table most files all;
      parameters = each_weaker (IsMethod most) (λ m. AllByRecursion (λ p. IsIdentifier p.name) m.parameters) (all_methods (table_of files)) (λ m h. h.0) (of_methods most files all);
    }

pub lines_few : ContractLinesLaw
lines_few most sources files short g =
    each_weaker (IsMethod most) (λ m. length m.contracts ≤ most) (all_methods (table_of files)) (λ m h. h.1) (of_methods most files (headings most sources files short g))
