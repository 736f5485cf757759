-- Declarators, fields and `\old`s have places of their own, and fields have names.
use Rattle.std.proofs.Common.{◌≡◌, ℕ, ◌+◌, ◌<◌, ◌≤◌, ◌⊎◌, inl, inr, Bool, true, false, List, [], ◌∷◌, ◌++◌, refl, ap, ◌∙◌, arith}
use Rattle.std.specs.Prelude.{flat_map, bytes_eq, codes}
use Rattle.std.specs.List.{AllByRecursion}
use Rattle.std.proofs.lemmas.Bool.{cases_eq}
use Rattle.kr_base.specs.declared.place.Place.{Place}
use Rattle.kr_lex.specs.Lexemes.{Lexeme}
use Rattle.kr_lex.specs.declared.kind.Kind.{Kind}
use Rattle.kr_lex.specs.declared.kind.Kind.TheVariants as kinds
use Rattle.kr_ast.specs.Tree as trees
use Rattle.kr_ast.specs.Tree.{Tree}
use Rattle.kr_classes_table.specs.Nodes.{nodes}
use Rattle.kr_classes_table.specs.Predefined.{predefined}
use Rattle.kr_classes_table.specs.Table.{Field, table_of}
use Rattle.kr_laws_never_stuck.specs.Grown.{IsGrown, AreGrown, AreProgram}
use Rattle.kr_laws_never_stuck.specs.Apart.{one_at, node_at, nodes_at, all_fields, fields_at, ApartLaw, FieldsLaw}
use Rattle.kr_lex.specs.Cursors.{one_if}
use Rattle.kr_laws_never_stuck.proofs.Weights as weights
use Rattle.kr_laws_never_stuck.proofs.Spelled.{placed, once, elsewhere, star, star_of, stars, no_stars}
use Rattle.kr_laws_never_stuck.proofs.DeclaredFields.{F, fields_less}

-- ---- places

module _ (p : Place) where
  abbrev declared : Place → List ℕ → ℕ
  declared q n = one_at p q

  abbrev held : Place → ℕ
  held q = one_at p q

  abbrev W : List Tree → ℕ
  W ts = weights.weight declared held ts

  -- the node at the place is the one that weighs
  own_is : (t : Tree) → weights.own declared held t ≡ node_at p t
  own_is (trees.Declarator q n e) = refl
  own_is (trees.Old q e) = refl
  own_is _ = refl

  weight_is : (ts : List Tree) → W ts ≡ nodes_at p ts
  weight_is [] = refl
  weight_is (t ∷ ts) = omega (arith, own_is t, weight_is ts)

  kind_less : (k : Kind) (a : Lexeme) → weights.of_kind declared held k a ≤ one_at p a.place
  kind_less kinds.Identifier a = omega arith
  kind_less kinds.Old a = omega arith
  kind_less k a = omega arith

  tokens_less : (i : List Lexeme) → weights.T declared held i ≤ placed p i
  tokens_less [] = omega arith
  tokens_less (a ∷ i) = omega (arith, kind_less a.kind a, tokens_less i)

  file_once : (n : ℕ) (bytes : List ℕ) (file : Tree) → IsGrown n bytes file → W (nodes file) ≤ 1
  file_once n bytes file g = omega (arith, weights.file_less declared held g.tokens file g.derived, tokens_less g.tokens, once g.spelled.1 p)

  file_elsewhere : (n : ℕ) (bytes : List ℕ) (file : Tree) → IsGrown n bytes file → (n ≡ p.file → ⊥) → W (nodes file) ≡ 0
  file_elsewhere n bytes file g d = omega (arith, weights.file_less declared held g.tokens file g.derived, tokens_less g.tokens, elsewhere g.spelled.1 p d)

  later : (n : ℕ) (sources : List (List ℕ)) (files : List Tree) → AreGrown n sources files → p.file < n → W (flat_map nodes files) ≡ 0
  later n [] [] g l = refl
  later n (bytes ∷ sources) (file ∷ files) g l =
      omega (arith, weights.append declared held (nodes file) (flat_map nodes files), file_elsewhere n bytes file g.0 (λ e. omega (arith, e, l)), later (n + 1) sources files g.1 (omega (arith, l)))
  later n _ _ g l = absurd g

  pub files_once : (n : ℕ) (sources : List (List ℕ)) (files : List Tree) → AreGrown n sources files → W (flat_map nodes files) ≤ 1
  files_once n [] [] g = omega arith
  files_once n (bytes ∷ sources) (file ∷ files) g = go (cases_eq n p.file) (files_once (n + 1) sources files g.1)
    where
      go : (n ≡ p.file) ⊎ (n ≡ p.file → ⊥) → W (flat_map nodes files) ≤ 1 → W (nodes file ++ flat_map nodes files) ≤ 1
      go (inl e) r = omega (arith, weights.append declared held (nodes file) (flat_map nodes files), file_once n bytes file g.0, later (n + 1) sources files g.1 (omega (arith, e)))
      go (inr d) r = omega (arith, weights.append declared held (nodes file) (flat_map nodes files), file_elsewhere n bytes file g.0 d, r)
  files_once n _ _ g = absurd g

  predefined_none : W (nodes predefined) ≡ 0
  unfolding predefined
  predefined_none = refl

  pub program_once : (sources : List (List ℕ)) (files : List Tree) → AreProgram sources files → W (flat_map nodes files) ≤ 1
  program_once sources [] g = absurd g
  program_once sources (tree ∷ files) g =
      let none : W (nodes tree) ≡ 0 = ap (λ (t : Tree). W (nodes t)) g.0 ∙ predefined_none in
      omega (arith, weights.append declared held (nodes tree) (flat_map nodes files), none, files_once 0 sources files g.1)

  fields_are : (fs : List Field) → F declared held fs ≡ fields_at p fs
  fields_are [] = refl
  fields_are (f ∷ fs) = omega (arith, fields_are fs)

pub apart : ApartLaw
apart sources files g p = omega (arith, weight_is p (flat_map nodes files), program_once p sources files g)

-- ---- names

abbrev named : Place → List ℕ → ℕ
named q n = star n

abbrev none : Place → ℕ
none q = 0

kind_star_is : (k : Kind) (a : Lexeme) → weights.of_kind named none k a ≡ star_of k a
kind_star_is kinds.Identifier a = refl
kind_star_is kinds.Old a = refl
kind_star_is k a = refl

tokens_stars : (i : List Lexeme) → weights.T named none i ≡ stars i
tokens_stars [] = refl
tokens_stars (a ∷ i) = omega (arith, kind_star_is a.kind a, tokens_stars i)

files_named : (n : ℕ) (sources : List (List ℕ)) (files : List Tree) → AreGrown n sources files → weights.weight named none (flat_map nodes files) ≡ 0
files_named n [] [] g = refl
files_named n (bytes ∷ sources) (file ∷ files) g =
    let d : IsGrown n bytes file = g.0 in
    omega (arith, weights.append named none (nodes file) (flat_map nodes files), weights.file_less named none d.tokens file d.derived, tokens_stars d.tokens, no_stars d.spelled.1, files_named (n + 1) sources files g.1)
files_named n _ _ g = absurd g

predefined_named : weights.weight named none (nodes predefined) ≡ 0
unfolding predefined
predefined_named = refl

program_named : (sources : List (List ℕ)) (files : List Tree) → AreProgram sources files → weights.weight named none (flat_map nodes files) ≡ 0
program_named sources [] g = absurd g
program_named sources (tree ∷ files) g =
    let first : weights.weight named none (nodes tree) ≡ 0 = ap (λ (t : Tree). weights.weight named none (nodes t)) g.0 ∙ predefined_named in
    omega (arith, weights.append named none (nodes tree) (flat_map nodes files), first, files_named 0 sources files g.1)

all_named : (fs : List Field) → F named none fs ≡ 0 → AllByRecursion (λ f. bytes_eq f.name (codes "*") ≡ false) fs
all_named [] e = tt
all_named (f ∷ fs) e = (go (bytes_eq f.name (codes "*")) refl, all_named fs (omega (arith, e)))
  where
    go : (b : Bool) → bytes_eq f.name (codes "*") ≡ b → b ≡ false
    go false q = refl
    go true q = absurd (omega (arith, e, ap one_if q))

pub fields_apart : FieldsLaw
fields_apart sources files g = record {
  places = λ p. omega (arith, fields_are p (all_fields (table_of files)), fields_less (declared p) (held p) files, program_once p sources files g);
  names = all_named (all_fields (table_of files)) (omega (arith, fields_less named none files, program_named sources files g));
}
