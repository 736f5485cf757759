-- The names of classes, fields and parameters that the grammar derives are among the tokens, and there are no more contract lines.
use Rattle.std.proofs.Common.{◌≡◌, ℕ, ◌+◌, ◌≤◌, Bool, true, false, List, length, refl, ap, ◌∙◌, arith}
use Rattle.std.proofs.lemmas.Slice.Eq.{bytes_eq-Decides}
use Rattle.kr_lex.specs.Lexemes.{Lexeme}
use Rattle.kr_lex.specs.declared.kind.Kind.{Kind}
use Rattle.kr_lex.specs.declared.kind.Kind.TheVariants as kinds
use Rattle.kr_ast.specs.Tree as trees
use Rattle.kr_ast.specs.Tree.{Tree}
use Rattle.kr_classes_table.specs.Table.{items}
use Rattle.kr_parse_grammar.specs.declared.value.Modifiers.{Modifiers}
use Rattle.kr_parse_grammar.specs.Grammar as grammar
use Rattle.kr_parse_grammar.specs.Grammar.{Der, Derives, Dotted, Heading, Imports, Modified}
use Rattle.kr_lex.specs.Cursors.{one_if}
use Rattle.kr_laws_never_stuck.proofs.Weights as weights
use Rattle.kr_shard_laws.proofs.Lengths.{heading_length, lines_few, modified_length, shorter}
use Rattle.kr_shard_laws.proofs.Tokens.{AllNames, nothing, one_for, times}

-- ---- the rest of tokens has no more of a name

module _ (x : List ℕ) where
  modified : {i r : List Lexeme} {f : Modifiers} → Modified i f r → times x r ≤ times x i
  modified grammar.nothing = omega arith
  modified (grammar.access a m k) = omega (arith, modified m)
  modified (grammar.static a m k) = omega (arith, modified m)
  modified (grammar.final a m k) = omega (arith, modified m)
  modified (grammar.overriding a b m k l n) = omega (arith, modified m)

  dotted : {i r : List Lexeme} → Dotted i r → times x r ≤ times x i
  dotted grammar.no_more = omega arith
  dotted (grammar.dot a b k l d) = omega (arith, dotted d)

  imports : {i r : List Lexeme} → Imports i r → times x r ≤ times x i
  imports grammar.no_import = omega arith
  imports (grammar.import a b c d e f g k l m n o p q y z w) = omega (arith, imports w)

  heading : {i r : List Lexeme} → Heading i r → times x r ≤ times x i
  heading (grammar.unpackaged d) = imports d
  heading (grammar.packaged a b c k l d m e) = omega (arith, dotted d, imports e)

  less : {c : grammar.Class} {i r : List Lexeme} {t : Tree} → Der c i t r → weights.W (one_for x) nothing t + times x r ≤ times x i
  less d = weights.less (one_for x) nothing d

-- an identifier is among the tokens
stands : (a : Lexeme) → a.kind ≡ kinds.Identifier → weights.token (one_for a.text) nothing a ≡ 1
stands a k = ap (λ (x : Kind). weights.of_kind (one_for a.text) nothing x a) k ∙ ap one_if ((bytes_eq-Decides a.text a.text).1 refl)

-- ---- names in trees

-- each item of a list
abbrev pub AllItems : (Tree → Type 0) → Tree → Type 0
AllItems P (trees.Cons a b) = P a × AllItems P b
AllItems P t = Unit {0}

module _ (P : List ℕ → Type 0) (most : ℕ) where
  abbrev pub IsDeclared : Tree → Type 0
  IsDeclared (trees.Declarator p n e) = P n
  IsDeclared t = Unit {0}

  abbrev pub IsParameter : Tree → Type 0
  IsParameter (trees.Parameter p t n) = P n
  IsParameter t = Unit {0}

  -- P holds of the names of the parameters, and there are so many contract lines at most
  abbrev pub IsSigned : Tree → Type 0
  IsSigned (trees.Signature p r ps cs) = AllItems IsParameter ps × (length (items cs) ≤ most)
  IsSigned t = Unit {0}

  -- P holds of the name of a class and of those in it, of the names of fields, and of those of the parameters of methods; or so in each
  -- of a list
  abbrev pub Named : Bool → Tree → Type 0
  Named true (trees.Cons a b) = Named false a × Named true b
  Named true t = Unit {0}
  Named false (trees.Class p n e ms) = P n × Named true ms
  Named false (trees.Field p st fi t ds) = AllItems IsDeclared ds
  Named false (trees.Method p st n s b) = IsSigned s
  Named false t = Unit {0}

  abbrev Has : grammar.Class → Tree → Type 0
  Has grammar.Declarator t = IsDeclared t
  Has grammar.Parameter t = IsParameter t
  Has (grammar.Maybe c) t = Has c t
  Has (grammar.Several c) t = AllItems (Has c) t
  Has (grammar.ClassDeclaration n) t = Named false t
  Has (grammar.Member o n) t = Named false t
  Has (grammar.Members o n) t = Named true t
  Has grammar.Classes t = Named true t
  Has c t = Unit {0}

  has_none : (c : grammar.Class) → Has c trees.Nil
  has_none (grammar.Maybe c) = has_none c
  has_none _ = tt

  has : {c : grammar.Class} {i r : List Lexeme} {t : Tree} → Der c i t r → AllNames P i → length i ≤ most → Has c t
  has (grammar.absent {c = c}) all short = has_none c
  has (grammar.present d) all short = has d all short
  has (grammar.last d) all short = (has d all short, tt)
  has (grammar.comma a d k e) all short = (has d all short, has e (λ x s. all x (omega (arith, s, less x d))) (omega (arith, short, shorter d)))
  has (grammar.declarator a k) all short = all a.text (omega (arith, stands a k))
  has (grammar.initialised a b k l d) all short = all a.text (omega (arith, stands a k))
  has (grammar.parameter n d k) all short = all n.text (omega (arith, stands n k, less n.text d))
  has (grammar.final_parameter a n k d l) all short = all n.text (omega (arith, stands n l, less n.text d))
  has (grammar.nested m k l d) all short = has d (λ x s. all x (omega (arith, s, modified x m))) (omega (arith, short, modified_length m))
  has (grammar.field a m k d e l) all short = has e (λ x s. all x (omega (arith, s, modified x m, less x d))) (omega (arith, short, modified_length m, shorter d))
  has (grammar.method a b c d e v m y k l z n o w p) all short = (
    has z (λ x s. all x (omega (arith, s, less x v, modified x m, less x y))) (omega (arith, short, shorter v, modified_length m, shorter y)),
    omega (arith, short, lines_few v),
  )
  has (grammar.constructor a b c d e m k n l x o p y z q) all short = tt
  has grammar.no_member all short = tt
  has (grammar.skip_member a k d) all short = has d (λ x s. all x (omega (arith, s))) (omega (arith, short))
  has (grammar.member d e) all short = (has d all short, has e (λ x s. all x (omega (arith, s, less x d))) (omega (arith, short, shorter d)))
  has (grammar.class a b c d k l e m y n) all short = (all b.text (omega (arith, stands b l)), has y (λ x s. all x (omega (arith, s, less x e))) (omega (arith, short, shorter e)))
  has grammar.no_class all short = tt
  has (grammar.skip_class a k d) all short = has d (λ x s. all x (omega (arith, s))) (omega (arith, short))
  has (grammar.another m k d e) all short = (
    has d (λ x s. all x (omega (arith, s, modified x m))) (omega (arith, short, modified_length m)),
    has e (λ x s. all x (omega (arith, s, modified x m, less x d))) (omega (arith, short, modified_length m, shorter d)),
  )
  has d all short = tt

  pub of_file : (i : List Lexeme) (t : Tree) → Derives i t → AllNames P i → length i ≤ most → Named true t
  of_file i t d all short = has d.2 (λ x s. all x (omega (arith, s, heading x d.1))) (omega (arith, short, heading_length d.1))
