-- The predefined classes are derived from tokens, as a file's are.
use Rattle.std.proofs.Common.{ℕ, ◌+◌, List, [], ◌∷◌, false, refl}
use Rattle.kr_lex.specs.Lexemes.{Lexeme}
use Rattle.kr_lex.specs.declared.kind.Kind.{Kind}
use Rattle.kr_lex.specs.declared.kind.Kind.TheVariants as kinds
use Rattle.kr_ast.specs.Tree.{Nil}
use Rattle.kr_parse_grammar.specs.Grammar as grammar
use Rattle.kr_parse_grammar.specs.Grammar.{Der, Classes, ClassDeclaration, nothing, simple_name, not_extended, extended, class, no_class, another, no_member, no_import, unpackaged}
use Rattle.kr_classes_table.specs.Predefined.{Predefined, class_tree, listed_before, predefined, predefined_classes, start_of}
use Rattle.kr_emit_laws.specs.OneMore.{IsDerived}

-- a token at the place of a class
token : ℕ → Kind → List ℕ → Lexeme
token k kind text = record { kind = kind; text = text; place = start_of k }

above_tokens : ℕ → List ℕ → List Lexeme → List Lexeme
above_tokens k [] rest = rest
above_tokens k (b ∷ bs) rest = token k kinds.Extends [] ∷ token k kinds.Identifier (b ∷ bs) ∷ rest

class_tokens : ℕ → Predefined → List Lexeme → List Lexeme
class_tokens k c rest =
    token k kinds.Class [] ∷ token k kinds.Identifier c.name ∷ above_tokens k c.extended (token k kinds.LeftBrace [] ∷ token k kinds.RightBrace [] ∷ rest)

tokens : ℕ → List Predefined → List Lexeme
tokens k [] = []
tokens k (c ∷ cs) = class_tokens k c (tokens (k + 1) cs)

one : (k : ℕ) (name above : List ℕ) (rest : List Lexeme)
    → Der (ClassDeclaration false) (class_tokens k (record { name = name; extended = above }) rest) (class_tree k (record { name = name; extended = above })) rest
unfolding token above_tokens class_tokens
one k name [] rest = class (token k kinds.Class []) (token k kinds.Identifier name) (token k kinds.LeftBrace []) (token k kinds.RightBrace []) refl refl not_extended refl no_member refl
one k name (b ∷ bs) rest =
    class (token k kinds.Class []) (token k kinds.Identifier name) (token k kinds.LeftBrace []) (token k kinds.RightBrace []) refl refl
    (extended (token k kinds.Extends []) refl (simple_name (token k kinds.Identifier (b ∷ bs)) refl)) refl no_member refl

all : (k : ℕ) (cs : List Predefined) → Der Classes (tokens k cs) (listed_before k cs Nil) []
unfolding tokens
all k [] = no_class
all k (c ∷ cs) = another nothing refl (one k c.name c.extended (tokens (k + 1) cs)) (all (k + 1) cs)

pub predefined_derived : IsDerived predefined
unfolding predefined
predefined_derived = (tokens 0 predefined_classes, (tokens 0 predefined_classes, unpackaged no_import, all 0 predefined_classes))
