-- The goals of types denote what their rules denote.
use Rattle.std.proofs.Common.{◌≡◌, List, ◌∷◌, refl, ◌∙◌}
use Rattle.kr_base.specs.declared.place.Place.{Place}
use Rattle.kr_base.specs.Places.{nowhere}
use Rattle.kr_lex.specs.Lexemes.{Lexeme}
use Rattle.kr_lex.specs.declared.kind.Kind.TheVariants as kinds
use Rattle.kr_ast.specs.Tree as trees
use Rattle.kr_ast.specs.Tree.{Tree}
use Rattle.kr_parse_grammar.specs.declared.terminal.Terminal.{Terminal}
use Rattle.kr_parse_grammar.specs.declared.terminal.Terminal.TheVariants as terminals
use Rattle.kr_parse_grammar.specs.declared.value.Form.TheVariants as forms
use Rattle.kr_parse_grammar.specs.declared.value.Tag.{Tag}
use Rattle.kr_parse_grammar.specs.declared.goal.Goal.TheVariants as goals
use Rattle.kr_parse_grammar.specs.Values.{StackItem, word, pair, part}
use Rattle.kr_parse_grammar.specs.Grammar as grammar
use Rattle.kr_parse_grammar.specs.Grammar.{Der, at, ClassName, ReferenceType, AnyType}
use Rattle.kr_parse_laws.proofs.SoundMeanings.{Holds}
use Rattle.kr_parse_laws.proofs.SoundSteps.{from, onto, begins, both, named_at, named_class, paired}

pub array_of : (p : Place) (j i m r : List Lexeme) (t : Tree) (a b : Lexeme) → p ≡ at j → Der AnyType j t i → i ≡ a ∷ m → a.kind ≡ kinds.LeftBracket → m ≡ b ∷ r
    → b.kind ≡ kinds.RightBracket → Der ReferenceType j (trees.ArrayType p t) r
array_of p j i m r t a b v d e ka f kb = rw v (grammar.array_type a b (onto (both e f) d) ka kb)

pub generic_of : (p : Place) (j i m l r : List Lexeme) (c t : Tree) (a b : Lexeme) → p ≡ at j → Der ClassName j c i → i ≡ a ∷ m → a.kind ≡ kinds.Less → Der AnyType m t l
    → l ≡ b ∷ r → b.kind ≡ kinds.Greater
    → Der ReferenceType j (trees.GenericType p c t) r
generic_of p j i m l r c t a b v dc e ka dt f kb = rw v (grammar.generic_type a b (onto e dc) ka (onto f dt) kb)

pub means_type : (k : Terminal) (q : Tag) (vs : List StackItem) → Holds goals.Type k q vs
means_type terminals.Primitive q vs ss i ws (a, m, e, ka, (p1, g, u, r, (z, x), d)) = (p1, g, u, r, (z ∙ begins e, x.0 i (begins e) (from e (grammar.primitive_type a ka))), d)
means_type terminals.Identifier q vs ss i ws (a, m, e, ka, (p1, f, t, r, (z, h), d)) = (p1, f, t, r, (z ∙ begins e, h i (a, e, ka, refl, refl)), d)
means_type _ q vs ss i ws d = absurd d

pub means_type_name : (k : Terminal) (q : Tag) (vs : List StackItem) → Holds goals.TypeName k q vs
means_type_name terminals.Dot q (word p n ∷ vs) ss i ws (d, m, e, kd, (b, l, f, kb, (p1, g, t, r, (z, h), c))) =
    (p1, g, t, r, (z, λ j o. h j (paired p n d b j i m l e kd f kb o)), c)
means_type_name k q (word p n ∷ vs) ss i ws d = d
means_type_name k q _ ss i ws d = tt

pub means_type_tail : (k : Terminal) (q : Tag) (vs : List StackItem) → Holds goals.TypeTail k q vs
means_type_tail terminals.Less q (word w n ∷ vs) ss i ws (b, m, e, kb, (p1, f1, t, l, (z1, x1), (c, s, e2, kc, (p2, g, u, r, (z, h), d)))) =
    (p2, g, u, r, (z, λ j s1. h.0 j (named_at (word w n) j i s1) (grammar.reference_type (generic_of w j i m l s (trees.NamedType w n) t b c (named_at (word w n) j i s1) (named_class (word w n) j i s1) e kb x1 e2 kc))), d)
means_type_tail terminals.Less q (pair w o n ∷ vs) ss i ws (b, m, e, kb, (p1, f1, t, l, (z1, x1), (c, s, e2, kc, (p2, g, u, r, (z, h), d)))) =
    (p2, g, u, r, (z, λ j s1. h.0 j (named_at (pair w o n) j i s1) (grammar.reference_type (generic_of w j i m l s (trees.QualifiedType w o n) t b c (named_at (pair w o n) j i s1) (named_class (pair w o n) j i s1) e kb x1 e2 kc))), d)
means_type_tail k q (word w n ∷ vs) ss i ws d =
    (d.0, d.1, d.2, d.3, (d.4.0, λ j s1. d.4.1.0 j (named_at (word w n) j i s1) (grammar.reference_type (grammar.class_type (named_class (word w n) j i s1)))), d.5)
means_type_tail k q (pair w o n ∷ vs) ss i ws d =
    (d.0, d.1, d.2, d.3, (d.4.0, λ j s1. d.4.1.0 j (named_at (pair w o n) j i s1) (grammar.reference_type (grammar.class_type (named_class (pair w o n) j i s1)))), d.5)
means_type_tail k q _ ss i ws d = tt

pub means_dimensions : (k : Terminal) (q : Tag) (vs : List StackItem) → Holds goals.Dimensions k q vs
means_dimensions terminals.LeftBracket q (part p f t ∷ vs) ss i ws (a, m, e, ka, (b, l, e2, kb, (p1, g, u, r, (z, h), d))) =
    (p1, g, u, r, (z, (λ j v x. h.0 j v (grammar.reference_type (array_of p j i m l t a b v x e ka e2 kb)), λ j v x. h.1 j v (array_of p j i m l t a b v (grammar.reference_type x) e ka e2 kb))), d)
means_dimensions k q (part p f t ∷ vs) ss i ws d = (p, f, t, i, (refl, (λ j v x. x, λ j v x. x)), d)
means_dimensions k q _ ss i ws d = tt

pub means_extended : (k : Terminal) (q : Tag) (vs : List StackItem) → Holds goals.Extended k q vs
means_extended terminals.Extends q vs ss i ws (a, m, e, ka, (b, l, f, kb, (p1, g, t, r, h, d))) = (p1, g, t, r, from e (grammar.extended a ka (h m (b, f, kb, refl, refl))), d)
means_extended k q vs ss i ws d = (nowhere, forms.Other, trees.Nil, i, grammar.not_extended, d)

pub means_class_tail : (k : Terminal) (q : Tag) (vs : List StackItem) → Holds goals.ClassTail k q vs
means_class_tail terminals.Dot q (word p n ∷ vs) ss i ws (d, m, e, kd, (b, l, f, kb, c)) =
    (p, forms.Type, trees.QualifiedType p n b.text, l, λ j o. named_class (pair p n b.text) j l (paired p n d b j i m l e kd f kb o), c)
means_class_tail k q (word p n ∷ vs) ss i ws d = (p, forms.Type, trees.NamedType p n, i, λ j o. named_class (word p n) j i o, d)
means_class_tail k q _ ss i ws d = tt
