-- The goals in parentheses, of casts and after `instanceof` denote what their rules denote.
use Rattle.std.proofs.Common.{◌≡◌, inl, inr, List, ◌∷◌, refl, ◌∙◌, le_refl, lit≤}
use Rattle.kr_base.specs.declared.place.Place.{Place}
use Rattle.kr_lex.specs.Lexemes.{Lexeme}
use Rattle.kr_lex.specs.declared.kind.Kind.{Kind}
use Rattle.kr_lex.specs.declared.kind.Kind.TheVariants as kinds
use Rattle.kr_ast.specs.Tree as trees
use Rattle.kr_ast.specs.Tree.{Tree}
use Rattle.kr_parse_grammar.specs.declared.terminal.Terminal.{Terminal}
use Rattle.kr_parse_grammar.specs.declared.terminal.Terminal.TheVariants as terminals
use Rattle.kr_parse_grammar.specs.declared.value.Form.{Form}
use Rattle.kr_parse_grammar.specs.declared.value.Form.TheVariants as forms
use Rattle.kr_parse_grammar.specs.declared.value.Tag.{Tag}
use Rattle.kr_parse_grammar.specs.declared.value.Tag.TheVariants as tags
use Rattle.kr_parse_grammar.specs.declared.goal.Goal.TheVariants as goals
use Rattle.kr_parse_grammar.specs.declared.goal.Make.TheVariants as makes
use Rattle.kr_parse_grammar.specs.declared.goal.Symbol.{Symbol}
use Rattle.kr_parse_grammar.specs.declared.goal.Symbol.TheVariants.{Take, Want, Build}
use Rattle.kr_parse_grammar.specs.Values.{StackItem, mark, word, pair, part, tag}
use Rattle.kr_parse_grammar.specs.Grammar as grammar
use Rattle.kr_parse_grammar.specs.Grammar.{Der, at, ReferenceType, AnyType}
use Rattle.kr_parse_laws.proofs.SoundMeanings.{Token, Named, NamedBefore, Primitively, place_of, class_of, operand_of, call_of, Enclosed, Dimensioned, Encloses, Chained, Meaning, Den, Goes, Holds}
use Rattle.kr_parse_laws.proofs.SoundSteps.{from, onto, begins, three, token_at, named_at, named_before, named_class, named_operand, named_call, paired, from_primary, from_postfix, from_unsigned, encloses_map}
use Rattle.kr_parse_laws.proofs.SoundTypes.{array_of}

cast_of : (p : Place) (h j i m r : List Lexeme) (t u : Tree) (b : Lexeme) → Token kinds.LeftParenthesis p h j → Der ReferenceType j t i → i ≡ b ∷ m
    → b.kind ≡ kinds.RightParenthesis → Der grammar.Unsigned m u r → Der grammar.Unsigned h (trees.Cast p t u) r
cast_of p h j i m r t u b (o, g, ko, z) d e kb x = rw z (from g (grammar.reference_cast o b ko (onto e d) kb x))

primitive_cast_of : (p q : Place) (h j i m r : List Lexeme) (t u : Tree) (b : Lexeme) → Token kinds.LeftParenthesis p h j → Primitively q t j i → i ≡ b ∷ m
    → b.kind ≡ kinds.RightParenthesis → Der grammar.Unary m u r → Der grammar.Unsigned h (trees.Cast p t u) r
primitive_cast_of p q h j i m r t u b (o, g, ko, z) (a, y, ka, w, v) e kb x = rw (z, v) (from (three g y e) (grammar.primitive_cast o a b ko ka kb x))

primitive_of_cast : (q : Place) (t : Tree) (j i : List Lexeme) → Primitively q t j i → Der AnyType j t i
primitive_of_cast q t j i (a, y, ka, w, v) = rw v (from y (grammar.primitive_type a ka))

primitive_at : (q : Place) (t : Tree) (j i : List Lexeme) → Primitively q t j i → q ≡ at j
primitive_at q t j i (a, y, ka, w, v) = w ∙ begins y

parens : (p : Place) (a j i m : List Lexeme) (t : Tree) (b : Lexeme) → Token kinds.LeftParenthesis p a j → Der grammar.Expression j t i → i ≡ b ∷ m
    → b.kind ≡ kinds.RightParenthesis → Der (grammar.Primary forms.Other) a t m
parens p a j i m t b (o, g, ko, z) d e kb = from g (grammar.parentheses o b ko (onto e d) kb)

expression_of : (f : Form) (j r : List Lexeme) (t : Tree) → Der (grammar.Primary f) j t r → Der grammar.Expression j t r
expression_of f j r t d = grammar.conditional (grammar.operation (grammar.operand (grammar.unsigned (grammar.postfix (grammar.primary d)))))

-- an element of the array that a name denotes
pub element : (v : StackItem) (j i l s : List Lexeme) (u : Tree) (b : Lexeme) → NamedBefore kinds.LeftBracket v j i → Der grammar.Expression i u l → l ≡ b ∷ s
    → b.kind ≡ kinds.RightBracket → Der (grammar.Primary forms.Target) j (trees.ArrayAccess (place_of v) (operand_of v) u) s
element v j i l s u b (c, h, kc) x y kb = rw (named_at v j (c ∷ i) h) (grammar.array_access c b (named_operand v j (c ∷ i) h) (λ z. cc) kc (onto y x) kb)

-- an array type after a name and `[`
pub named_array : (v : StackItem) (j i m : List Lexeme) (b : Lexeme) → NamedBefore kinds.LeftBracket v j i → i ≡ b ∷ m → b.kind ≡ kinds.RightBracket
    → Der ReferenceType j (trees.ArrayType (place_of v) (class_of v)) m
named_array v j i m b (c, h, kc) e kb =
    array_of (place_of v) j (c ∷ i) i m (class_of v) c b (named_at v j (c ∷ i) h) (grammar.reference_type (grammar.class_type (named_class v j (c ∷ i) h))) refl kc e kb

-- an expression in parentheses and its continuation
closed : (p : Place) (R : List Lexeme → Type 0) (t : Tree) (m : List Lexeme) (vs : List StackItem) (ss : List Symbol) (ws : List StackItem)
    → ((a j : List Lexeme) → Token kinds.LeftParenthesis p a j → R j → Der (grammar.Primary forms.Other) a t m)
    → Den (Want goals.Suffixes ∷ Want goals.Postfixes ∷ ss) (part p forms.Other t ∷ vs) m ws → Encloses p R vs (Goes ss ws)
closed p R t m vs ss ws parts (p1, g, u, l, (z, h), (p2, g2, v, r, (z2, h2), d)) =
    (p2, g2, v, r, (z2 ∙ z, λ a j o s. (let y = token_at kinds.LeftParenthesis p a j o in from_postfix g2 a r v (h2 a (z ∙ y) (from_primary g a l u (h a y (parts a j o s)))))), d)

pub means_closing : (k : Terminal) (q : Tag) (vs : List StackItem) → Holds goals.Closing k q vs
means_closing k q (part w f t ∷ mark x p ∷ vs) ss i ws (b, m, e, kb, d) = closed p (λ j. Der grammar.Expression j t i) t m vs ss ws (λ a j o s. parens p a j i m t b o s e kb) d
means_closing k q _ ss i ws d = tt

pub means_in_parentheses : (k : Terminal) (q : Tag) (vs : List StackItem) → Holds goals.InParentheses k q vs
means_in_parentheses terminals.Primitive q (mark x p ∷ vs) ss i ws (a, m, e, ka, (p1, f, t, r, (z, h), d)) = (p1, f, t, r, (z, λ b j o s. h b j o (a, s ∙ e, ka, refl, refl)), d)
means_in_parentheses terminals.Identifier q (mark x p ∷ vs) ss i ws (a, m, e, ka, (p1, f, t, r, (z, h), d)) = (p1, f, t, r, (z, λ b j o s. h b j o (a, s ∙ e, ka, refl, refl)), d)
means_in_parentheses k q (mark x p ∷ vs) ss i ws d = encloses_map p (λ j. Der grammar.Expression j d.2 d.3) (λ j. j ≡ i) vs (Goes ss ws) (λ j s. from s d.4.1) d.5
means_in_parentheses k q _ ss i ws d = tt

pub means_primitive_cast : (k : Terminal) (q : Tag) (vs : List StackItem) → Holds goals.PrimitiveCast k q vs
means_primitive_cast terminals.RightParenthesis q (part w f t ∷ mark x p ∷ vs) ss i ws (b, m, e, kb, (p1, g, u, r, (z, y), d)) =
    (p, forms.Other, trees.Cast p t u, r, (refl, λ a j o s. (primitive_cast_of p w a j i m r t u b o s e kb y.0, tt)), d)
means_primitive_cast terminals.LeftBracket q (part w f t ∷ mark x p ∷ vs) ss i ws (a, m, e, ka, (b, l, e2, kb, (p1, g, u, s, (z, h), (c, n, e3, kc, (p2, g2, v, r, (z2, y), d))))) =
    (p, forms.Other, trees.Cast p u v, r, (refl, λ a1 j o s1. (cast_of p a1 j s n r u v c o (h.1 j (primitive_at w t j i s1) (array_of w j i m l t a b (primitive_at w t j i s1) (primitive_of_cast w t j i s1) e ka e2 kb)) e3 kc y.0, tt)), d)
means_primitive_cast _ q (part w f t ∷ mark x p ∷ vs) ss i ws d = absurd d
means_primitive_cast k q _ ss i ws d = tt

-- the continuation of a name in parentheses
enclosed_token : (x : Kind) (v : StackItem) (p : Place) (vs : List StackItem) (ss : List Symbol) (ws : List StackItem) (i m : List Lexeme) (b : Lexeme) → i ≡ b ∷ m → b.kind ≡ x
    → Encloses p (λ j. NamedBefore x v j m) vs (Goes ss ws) → Encloses p (λ j. Named v j i) vs (Goes ss ws)
enclosed_token x v p vs ss ws i m b y kb d = encloses_map p (λ j. NamedBefore x v j m) (λ j. Named v j i) vs (Goes ss ws) (λ j s. named_before x v j i m b y kb s) d

enclosed_chain : (v : StackItem) (x : Kind) (p : Place) (vs : List StackItem) (ss : List Symbol) (ws : List StackItem) (i m : List Lexeme) (b : Lexeme) → i ≡ b ∷ m → b.kind ≡ kinds.Less
    → Chained (mark x p ∷ vs) (λ j. (h : List Lexeme) × (j ≡ h) × NamedBefore kinds.Less v h m) (λ us r. Meaning goals.AfterChain us r (Goes ss ws))
    → Encloses p (λ j. Named v j i) vs (Goes ss ws)
enclosed_chain v x p vs ss ws i m b y kb (inl (p1, t, r, h, d)) =
    encloses_map p (λ j. Der ReferenceType j t r) (λ j. Named v j i) vs (Goes ss ws) (λ j s. h j (j, refl, named_before kinds.Less v j i m b y kb s)) d
enclosed_chain v x p vs ss ws i m b y kb (inr (p1, t, r, h, d)) =
    encloses_map p (λ j. (p1 ≡ at j) × Der (grammar.Operation 7) j t r) (λ j. Named v j i) vs (Goes ss ws) (λ j s. h j (j, refl, named_before kinds.Less v j i m b y kb s)) d

enclosed_call : (v : StackItem) (p : Place) (vs : List StackItem) (ss : List Symbol) (ws : List StackItem) (i r : List Lexeme) (u : Tree) → Enclosed i u r
    → Encloses p (λ j. (place_of v ≡ at j) × Der (grammar.Primary forms.Invocation) j (call_of v u) r) vs (Goes ss ws) → Encloses p (λ j. Named v j i) vs (Goes ss ws)
enclosed_call v p vs ss ws i r u e d =
    encloses_map p (λ j. (place_of v ≡ at j) × Der (grammar.Primary forms.Invocation) j (call_of v u) r) (λ j. Named v j i) vs (Goes ss ws)
    (λ j s. (named_at v j i s, named_call v j i r u s e)) d

enclosed_operand : (v : StackItem) (p : Place) (vs : List StackItem) (ss : List Symbol) (ws : List StackItem) (i : List Lexeme)
    → Encloses p (λ j. (place_of v ≡ at j) × Der (grammar.Primary forms.Target) j (operand_of v) i) vs (Goes ss ws) → Encloses p (λ j. Named v j i) vs (Goes ss ws)
enclosed_operand v p vs ss ws i d =
    encloses_map p (λ j. (place_of v ≡ at j) × Der (grammar.Primary forms.Target) j (operand_of v) i) (λ j. Named v j i) vs (Goes ss ws) (λ j s. (named_at v j i s, named_operand v j i s)) d

pub means_enclosed_name : (k : Terminal) (q : Tag) (vs : List StackItem) → tag vs ≡ q → Holds goals.EnclosedName k q vs
means_enclosed_name terminals.Dot tags.Word (word w n ∷ mark x p ∷ vs) e ss i ws (c, m, y, kc, (b, l, f, kb, d)) =
    encloses_map p (λ j. Named (pair w n b.text) j l) (λ j. Named (word w n) j i) vs (Goes ss ws) (λ j s. paired w n c b j i m l y kc f kb s) d
means_enclosed_name terminals.Dot tags.Word (pair w o n ∷ mark x p ∷ vs) e ss i ws d = (let bad : tags.Pair ≡ tags.Word = e in cc)
means_enclosed_name terminals.RightParenthesis q (word w n ∷ mark x p ∷ vs) e ss i ws (b, m, y, kb, d) = enclosed_token kinds.RightParenthesis (word w n) p vs ss ws i m b y kb d
means_enclosed_name terminals.RightParenthesis q (pair w o n ∷ mark x p ∷ vs) e ss i ws (b, m, y, kb, d) =
    enclosed_token kinds.RightParenthesis (pair w o n) p vs ss ws i m b y kb d
means_enclosed_name terminals.LeftBracket q (word w n ∷ mark x p ∷ vs) e ss i ws (b, m, y, kb, d) = enclosed_token kinds.LeftBracket (word w n) p vs ss ws i m b y kb d
means_enclosed_name terminals.LeftBracket q (pair w o n ∷ mark x p ∷ vs) e ss i ws (b, m, y, kb, d) = enclosed_token kinds.LeftBracket (pair w o n) p vs ss ws i m b y kb d
means_enclosed_name terminals.Less q (word w n ∷ mark x p ∷ vs) e ss i ws (b, m, y, kb, d) = enclosed_chain (word w n) x p vs ss ws i m b y kb d
means_enclosed_name terminals.Less q (pair w o n ∷ mark x p ∷ vs) e ss i ws (b, m, y, kb, d) = enclosed_chain (pair w o n) x p vs ss ws i m b y kb d
means_enclosed_name terminals.LeftParenthesis q (word w n ∷ mark x p ∷ vs) e ss i ws (c, m, y, kc, (p1, g, u, l, x1, (b, s, y2, kb, d))) =
    enclosed_call (word w n) p vs ss ws i s u (c, b, m, y, kc, onto y2 x1, kb) d
means_enclosed_name terminals.LeftParenthesis q (pair w o n ∷ mark x p ∷ vs) e ss i ws (c, m, y, kc, (p1, g, u, l, x1, (b, s, y2, kb, d))) =
    enclosed_call (pair w o n) p vs ss ws i s u (c, b, m, y, kc, onto y2 x1, kb) d
means_enclosed_name k q (word w n ∷ mark x p ∷ vs) e ss i ws d = enclosed_operand (word w n) p vs ss ws i d
means_enclosed_name k q (pair w o n ∷ mark x p ∷ vs) e ss i ws d = enclosed_operand (pair w o n) p vs ss ws i d
means_enclosed_name k q _ e ss i ws d = tt

array_cast : (v : StackItem) (p : Place) (a j i m l s r : List Lexeme) (u t : Tree) (b c : Lexeme) → Token kinds.LeftParenthesis p a j → NamedBefore kinds.LeftBracket v j i → i ≡ b ∷ m
    → b.kind ≡ kinds.RightBracket
    → Dimensioned (place_of v) (trees.ArrayType (place_of v) (class_of v)) m u l → l ≡ c ∷ s → c.kind ≡ kinds.RightParenthesis → Der grammar.Unsigned s t r
    → Der grammar.Unsigned a (trees.Cast p u t) r
array_cast v p a j i m l s r u t b c o (g, n, kg) y kb h y2 kc x = cast_of p a j l s r u t c o (h.1 j (named_at v j (g ∷ i) n) (named_array v j i m b (g, n, kg) y kb)) y2 kc x

enclosed_element : (v : StackItem) (x : Kind) (p : Place) (vs : List StackItem) (ss : List Symbol) (ws : List StackItem) (i : List Lexeme)
    → Den (Want goals.Expression ∷ Take terminals.RightBracket ∷ Build makes.ArrayAccess ∷ Want goals.EnclosedPrimary ∷ ss) (part (place_of v) forms.Target (operand_of v) ∷ mark x p ∷ vs) i ws
    → Encloses p (λ j. NamedBefore kinds.LeftBracket v j i) vs (Goes ss ws)
enclosed_element v x p vs ss ws i (p1, f1, u, l, (z1, x1), (b, s, y, kb, d)) =
    encloses_map p (λ j. (place_of v ≡ at j) × Der (grammar.Primary forms.Target) j (trees.ArrayAccess (place_of v) (operand_of v) u) s) (λ j. NamedBefore kinds.LeftBracket v j i) vs (Goes ss ws)
    (λ j o. (named_at v j (o.0 ∷ i) o.1, element v j i l s u b o x1 y kb)) d

pub means_enclosed_bracket : (k : Terminal) (q : Tag) (vs : List StackItem) → Holds goals.EnclosedBracket k q vs
means_enclosed_bracket terminals.RightBracket q (word w n ∷ mark x p ∷ vs) ss i ws (b, m, y, kb, (p1, g, u, l, (z, h), (c, s, y2, kc, (p2, g2, t, r, (z2, x2), d)))) =
    (p, forms.Other, trees.Cast p u t, r, (refl, λ a j o1 s1. (array_cast (word w n) p a j i m l s r u t b c o1 s1 y kb h y2 kc x2.0, tt)), d)
means_enclosed_bracket terminals.RightBracket q (pair w o n ∷ mark x p ∷ vs) ss i ws (b, m, y, kb, (p1, g, u, l, (z, h), (c, s, y2, kc, (p2, g2, t, r, (z2, x2), d)))) =
    (p, forms.Other, trees.Cast p u t, r, (refl, λ a j o1 s1. (array_cast (pair w o n) p a j i m l s r u t b c o1 s1 y kb h y2 kc x2.0, tt)), d)
means_enclosed_bracket k q (word w n ∷ mark x p ∷ vs) ss i ws d = enclosed_element (word w n) x p vs ss ws i d
means_enclosed_bracket k q (pair w o n ∷ mark x p ∷ vs) ss i ws d = enclosed_element (pair w o n) x p vs ss ws i d
means_enclosed_bracket k q _ ss i ws d = tt

pub means_enclosed_primary : (k : Terminal) (q : Tag) (vs : List StackItem) → Holds goals.EnclosedPrimary k q vs
means_enclosed_primary k q (part w f t ∷ mark x p ∷ vs) ss i ws (p1, f1, t1, m1, (z1, h1), (p2, f2, t2, m2, (z2, h2), (p3, f3, t3, m3, (z3, h3), d))) =
    encloses_map p (λ j. Der grammar.Expression j t3 m3) (λ j. (w ≡ at j) × Der (grammar.Primary f) j t i) vs (Goes ss ws)
    (λ j s. h3 j (z2 ∙ (z1 ∙ s.0)) (from_unsigned f2 j m2 t2 (from_postfix f2 j m2 t2 (h2 j (z1 ∙ s.0) (from_primary f1 j m1 t1 (h1 j s.0 s.1)))))) d
means_enclosed_primary k q _ ss i ws d = tt

cast_name : (v : StackItem) (x : Kind) (p : Place) (vs : List StackItem) (ss : List Symbol) (i : List Lexeme) (ws : List StackItem)
    → Den (Want goals.Unsigned ∷ Build makes.Cast ∷ ss) (part (place_of v) forms.Type (class_of v) ∷ mark x p ∷ vs) i ws
    → Encloses p (λ j. NamedBefore kinds.RightParenthesis v j i) vs (Goes ss ws)
cast_name v x p vs ss i ws (p1, f1, u, r, (z1, x1), d) =
    (p, forms.Other, trees.Cast p (class_of v) u, r, (refl, λ a j o1 s. (cast_of p a j (s.0 ∷ i) i r (class_of v) u s.0 o1 (grammar.class_type (named_class v j (s.0 ∷ i) s.1)) refl s.2 x1.0, tt)), d)

enclosed_alone : (v : StackItem) (p : Place) (vs : List StackItem) (ss : List Symbol) (ws : List StackItem) (i : List Lexeme)
    → Den (Want goals.Suffixes ∷ Want goals.Postfixes ∷ ss) (part p forms.Other (operand_of v) ∷ vs) i ws
    → Encloses p (λ j. NamedBefore kinds.RightParenthesis v j i) vs (Goes ss ws)
enclosed_alone v p vs ss ws i d =
    closed p (λ j. NamedBefore kinds.RightParenthesis v j i) (operand_of v) i vs ss ws
    (λ a j o s. parens p a j (s.0 ∷ i) i (operand_of v) s.0 o (expression_of forms.Target j (s.0 ∷ i) (operand_of v) (named_operand v j (s.0 ∷ i) s.1)) refl s.2) d

pub means_after_enclosed_name : (k : Terminal) (q : Tag) (vs : List StackItem) → Holds goals.AfterEnclosedName k q vs
means_after_enclosed_name terminals.Identifier q (word w n ∷ mark x p ∷ vs) ss i ws d = cast_name (word w n) x p vs ss i ws d
means_after_enclosed_name terminals.Identifier q (pair w o n ∷ mark x p ∷ vs) ss i ws d = cast_name (pair w o n) x p vs ss i ws d
means_after_enclosed_name terminals.Literal q (word w n ∷ mark x p ∷ vs) ss i ws d = cast_name (word w n) x p vs ss i ws d
means_after_enclosed_name terminals.Literal q (pair w o n ∷ mark x p ∷ vs) ss i ws d = cast_name (pair w o n) x p vs ss i ws d
means_after_enclosed_name terminals.LeftParenthesis q (word w n ∷ mark x p ∷ vs) ss i ws d = cast_name (word w n) x p vs ss i ws d
means_after_enclosed_name terminals.LeftParenthesis q (pair w o n ∷ mark x p ∷ vs) ss i ws d = cast_name (pair w o n) x p vs ss i ws d
means_after_enclosed_name terminals.New q (word w n ∷ mark x p ∷ vs) ss i ws d = cast_name (word w n) x p vs ss i ws d
means_after_enclosed_name terminals.New q (pair w o n ∷ mark x p ∷ vs) ss i ws d = cast_name (pair w o n) x p vs ss i ws d
means_after_enclosed_name terminals.Super q (word w n ∷ mark x p ∷ vs) ss i ws d = cast_name (word w n) x p vs ss i ws d
means_after_enclosed_name terminals.Old q (word w n ∷ mark x p ∷ vs) ss i ws d = cast_name (word w n) x p vs ss i ws d
means_after_enclosed_name terminals.Super q (pair w o n ∷ mark x p ∷ vs) ss i ws d = cast_name (pair w o n) x p vs ss i ws d
means_after_enclosed_name terminals.Old q (pair w o n ∷ mark x p ∷ vs) ss i ws d = cast_name (pair w o n) x p vs ss i ws d
means_after_enclosed_name terminals.Complement q (word w n ∷ mark x p ∷ vs) ss i ws d = cast_name (word w n) x p vs ss i ws d
means_after_enclosed_name terminals.Complement q (pair w o n ∷ mark x p ∷ vs) ss i ws d = cast_name (pair w o n) x p vs ss i ws d
means_after_enclosed_name k q (word w n ∷ mark x p ∷ vs) ss i ws d = enclosed_alone (word w n) p vs ss ws i d
means_after_enclosed_name k q (pair w o n ∷ mark x p ∷ vs) ss i ws d = enclosed_alone (pair w o n) p vs ss ws i d
means_after_enclosed_name k q _ ss i ws d = tt

pub means_after_chain : (k : Terminal) (vs : List StackItem) → Holds goals.AfterChain k (tag vs) vs
means_after_chain k (part w forms.Type t ∷ mark x p ∷ vs) ss i ws (b, m, y, kb, (p1, f1, u, r, (z1, x1), d)) =
    (p, forms.Other, trees.Cast p t u, r, (refl, λ a j o s. (cast_of p a j i m r t u b o s y kb x1.0, tt)), d)
means_after_chain k (part w forms.Other t ∷ mark x p ∷ vs) ss i ws (p1, g1, t1, m1, (z1, h1), (p2, g2, t2, m2, (z2, h2), d)) =
    encloses_map p (λ j. Der grammar.Expression j t2 m2) (λ j. (w ≡ at j) × Der (grammar.Operation 7) j t i) vs (Goes ss ws)
    (λ j s. (let o = h1 j 7 s.0 (le_refl 7) (lit≤ tt) s.1 in grammar.conditional (h2 j o.0 (z1 ∙ s.0) o.2))) d
means_after_chain k _ ss i ws d = tt
