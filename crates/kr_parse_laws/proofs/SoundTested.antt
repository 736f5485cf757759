-- The goals of names with `<` between them, and those after `instanceof`, denote what their rules denote.
use Rattle.std.proofs.Common.{◌≡◌, inl, inr, ℕ, List, ◌∷◌, refl, ◌∙◌, lit≤}
use Rattle.kr_base.specs.declared.place.Place.{Place}
use Rattle.kr_lex.specs.Lexemes.{Lexeme}
use Rattle.kr_lex.specs.declared.kind.Kind.{Kind}
use Rattle.kr_lex.specs.declared.kind.Kind.TheVariants as kinds
use Rattle.kr_ast.specs.declared.node.BinaryOperator.TheVariants as binaries
use Rattle.kr_ast.specs.Tree as trees
use Rattle.kr_ast.specs.Tree.{Tree}
use Rattle.kr_parse_grammar.specs.declared.terminal.Terminal.{Terminal}
use Rattle.kr_parse_grammar.specs.declared.terminal.Terminal.TheVariants as terminals
use Rattle.kr_parse_grammar.specs.declared.value.Form.{Form}
use Rattle.kr_parse_grammar.specs.declared.value.Form.TheVariants as forms
use Rattle.kr_parse_grammar.specs.declared.value.Tag.{Tag}
use Rattle.kr_parse_grammar.specs.declared.value.Tag.TheVariants as tags
use Rattle.kr_parse_grammar.specs.declared.goal.Goal.TheVariants as goals
use Rattle.kr_parse_grammar.specs.declared.goal.Make.TheVariants as makes
use Rattle.kr_parse_grammar.specs.declared.goal.Symbol.{Symbol}
use Rattle.kr_parse_grammar.specs.declared.goal.Symbol.TheVariants.{Take, Want, Build}
use Rattle.kr_parse_grammar.specs.Values.{StackItem, word, pair, part, tag}
use Rattle.kr_parse_grammar.specs.Made.{the_primitive, compared, joined}
use Rattle.kr_parse_grammar.specs.Grammar as grammar
use Rattle.kr_parse_grammar.specs.Grammar.{Der, at, AnyType}
use Rattle.kr_parse_laws.proofs.SoundMeanings.{Named, NamedBefore, place_of, class_of, operand_of, call_of, Tight, Enclosed, Compares, Before, Chained, Behind, argument, Ending, EndingBefore, Meaning, Den, Goes, Holds}
use Rattle.kr_parse_laws.proofs.SoundSteps.{from, onto, begins, named_at, named_before, named_class, named_operand, named_call, paired, from_primary}
use Rattle.kr_parse_laws.proofs.SoundTypes.{array_of}
use Rattle.kr_parse_laws.proofs.SoundChains.{chained_map, behind_of, behind_map, as_argument, of_argument, any_argument, fills, compare_of, test_of, chain_less, chain_greater, chain_operand, less_is}
use Rattle.kr_parse_laws.proofs.SoundEnclosed.{element, named_array}

pub means_chain_argument : (k : Terminal) (q : Tag) (us : List StackItem) → Holds goals.ChainArgument k q us
means_chain_argument terminals.Primitive q us ss i ws (a, m, e, ka, d) =
    behind_of us (Chained us (λ j. Before us j i) (Goes ss ws))
    (λ z. chained_map us (λ j. (h : List Lexeme) × Before us j h × (a.place ≡ at h) × Der (argument us) h (trees.PrimitiveType a.place (the_primitive a.kind)) m) (λ j. Before us j i) (Goes ss ws)
    (λ j s. (i, s, begins e, any_argument us i m (trees.PrimitiveType a.place (the_primitive a.kind)) z (from e (grammar.primitive_type a ka)))) d)
means_chain_argument terminals.Identifier q us ss i ws (a, m, e, ka, d) =
    behind_map us (Chained us (λ j. Ending (word a.place a.text) us m j) (Goes ss ws)) (Chained us (λ j. Before us j i) (Goes ss ws))
    (λ x. chained_map us (λ j. Ending (word a.place a.text) us m j) (λ j. Before us j i) (Goes ss ws) (λ j s. (i, s, (a, e, ka, refl, refl))) x) d
means_chain_argument k q (word w n ∷ us) ss i ws d = chain_less (word w n) us ss i ws d
means_chain_argument k q (pair w o n ∷ us) ss i ws d = chain_less (pair w o n) us ss i ws d
means_chain_argument k q _ ss i ws d = tt

-- the continuation of a name in a chain
chain_token : (x : Kind) (v : StackItem) (us : List StackItem) (ss : List Symbol) (ws : List StackItem) (i m : List Lexeme) (b : Lexeme) → i ≡ b ∷ m → b.kind ≡ x
    → Chained us (λ j. EndingBefore x v us m j) (Goes ss ws) → Chained us (λ j. Ending v us i j) (Goes ss ws)
chain_token x v us ss ws i m b y kb d = chained_map us (λ j. EndingBefore x v us m j) (λ j. Ending v us i j) (Goes ss ws) (λ j s. (s.0, s.1, named_before x v s.0 i m b y kb s.2)) d

behind_token : (x : Kind) (v : StackItem) (us : List StackItem) (ss : List Symbol) (ws : List StackItem) (i m : List Lexeme) (b : Lexeme) → i ≡ b ∷ m → b.kind ≡ x
    → Behind us (Chained us (λ j. EndingBefore x v us m j) (Goes ss ws)) → Behind us (Chained us (λ j. Ending v us i j) (Goes ss ws))
behind_token x v us ss ws i m b y kb d =
    behind_map us (Chained us (λ j. EndingBefore x v us m j) (Goes ss ws)) (Chained us (λ j. Ending v us i j) (Goes ss ws)) (λ c. chain_token x v us ss ws i m b y kb c) d

behind_less : (v : StackItem) (us : List StackItem) (ss : List Symbol) (ws : List StackItem) (i m : List Lexeme) (b : Lexeme) → i ≡ b ∷ m → b.kind ≡ kinds.Less
    → Chained us (λ j. EndingBefore kinds.Less v us m j) (Goes ss ws) → Behind us (Chained us (λ j. Ending v us i j) (Goes ss ws))
behind_less v us ss ws i m b y kb d = behind_of us (Chained us (λ j. Ending v us i j) (Goes ss ws)) (λ z. chain_token kinds.Less v us ss ws i m b y kb d)

behind_dot : (w : Place) (n : List ℕ) (us : List StackItem) (ss : List Symbol) (ws : List StackItem) (i m l : List Lexeme) (c b : Lexeme) → i ≡ c ∷ m → c.kind ≡ kinds.Dot → m ≡ b ∷ l
    → b.kind ≡ kinds.Identifier
    → Behind us (Chained us (λ j. Ending (pair w n b.text) us l j) (Goes ss ws)) → Behind us (Chained us (λ j. Ending (word w n) us i j) (Goes ss ws))
behind_dot w n us ss ws i m l c b y kc f kb d =
    behind_map us (Chained us (λ j. Ending (pair w n b.text) us l j) (Goes ss ws)) (Chained us (λ j. Ending (word w n) us i j) (Goes ss ws))
    (λ x. chained_map us (λ j. Ending (pair w n b.text) us l j) (λ j. Ending (word w n) us i j) (Goes ss ws) (λ j s. (s.0, s.1, paired w n c b s.0 i m l y kc f kb s.2)) x) d

behind_call : (v : StackItem) (us : List StackItem) (ss : List Symbol) (ws : List StackItem) (i r : List Lexeme) (u : Tree) → Enclosed i u r
    → Den (Want goals.ChainPrimary ∷ ss) (part (place_of v) forms.Invocation (call_of v u) ∷ compared us) r ws → Behind us (Chained us (λ j. Ending v us i j) (Goes ss ws))
behind_call v us ss ws i r u e d =
    behind_of us (Chained us (λ j. Ending v us i j) (Goes ss ws))
    (λ z. chain_operand us (λ h. Named v h i) forms.Invocation (place_of v) (call_of v u) ss r ws z (λ h s. (named_at v h i s, named_call v h i r u s e)) d)

behind_operand : (v : StackItem) (us : List StackItem) (ss : List Symbol) (ws : List StackItem) (i : List Lexeme)
    → Den (Want goals.ChainPrimary ∷ ss) (part (place_of v) forms.Target (operand_of v) ∷ compared us) i ws → Behind us (Chained us (λ j. Ending v us i j) (Goes ss ws))
behind_operand v us ss ws i d =
    behind_of us (Chained us (λ j. Ending v us i j) (Goes ss ws))
    (λ z. chain_operand us (λ h. Named v h i) forms.Target (place_of v) (operand_of v) ss i ws z (λ h s. (named_at v h i s, named_operand v h i s)) d)

pub means_chain_name : (k : Terminal) (q : Tag) (vs : List StackItem) → tag vs ≡ q → Holds goals.ChainName k q vs
means_chain_name terminals.Dot tags.Word (word w n ∷ us) e ss i ws (c, m, y, kc, (b, l, f, kb, d)) = behind_dot w n us ss ws i m l c b y kc f kb d
means_chain_name terminals.Dot tags.Word (pair w o n ∷ us) e ss i ws d = (let bad : tags.Pair ≡ tags.Word = e in cc)
means_chain_name terminals.Less q (word w n ∷ us) e ss i ws (b, m, y, kb, d) = behind_less (word w n) us ss ws i m b y kb d
means_chain_name terminals.Less q (pair w o n ∷ us) e ss i ws (b, m, y, kb, d) = behind_less (pair w o n) us ss ws i m b y kb d
means_chain_name terminals.Greater q (word w n ∷ us) e ss i ws (b, m, y, kb, d) = behind_token kinds.Greater (word w n) us ss ws i m b y kb d
means_chain_name terminals.Greater q (pair w o n ∷ us) e ss i ws (b, m, y, kb, d) = behind_token kinds.Greater (pair w o n) us ss ws i m b y kb d
means_chain_name terminals.LeftBracket q (word w n ∷ us) e ss i ws (b, m, y, kb, d) = behind_token kinds.LeftBracket (word w n) us ss ws i m b y kb d
means_chain_name terminals.LeftBracket q (pair w o n ∷ us) e ss i ws (b, m, y, kb, d) = behind_token kinds.LeftBracket (pair w o n) us ss ws i m b y kb d
means_chain_name terminals.LeftParenthesis q (word w n ∷ us) e ss i ws (c, m, y, kc, (p1, g, u, l, x1, (b, s, y2, kb, d))) =
    behind_call (word w n) us ss ws i s u (c, b, m, y, kc, onto y2 x1, kb) d
means_chain_name terminals.LeftParenthesis q (pair w o n ∷ us) e ss i ws (c, m, y, kc, (p1, g, u, l, x1, (b, s, y2, kb, d))) =
    behind_call (pair w o n) us ss ws i s u (c, b, m, y, kc, onto y2 x1, kb) d
means_chain_name k q (word w n ∷ us) e ss i ws d = behind_operand (word w n) us ss ws i d
means_chain_name k q (pair w o n ∷ us) e ss i ws d = behind_operand (pair w o n) us ss ws i d
means_chain_name k q _ e ss i ws d = tt

behind_array : (v : StackItem) (us : List StackItem) (ss : List Symbol) (ws : List StackItem) (i m : List Lexeme) (b : Lexeme) → i ≡ b ∷ m → b.kind ≡ kinds.RightBracket
    → Den (Want goals.ChainClosing ∷ ss) (part (place_of v) forms.Type (trees.ArrayType (place_of v) (class_of v)) ∷ us) m ws
    → Behind us (Chained us (λ j. EndingBefore kinds.LeftBracket v us i j) (Goes ss ws))
behind_array v us ss ws i m b y kb d =
    behind_of us (Chained us (λ j. EndingBefore kinds.LeftBracket v us i j) (Goes ss ws))
    (λ z. chained_map us (λ j. (h : List Lexeme) × Before us j h × (place_of v ≡ at h) × Der (argument us) h (trees.ArrayType (place_of v) (class_of v)) m) (λ j. EndingBefore kinds.LeftBracket v us i j) (Goes ss ws)
    (λ j s. (s.0, s.1, named_at v s.0 (s.2.0 ∷ i) s.2.1, as_argument us s.0 m (trees.ArrayType (place_of v) (class_of v)) (named_array v s.0 i m b s.2 y kb))) d)

behind_element : (v : StackItem) (us : List StackItem) (ss : List Symbol) (ws : List StackItem) (i : List Lexeme)
    → Den (Want goals.Expression ∷ Take terminals.RightBracket ∷ Build makes.ArrayAccess ∷ Want goals.ChainPrimary ∷ ss) (part (place_of v) forms.Target (operand_of v) ∷ compared us) i ws
    → Behind us (Chained us (λ j. EndingBefore kinds.LeftBracket v us i j) (Goes ss ws))
behind_element v us ss ws i (p1, f1, u, l, (z1, x1), (b, s, y, kb, d)) =
    behind_of us (Chained us (λ j. EndingBefore kinds.LeftBracket v us i j) (Goes ss ws))
    (λ z. chain_operand us (λ h. NamedBefore kinds.LeftBracket v h i) forms.Target (place_of v) (trees.ArrayAccess (place_of v) (operand_of v) u) ss s ws z
    (λ h o. (named_at v h (o.0 ∷ i) o.1, element v h i l s u b o x1 y kb)) d)

pub means_chain_bracket : (k : Terminal) (q : Tag) (vs : List StackItem) → Holds goals.ChainBracket k q vs
means_chain_bracket terminals.RightBracket q (word w n ∷ us) ss i ws (b, m, y, kb, d) = behind_array (word w n) us ss ws i m b y kb d
means_chain_bracket terminals.RightBracket q (pair w o n ∷ us) ss i ws (b, m, y, kb, d) = behind_array (pair w o n) us ss ws i m b y kb d
means_chain_bracket k q (word w n ∷ us) ss i ws d = behind_element (word w n) us ss ws i d
means_chain_bracket k q (pair w o n ∷ us) ss i ws d = behind_element (pair w o n) us ss ws i d
means_chain_bracket k q _ ss i ws d = tt

pub means_chain_primary : (k : Terminal) (q : Tag) (vs : List StackItem) → Holds goals.ChainPrimary k q vs
means_chain_primary k q (part w f t ∷ part p g x ∷ vs) ss i ws (p1, f1, t1, m1, (z1, h1), (p2, f2, t2, m2, (z2, h2), (p3, f3, t3, r, (z3, h3), d))) =
    (trees.Binary p binaries.Less x t3, r, λ j m b zp c kb zq dx. compare_of binaries.Less p j m r x t3 b (less_is b.kind kb) refl zp c (right m zq dx), d)
  where
    right : (m : List Lexeme) → w ≡ at m → Der (grammar.Primary f) m t i → Tight 8 m t3 r
    right m zq dx =
        let y = h2 m (z1 ∙ zq) (from_primary f1 m m1 t1 (h1 m zq dx)) in
        h3 m 11 (z2 ∙ (z1 ∙ zq)) (lit≤ tt) (lit≤ tt) (grammar.operand (grammar.unsigned (grammar.postfix y.0)))
means_chain_primary k q _ ss i ws d = tt

generic_end : (v w : StackItem) (us : List StackItem) (ss : List Symbol) (i : List Lexeme) (ws : List StackItem)
    → Den (Want goals.ChainClosing ∷ ss) (part (place_of w) forms.Type (trees.GenericType (place_of w) (class_of w) (class_of v)) ∷ us) i ws
    → Chained us (λ j. (m : List Lexeme) × ((h : List Lexeme) × Before us j h × NamedBefore kinds.Less w h m) × NamedBefore kinds.Greater v m i) (Goes ss ws)
generic_end v w us ss i ws d =
    chained_map us (λ j. (h : List Lexeme) × Before us j h × (place_of w ≡ at h) × Der (argument us) h (trees.GenericType (place_of w) (class_of w) (class_of v)) i)
    (λ j. (m : List Lexeme) × ((h : List Lexeme) × Before us j h × NamedBefore kinds.Less w h m) × NamedBefore kinds.Greater v m i) (Goes ss ws)
    (λ j s. fills w us j s.0 (s.2.0 ∷ i) i (class_of v) s.2.0 s.1 (grammar.reference_type (grammar.class_type (named_class v s.0 (s.2.0 ∷ i) s.2.1))) refl s.2.2) d

behind_greater : (v : StackItem) (us : List StackItem) (ss : List Symbol) (ws : List StackItem) (i : List Lexeme)
    → Den (Want goals.Unary ∷ Want (goals.Operators 8 10) ∷ Build makes.Greater ∷ ss) (joined (place_of v) (operand_of v) (class_of v) us (compared us)) i ws
    → Behind us (Chained us (λ j. EndingBefore kinds.Greater v us i j) (Goes ss ws))
behind_greater v us ss ws i d = behind_of us (Chained us (λ j. EndingBefore kinds.Greater v us i j) (Goes ss ws)) (λ z. chain_greater v us ss i ws d)

pub means_chain_greater : (k : Terminal) (q : Tag) (vs : List StackItem) → Holds goals.ChainGreater k q vs
means_chain_greater terminals.Sign q (word w n ∷ us) ss i ws d = behind_greater (word w n) us ss ws i d
means_chain_greater terminals.Sign q (pair w o n ∷ us) ss i ws d = behind_greater (pair w o n) us ss ws i d
means_chain_greater terminals.Step q (word w n ∷ us) ss i ws d = behind_greater (word w n) us ss ws i d
means_chain_greater terminals.Step q (pair w o n ∷ us) ss i ws d = behind_greater (pair w o n) us ss ws i d
means_chain_greater terminals.Identifier q (word w n ∷ us) ss i ws d = behind_greater (word w n) us ss ws i d
means_chain_greater terminals.Identifier q (pair w o n ∷ us) ss i ws d = behind_greater (pair w o n) us ss ws i d
means_chain_greater terminals.Literal q (word w n ∷ us) ss i ws d = behind_greater (word w n) us ss ws i d
means_chain_greater terminals.Literal q (pair w o n ∷ us) ss i ws d = behind_greater (pair w o n) us ss ws i d
means_chain_greater terminals.LeftParenthesis q (word w n ∷ us) ss i ws d = behind_greater (word w n) us ss ws i d
means_chain_greater terminals.LeftParenthesis q (pair w o n ∷ us) ss i ws d = behind_greater (pair w o n) us ss ws i d
means_chain_greater terminals.New q (word w n ∷ us) ss i ws d = behind_greater (word w n) us ss ws i d
means_chain_greater terminals.New q (pair w o n ∷ us) ss i ws d = behind_greater (pair w o n) us ss ws i d
means_chain_greater terminals.Super q (word w n ∷ us) ss i ws d = behind_greater (word w n) us ss ws i d
means_chain_greater terminals.Old q (word w n ∷ us) ss i ws d = behind_greater (word w n) us ss ws i d
means_chain_greater terminals.Super q (pair w o n ∷ us) ss i ws d = behind_greater (pair w o n) us ss ws i d
means_chain_greater terminals.Old q (pair w o n ∷ us) ss i ws d = behind_greater (pair w o n) us ss ws i d
means_chain_greater terminals.Complement q (word w n ∷ us) ss i ws d = behind_greater (word w n) us ss ws i d
means_chain_greater terminals.Complement q (pair w o n ∷ us) ss i ws d = behind_greater (pair w o n) us ss ws i d
means_chain_greater k q (word w n ∷ word w2 n2 ∷ us) ss i ws d = generic_end (word w n) (word w2 n2) us ss i ws d
means_chain_greater k q (pair w o n ∷ word w2 n2 ∷ us) ss i ws d = generic_end (pair w o n) (word w2 n2) us ss i ws d
means_chain_greater k q (word w n ∷ pair w2 o2 n2 ∷ us) ss i ws d = generic_end (word w n) (pair w2 o2 n2) us ss i ws d
means_chain_greater k q (pair w o n ∷ pair w2 o2 n2 ∷ us) ss i ws d = generic_end (pair w o n) (pair w2 o2 n2) us ss i ws d
means_chain_greater k q _ ss i ws d = tt

generic_fill : (v : StackItem) (us : List StackItem) (p : Place) (t : Tree) (ss : List Symbol) (ws : List StackItem) (i r : List Lexeme) (c : Lexeme) → i ≡ c ∷ r → c.kind ≡ kinds.Greater
    → Den (Want goals.ChainClosing ∷ ss) (part (place_of v) forms.Type (trees.GenericType (place_of v) (class_of v) t) ∷ us) r ws
    → Chained us (λ j. (m : List Lexeme) × ((h : List Lexeme) × Before us j h × NamedBefore kinds.Less v h m) × (p ≡ at m) × Der AnyType m t i) (Goes ss ws)
generic_fill v us p t ss ws i r c e kc d =
    chained_map us (λ j. (h : List Lexeme) × Before us j h × (place_of v ≡ at h) × Der (argument us) h (trees.GenericType (place_of v) (class_of v) t) r)
    (λ j. (m : List Lexeme) × ((h : List Lexeme) × Before us j h × NamedBefore kinds.Less v h m) × (p ≡ at m) × Der AnyType m t i) (Goes ss ws) (λ j s. fills v us j s.0 i r t c s.1 s.3 e kc) d

pub means_chain_closing : (k : Terminal) (vs : List StackItem) → Holds goals.ChainClosing k (tag vs) vs
means_chain_closing terminals.LeftBracket (part p forms.Type t ∷ us) ss i ws (a, m, e, ka, (b, l, e2, kb, d)) =
    chained_map us (λ j. (h : List Lexeme) × Before us j h × (p ≡ at h) × Der (argument us) h (trees.ArrayType p t) l) (λ j. (h : List Lexeme) × Before us j h × (p ≡ at h) × Der (argument us) h t i) (Goes ss ws)
    (λ j s. (s.0, s.1, s.2, as_argument us s.0 l (trees.ArrayType p t) (array_of p s.0 i m l t a b s.2 (of_argument us s.0 i t s.3) e ka e2 kb))) d
means_chain_closing k (part p forms.Type t ∷ word w n ∷ us) ss i ws (c, r, e, kc, d) = generic_fill (word w n) us p t ss ws i r c e kc d
means_chain_closing k (part p forms.Type t ∷ pair w o n ∷ us) ss i ws (c, r, e, kc, d) = generic_fill (pair w o n) us p t ss ws i r c e kc d
means_chain_closing k (part p forms.Type t ∷ part q f x ∷ us) ss i ws d = inl (p, t, i, λ j s. (s.0, s.1, s.3), d)
means_chain_closing k (part p forms.Type t ∷ us) ss i ws d = inl (p, t, i, λ j s. from s.1 s.3, d)
means_chain_closing k _ ss i ws d = tt

-- the type after `instanceof`
pub means_tested : (k : Terminal) (q : Tag) (vs : List StackItem) → Holds goals.Tested k q vs
means_tested terminals.Primitive q (part w f x ∷ vs) ss i ws (a, m, e, ka, (b, l, e2, kb, (c, s, e3, kc, (p1, g, u, r, (z, h), d)))) =
    (trees.InstanceOf w x u, r, λ j o. test_of w f x vs j i r u o (h.1 i (begins e) (array_of a.place i m l s (trees.PrimitiveType a.place (the_primitive a.kind)) b c (begins e) (from e (grammar.primitive_type a ka)) e2 kb e3 kc)), d)
means_tested terminals.Identifier q (part w f x ∷ vs) ss i ws (a, m, e, ka, (t, r, h, d)) = (t, r, λ j o. h j (i, o, (a, e, ka, refl, refl)), d)
means_tested _ q (part w f x ∷ vs) ss i ws d = absurd d
means_tested k q _ ss i ws d = tt

-- the chain after `instanceof`
tested_chain : (v : StackItem) (p : Place) (f : Form) (x : Tree) (vs : List StackItem) (ss : List Symbol) (ws : List StackItem) (i m : List Lexeme) (b : Lexeme) → i ≡ b ∷ m → b.kind ≡ kinds.Less
    → Chained (part p f x ∷ vs) (λ j. EndingBefore kinds.Less v (part p f x ∷ vs) m j) (λ us r. Meaning goals.AfterTested us r (Goes ss ws))
    → Compares (λ j. Ending v (part p f x ∷ vs) i j) p vs (Goes ss ws)
tested_chain v p f x vs ss ws i m b y kb (inl (p1, t, r, h, d)) =
    (trees.InstanceOf p x t, r, λ j s. (let o = h j (s.0, s.1, named_before kinds.Less v s.0 i m b y kb s.2) in test_of p f x vs j o.0 r t o.1 o.2), d)
tested_chain v p f x vs ss ws i m b y kb (inr (t, r, h, d)) = (t, r, λ j s. h j (s.0, s.1, named_before kinds.Less v s.0 i m b y kb s.2), d)

tested_class : (v : StackItem) (p : Place) (f : Form) (x : Tree) (vs : List StackItem) (ss : List Symbol) (ws : List StackItem) (i : List Lexeme)
    → Den (Want goals.Dimensions ∷ Build makes.InstanceOf ∷ ss) (part (place_of v) forms.Type (class_of v) ∷ part p f x ∷ vs) i ws
    → Compares (λ j. Ending v (part p f x ∷ vs) i j) p vs (Goes ss ws)
tested_class v p f x vs ss ws i (p1, g, u, r, (z, h), d) =
    (trees.InstanceOf p x u, r, λ j s. test_of p f x vs j s.0 r u s.1 (h.1 s.0 (named_at v s.0 i s.2) (grammar.class_type (named_class v s.0 i s.2))), d)

pub means_tested_name : (k : Terminal) (q : Tag) (vs : List StackItem) → tag vs ≡ q → Holds goals.TestedName k q vs
means_tested_name terminals.Dot tags.Word (word w n ∷ part p f x ∷ vs) e ss i ws (c, m, y, kc, (b, l, g, kb, (t, r, h, d))) =
    (t, r, λ j s. h j (s.0, s.1, paired w n c b s.0 i m l y kc g kb s.2), d)
means_tested_name terminals.Dot tags.Word (pair w o n ∷ part p f x ∷ vs) e ss i ws d = (let bad : tags.Pair ≡ tags.Word = e in cc)
means_tested_name terminals.Less q (word w n ∷ part p f x ∷ vs) e ss i ws (b, m, y, kb, d) = tested_chain (word w n) p f x vs ss ws i m b y kb d
means_tested_name terminals.Less q (pair w o n ∷ part p f x ∷ vs) e ss i ws (b, m, y, kb, d) = tested_chain (pair w o n) p f x vs ss ws i m b y kb d
means_tested_name k q (word w n ∷ part p f x ∷ vs) e ss i ws d = tested_class (word w n) p f x vs ss ws i d
means_tested_name k q (pair w o n ∷ part p f x ∷ vs) e ss i ws d = tested_class (pair w o n) p f x vs ss ws i d
means_tested_name k q _ e ss i ws d = tt

pub means_after_tested : (k : Terminal) (vs : List StackItem) → Holds goals.AfterTested k (tag vs) vs
means_after_tested k (part p forms.Type t ∷ part q f x ∷ vs) ss i ws d = d
means_after_tested k (part p forms.Other t ∷ vs) ss i ws d = d
means_after_tested k _ ss i ws d = tt
