-- The goals of locals and statements denote what their rules denote.
use Rattle.std.proofs.Common.{◌≡◌, ℕ, List, ◌∷◌, refl, sym, ◌∙◌}
use Rattle.std.proofs.Math.Path.{subst}
use Rattle.kr_base.specs.declared.place.Place.{Place}
use Rattle.kr_base.specs.Places.{nowhere}
use Rattle.kr_lex.specs.Lexemes.{Lexeme}
use Rattle.kr_lex.specs.declared.kind.Kind.{Kind}
use Rattle.kr_lex.specs.declared.kind.Kind.TheVariants as kinds
use Rattle.kr_ast.specs.Tree as trees
use Rattle.kr_ast.specs.Tree.{Tree}
use Rattle.kr_parse_grammar.specs.declared.terminal.Terminal.{Terminal}
use Rattle.kr_parse_grammar.specs.declared.terminal.Terminal.TheVariants as terminals
use Rattle.kr_parse_grammar.specs.declared.value.Form.{Form}
use Rattle.kr_parse_grammar.specs.declared.value.Form.TheVariants as forms
use Rattle.kr_parse_grammar.specs.declared.value.Tag.{Tag}
use Rattle.kr_parse_grammar.specs.declared.value.Tag.TheVariants as tags
use Rattle.kr_parse_grammar.specs.declared.goal.Goal.TheVariants as goals
use Rattle.kr_parse_grammar.specs.declared.goal.Make.TheVariants as makes
use Rattle.kr_parse_grammar.specs.declared.goal.Symbol.{Symbol}
use Rattle.kr_parse_grammar.specs.declared.goal.Symbol.TheVariants.{Take, Word, Want, Build}
use Rattle.kr_parse_grammar.specs.Values.{StackItem, mark, word, pair, part, tag}
use Rattle.kr_parse_grammar.specs.Made.{assigned, jump, the_step_before, the_step_behind}
use Rattle.kr_parse_grammar.specs.Machine.{ahead, rule}
use Rattle.kr_parse_grammar.specs.Grammar as grammar
use Rattle.kr_parse_grammar.specs.Grammar.{Der, at, AnyType, Several}
use Rattle.kr_parse_laws.proofs.SoundKinds.{Kinds}
use Rattle.kr_parse_laws.proofs.SoundMeanings.{Gives, Token, Named, NamedBefore, place_of, class_of, operand_of, call_of, Enclosed, Apart, ItemOf, Initials, Den, DenOf, Goes, Holds}
use Rattle.kr_parse_laws.proofs.SoundSteps.{from, onto, begins, both, named_at, named_before, named_class, named_operand, named_call, paired, target_of, invocation_of, local_tag, as_target}
use Rattle.kr_ast.specs.Tree.{IfThen, IfElse}
use Rattle.kr_parse_grammar.specs.Grammar.{EndsOpen}
use Rattle.kr_parse_laws.proofs.SoundExpressions.{assigns, compounds}
use Rattle.kr_parse_laws.proofs.SoundTypes.{generic_of}
use Rattle.kr_parse_laws.proofs.SoundEnclosed.{element, named_array}

-- declarators
initialised_of : (p : Place) (n : List ℕ) (j i m r : List Lexeme) (t : Tree) (a : Lexeme) → Named (word p n) j i → i ≡ a ∷ m → a.kind ≡ kinds.Equal → Der grammar.Expression m t r
    → Der grammar.Declarator j (trees.Declarator p n t) r
initialised_of p n j i m r t a (b, g, kb, z, y) e ka x = rw (z, y) (from (both g e) (grammar.initialised b a kb ka x))

declarator_of : (p : Place) (n : List ℕ) (j i : List Lexeme) → Named (word p n) j i → Der grammar.Declarator j (trees.Declarator p n trees.Nil) i
declarator_of p n j i (b, g, kb, z, y) = rw (z, y) (from g (grammar.declarator b kb))

pub means_initialiser : (k : Terminal) (q : Tag) (vs : List StackItem) → Holds goals.Initialiser k q vs
means_initialiser terminals.Equal q vs ss i ws (a, m, e, ka, (p, f, t, r, (z, x), d)) = (p, f, t, r, λ w n j o. initialised_of w n j i m r t a o e ka x, d)
means_initialiser k q vs ss i ws d = (nowhere, forms.Other, trees.Nil, i, λ w n j o. declarator_of w n j i o, d)

pub means_more_declarators : (k : Terminal) (q : Tag) (vs : List StackItem) → Holds goals.MoreDeclarators k q vs
means_more_declarators terminals.Comma q (part p f t ∷ vs) ss i ws (a, m, e, ka, (b, l, e2, kb, (p1, f1, u, s, h, (p2, f2, v, r, h2, d)))) =
    (p, forms.Other, trees.Cons t v, r, λ j x. grammar.comma a (onto e x) ka (h2 m (h b.place b.text m (b, e2, kb, refl, refl))), d)
means_more_declarators k q (part p f t ∷ vs) ss i ws d = (p, forms.Other, trees.Cons t trees.Nil, i, λ j x. grammar.last x, d)
means_more_declarators k q _ ss i ws d = tt

pub means_after_local_name : (k : Terminal) (q : Tag) (vs : List StackItem) → Holds goals.AfterLocalName k q vs
means_after_local_name k q (word p n ∷ part w f t ∷ vs) ss i ws (p1, f1, u, s, h, (p2, f2, v, r, h2, d)) = (v, r, λ j o. h2 j (h p n j o), d)
means_after_local_name k q _ ss i ws d = tt

-- locals, and expressions that are statements
local_of : (p : Place) (j i r : List Lexeme) (t u : Tree) → p ≡ at j → Der AnyType j t i → Der (Several grammar.Declarator) i u r → Der grammar.Local j (trees.Local p t u) r
local_of p j i r t u v d x = rw v (grammar.local d x)

final_of : (p : Place) (j i m r : List Lexeme) (t u : Tree) (a : Lexeme) → j ≡ a ∷ i → a.kind ≡ kinds.Final → p ≡ at i → Der AnyType i t m → Der (Several grammar.Declarator) m u r
    → Der grammar.Local j (trees.Local p t u) r
final_of p j i m r t u a e ka v d x = rw v (from e (grammar.final_local a ka d x))

pub evaluated_of : (p : Place) (j r : List Lexeme) (t : Tree) → p ≡ at j → Der grammar.StatementExpression j t r → Der grammar.Evaluated j (trees.ExpressionStatement p t) r
evaluated_of p j r t v d = rw v (grammar.evaluated d)

evaluates : (R : List Lexeme → Type 0) (f : Form) (w : Place) (t : Tree) (vs : List StackItem) (ss : List Symbol) (i : List Lexeme) (ws : List StackItem)
    → ((j : List Lexeme) → R j → (w ≡ at j) × Der (grammar.Primary f) j t i)
    → Den (Want goals.Suffixes ∷ Want goals.AfterStatementPrimary ∷ Build makes.ExpressionStatement ∷ ss) (part w f t ∷ vs) i ws
    → Gives (λ q g u r. (j : List Lexeme) → R j → ItemOf g j u r) vs (Goes ss ws)
evaluates R f w t vs ss i ws reads (p1, g, u, l, (z, h), (p2, g2, v, r, (z2, h2), d)) =
    (p2, forms.Other, trees.ExpressionStatement p2 v, r, λ j s. (let y = reads j s in evaluated_of p2 j r v (z2 ∙ (z ∙ y.0)) (h2 j (z ∙ y.0) (h j y.0 y.1))), d)

pub means_item : (k : Terminal) (q : Tag) (vs : List StackItem) → Holds goals.Item k q vs
means_item terminals.Final q vs ss i ws (a, m, e, ka, (p, f, t, l, (z, x), (b, s, e2, kb, (u, r, h, d)))) =
    (p, forms.Local, trees.Local p t u, r, final_of p i m l r t u a e ka z x (h l (b, e2, kb, refl, refl)), d)
means_item terminals.Primitive q vs ss i ws (p, f, t, l, (z, x), (b, s, e2, kb, (u, r, h, d))) =
    (p, forms.Local, trees.Local p t u, r, local_of p i l r t u z x (h l (b, e2, kb, refl, refl)), d)
means_item terminals.Identifier q vs ss i ws (a, m, e, ka, (p, f, t, r, h, d)) = (p, f, t, r, h i (a, e, ka, refl, refl), d)
means_item k q vs ss i ws d = (d.0, forms.Other, trees.ExpressionStatement d.0 d.2, d.3, evaluated_of d.0 i d.3 d.2 d.4.0 d.4.1, d.5)

-- the continuation of a name at the start of an item
item_local : (v : StackItem) (vs : List StackItem) (ss : List Symbol) (ws : List StackItem) (i m : List Lexeme) (a : Lexeme) → i ≡ a ∷ m → a.kind ≡ kinds.Identifier
    → Den (Want goals.AfterLocalName ∷ ss) (word a.place a.text ∷ part (place_of v) forms.Type (class_of v) ∷ vs) m ws
    → Gives (λ q f t r. (j : List Lexeme) → Named v j i → ItemOf f j t r) vs (Goes ss ws)
item_local v vs ss ws i m a y ka (u, r, h, d) = (
  place_of v,
  forms.Local,
  trees.Local (place_of v) (class_of v) u,
  r,
  λ j s. local_of (place_of v) j i r (class_of v) u (named_at v j i s) (grammar.reference_type (grammar.class_type (named_class v j i s))) (h i (a, y, ka, refl, refl)),
  d,
)

item_generic : (v : StackItem) (vs : List StackItem) (ss : List Symbol) (ws : List StackItem) (i m l r : List Lexeme) (t : Tree) (b c : Lexeme) → i ≡ b ∷ m → b.kind ≡ kinds.Less
    → Der AnyType m t l → l ≡ c ∷ r → c.kind ≡ kinds.Greater
    → Den (Want goals.Dimensions ∷ Word ∷ Want goals.AfterLocalName ∷ ss) (part (place_of v) forms.Type (trees.GenericType (place_of v) (class_of v) t) ∷ vs) r ws
    → Gives (λ q f t r. (j : List Lexeme) → Named v j i → ItemOf f j t r) vs (Goes ss ws)
item_generic v vs ss ws i m l r t b c y kb x y2 kc (p2, g, u, l2, (z, h), (a, m2, y3, ka, (w, r2, h2, d))) = (p2, forms.Local, trees.Local p2 u w, r2, λ j s. goes j s, d)
  where
    goes : (j : List Lexeme) → Named v j i → Der grammar.Local j (trees.Local p2 u w) r2
    goes j s =
        let o = named_at v j i s in
        local_of p2 j l2 r2 u w (z ∙ o) (h.0 j o (grammar.reference_type (generic_of (place_of v) j i m l r (class_of v) t b c o (named_class v j i s) y kb x y2 kc))) (h2 l2 (a, y3, ka, refl, refl))

item_call : (v : StackItem) (vs : List StackItem) (ss : List Symbol) (ws : List StackItem) (i r : List Lexeme) (u : Tree) → Enclosed i u r
    → Den (Want goals.Suffixes ∷ Want goals.AfterStatementPrimary ∷ Build makes.ExpressionStatement ∷ ss) (part (place_of v) forms.Invocation (call_of v u) ∷ vs) r ws
    → Gives (λ q f t r. (j : List Lexeme) → Named v j i → ItemOf f j t r) vs (Goes ss ws)
item_call v vs ss ws i r u e d = evaluates (λ j. Named v j i) forms.Invocation (place_of v) (call_of v u) vs ss r ws (λ j s. (named_at v j i s, named_call v j i r u s e)) d

item_operand : (v : StackItem) (vs : List StackItem) (ss : List Symbol) (ws : List StackItem) (i : List Lexeme)
    → Den (Want goals.Suffixes ∷ Want goals.AfterStatementPrimary ∷ Build makes.ExpressionStatement ∷ ss) (part (place_of v) forms.Target (operand_of v) ∷ vs) i ws
    → Gives (λ q f t r. (j : List Lexeme) → Named v j i → ItemOf f j t r) vs (Goes ss ws)
item_operand v vs ss ws i d = evaluates (λ j. Named v j i) forms.Target (place_of v) (operand_of v) vs ss i ws (λ j s. (named_at v j i s, named_operand v j i s)) d

pub means_item_name : (k : Terminal) (q : Tag) (vs : List StackItem) → tag vs ≡ q → Holds goals.ItemName k q vs
means_item_name terminals.Identifier q (word w n ∷ vs) e ss i ws (a, m, y, ka, d) = item_local (word w n) vs ss ws i m a y ka d
means_item_name terminals.Identifier q (pair w o n ∷ vs) e ss i ws (a, m, y, ka, d) = item_local (pair w o n) vs ss ws i m a y ka d
means_item_name terminals.Less q (word w n ∷ vs) e ss i ws (b, m, y, kb, (p1, f1, t, l, (z1, x1), (c, r, y2, kc, d))) =
    item_generic (word w n) vs ss ws i m l r t b c y kb x1 y2 kc d
means_item_name terminals.Less q (pair w o n ∷ vs) e ss i ws (b, m, y, kb, (p1, f1, t, l, (z1, x1), (c, r, y2, kc, d))) =
    item_generic (pair w o n) vs ss ws i m l r t b c y kb x1 y2 kc d
means_item_name terminals.LeftBracket q (word w n ∷ vs) e ss i ws (b, m, y, kb, (p1, f, t, r, h, d)) =
    (p1, f, t, r, λ j s. h j (named_before kinds.LeftBracket (word w n) j i m b y kb s), d)
means_item_name terminals.LeftBracket q (pair w o n ∷ vs) e ss i ws (b, m, y, kb, (p1, f, t, r, h, d)) =
    (p1, f, t, r, λ j s. h j (named_before kinds.LeftBracket (pair w o n) j i m b y kb s), d)
means_item_name terminals.LeftParenthesis q (word w n ∷ vs) e ss i ws (c, m, y, kc, (p1, g, u, l, x1, (b, s, y2, kb, d))) =
    item_call (word w n) vs ss ws i s u (c, b, m, y, kc, onto y2 x1, kb) d
means_item_name terminals.LeftParenthesis q (pair w o n ∷ vs) e ss i ws (c, m, y, kc, (p1, g, u, l, x1, (b, s, y2, kb, d))) =
    item_call (pair w o n) vs ss ws i s u (c, b, m, y, kc, onto y2 x1, kb) d
means_item_name terminals.Dot tags.Word (word w n ∷ vs) e ss i ws (c, m, y, kc, (b, l, f, kb, (p1, g, t, r, h, d))) =
    (p1, g, t, r, λ j s. h j (paired w n c b j i m l y kc f kb s), d)
means_item_name terminals.Dot tags.Word (pair w o n ∷ vs) e ss i ws d = (let bad : tags.Pair ≡ tags.Word = e in cc)
means_item_name k q (word w n ∷ vs) e ss i ws d = item_operand (word w n) vs ss ws i d
means_item_name k q (pair w o n ∷ vs) e ss i ws d = item_operand (pair w o n) vs ss ws i d
means_item_name k q _ e ss i ws d = tt

item_array : (v : StackItem) (vs : List StackItem) (ss : List Symbol) (ws : List StackItem) (i m : List Lexeme) (b : Lexeme) → i ≡ b ∷ m → b.kind ≡ kinds.RightBracket
    → Den (Want goals.Dimensions ∷ Word ∷ Want goals.AfterLocalName ∷ ss) (part (place_of v) forms.Type (trees.ArrayType (place_of v) (class_of v)) ∷ vs) m ws
    → Gives (λ q f t r. (j : List Lexeme) → NamedBefore kinds.LeftBracket v j i → ItemOf f j t r) vs (Goes ss ws)
item_array v vs ss ws i m b y kb (p1, g, u, l, (z, h), (a, r, y2, ka, (w, r2, h2, d))) = (p1, forms.Local, trees.Local p1 u w, r2, λ j s. goes j s, d)
  where
    goes : (j : List Lexeme) → NamedBefore kinds.LeftBracket v j i → Der grammar.Local j (trees.Local p1 u w) r2
    goes j s =
        let o = named_at v j (s.0 ∷ i) s.1 in
        local_of p1 j l r2 u w (z ∙ o) (h.0 j o (grammar.reference_type (named_array v j i m b s y kb))) (h2 l (a, y2, ka, refl, refl))

item_element : (v : StackItem) (vs : List StackItem) (ss : List Symbol) (ws : List StackItem) (i : List Lexeme)
    → Den (Want goals.Expression ∷ Take terminals.RightBracket ∷ Build makes.ArrayAccess ∷ Want goals.Suffixes ∷ Want goals.AfterStatementPrimary ∷ Build makes.ExpressionStatement ∷ ss) (part (place_of v) forms.Target (operand_of v) ∷ vs) i ws
    → Gives (λ q f t r. (j : List Lexeme) → NamedBefore kinds.LeftBracket v j i → ItemOf f j t r) vs (Goes ss ws)
item_element v vs ss ws i (p1, f1, u, l, (z1, x1), (b, s, y, kb, d)) =
    evaluates (λ j. NamedBefore kinds.LeftBracket v j i) forms.Target (place_of v) (trees.ArrayAccess (place_of v) (operand_of v) u) vs ss s ws (λ j o. (named_at v j (o.0 ∷ i) o.1, element v j i l s u b o x1 y kb)) d

pub means_item_bracket : (k : Terminal) (q : Tag) (vs : List StackItem) → Holds goals.ItemBracket k q vs
means_item_bracket terminals.RightBracket q (word w n ∷ vs) ss i ws (b, m, y, kb, d) = item_array (word w n) vs ss ws i m b y kb d
means_item_bracket terminals.RightBracket q (pair w o n ∷ vs) ss i ws (b, m, y, kb, d) = item_array (pair w o n) vs ss ws i m b y kb d
means_item_bracket k q (word w n ∷ vs) ss i ws d = item_element (word w n) vs ss ws i d
means_item_bracket k q (pair w o n ∷ vs) ss i ws d = item_element (pair w o n) vs ss ws i d
means_item_bracket k q _ ss i ws d = tt

pub means_statement_expression : (k : Terminal) (q : Tag) (vs : List StackItem) → Holds goals.StatementExpression k q vs
means_statement_expression terminals.Step q vs ss i ws (a, m, e, ka, (p, f, t, r, (z, x), d)) =
    (a.place, forms.Other, trees.Step a.place (the_step_before a.kind) t, r, (begins e, from e (grammar.steps a ka.0 x.0)), d)
means_statement_expression k q vs ss i ws d = (d.5.0, d.5.1, d.5.2, d.5.3, (d.5.4.0 ∙ d.4.0, d.5.4.1 i d.4.0 d.4.1), d.5.5)

is_stepped_of : (f : Form) (p : Place) (j i r : List Lexeme) (t : Tree) (a : Lexeme) → p ≡ at j → Der (grammar.Primary f) j t i → i ≡ a ∷ r → Kinds terminals.Step a.kind
    → Der grammar.StatementExpression j (trees.Step p (the_step_behind a.kind) t) r
is_stepped_of f p j i r t a v d e ka = rw v (grammar.is_stepped a (onto e d) ka.1)

pub means_after_statement_primary : (k : Terminal) (q : Tag) (vs : List StackItem) → tag vs ≡ q → Holds goals.AfterStatementPrimary k q vs
means_after_statement_primary terminals.Step q (part p f t ∷ vs) e ss i ws (a, r, y, ka, d) =
    (p, forms.Other, trees.Step p (the_step_behind a.kind) t, r, (refl, λ j v x. is_stepped_of f p j i r t a v x y ka), d)
means_after_statement_primary terminals.Equal tags.Target (part p f t ∷ vs) e ss i ws (a, m, y, ka, (p1, g, u, r, (z, x), d)) =
    (p, forms.Other, assigned a.kind p t u, r, (refl, λ j v s. grammar.assigns (assigns f p j i m r t u a v (target_of p f t vs e) (as_target f j i t s) y ka x)), d)
means_after_statement_primary terminals.Compound tags.Target (part p f t ∷ vs) e ss i ws (a, m, y, ka, (p1, g, u, r, (z, x), d)) =
    (p, forms.Other, assigned a.kind p t u, r, (refl, λ j v s. grammar.assigns (compounds f p j i m r t u a v (target_of p f t vs e) (as_target f j i t s) y ka x)), d)
means_after_statement_primary terminals.Equal q (part p f t ∷ vs) e ss i ws d = absurd d
means_after_statement_primary terminals.Compound q (part p f t ∷ vs) e ss i ws d = absurd d
means_after_statement_primary k tags.Invocation (part p f t ∷ vs) e ss i ws d =
    (p, f, t, i, (refl, λ j v s. grammar.invokes (subst (λ x. Der (grammar.Primary x) j t i) (invocation_of p f t vs e) s)), d)
means_after_statement_primary k q (part p f t ∷ vs) e ss i ws d = absurd d
means_after_statement_primary k q _ e ss i ws d = tt

-- statements
item_statement : (f : Form) (i m r : List Lexeme) (t : Tree) (a : Lexeme) → ItemOf f i t m → m ≡ a ∷ r → a.kind ≡ kinds.Semicolon → Der grammar.BlockStatement i t r
item_statement forms.Local i m r t a x e ka = grammar.local_statement a (onto e x) ka
item_statement _ i m r t a x e ka = grammar.statement (grammar.evaluate a (onto e x) ka)

pub means_block_statement : (k : Terminal) (q : Tag) (vs : List StackItem) → Holds goals.BlockStatement k q vs
means_block_statement terminals.Final q vs ss i ws (p, f, t, m, x, (a, r, e, ka, d)) = (p, f, t, r, item_statement f i m r t a x e ka, d)
means_block_statement terminals.Primitive q vs ss i ws (p, f, t, m, x, (a, r, e, ka, d)) = (p, f, t, r, item_statement f i m r t a x e ka, d)
means_block_statement terminals.Identifier q vs ss i ws (p, f, t, m, x, (a, r, e, ka, d)) = (p, f, t, r, item_statement f i m r t a x e ka, d)
means_block_statement k q vs ss i ws d = (d.0, d.1, d.2, d.3, grammar.statement d.4.0, d.5)

pub means_statements : (k : Terminal) (q : Tag) (vs : List StackItem) → Holds goals.Statements k q vs
means_statements terminals.RightBrace q vs ss i ws d = (nowhere, forms.Other, trees.Nil, i, grammar.end, d)
means_statements k q vs ss i ws (p, f, t, m, x, (p1, f1, u, r, y, d)) = (p, forms.Other, trees.Cons t u, r, grammar.next x y, d)

break_of : (x : Kind) (p : Place) (i r : List Lexeme) → x ≡ kinds.Break → Der grammar.Statement i (trees.Break p) r → Der grammar.Statement i (jump x p) r × Apart (jump x p) r
break_of x p i r e d = subst (λ k. Der grammar.Statement i (jump k p) r × Apart (jump k p) r) (sym e) (d, λ h. absurd h)

continue_of : (x : Kind) (p : Place) (i r : List Lexeme) → x ≡ kinds.Continue → Der grammar.Statement i (trees.Continue p) r
    → Der grammar.Statement i (jump x p) r × Apart (jump x p) r
continue_of x p i r e d = subst (λ k. Der grammar.Statement i (jump k p) r × Apart (jump k p) r) (sym e) (d, λ h. absurd h)

pub means_statement : (k : Terminal) (q : Tag) (vs : List StackItem) → Holds goals.Statement k q vs
means_statement terminals.LeftBrace q vs ss i ws (a, m, e, ka, (p, f, t, l, x, (b, r, y, kb, d))) =
    (a.place, forms.Other, trees.Block a.place t, r, (from e (grammar.block a b ka (onto y x) kb), λ h. absurd h), d)
means_statement terminals.Semicolon q vs ss i ws (a, r, e, ka, d) = (a.place, forms.Other, trees.Empty a.place, r, (from e (grammar.empty a ka), λ h. absurd h), d)
means_statement terminals.Return q vs ss i ws (a, m, e, ka, (p, f, t, l, x, (b, r, y, kb, d))) =
    (a.place, forms.Other, trees.Return a.place t, r, (from e (grammar.return a b ka (onto y x) kb), λ h. absurd h), d)
means_statement terminals.Break q vs ss i ws (a, m, e, ka, (b, r, y, kb, d)) =
    (a.place, forms.Other, jump a.kind a.place, r, break_of a.kind a.place i r ka (from (both e y) (grammar.break a b ka kb)), d)
means_statement terminals.Continue q vs ss i ws (a, m, e, ka, (b, r, y, kb, d)) =
    (a.place, forms.Other, jump a.kind a.place, r, continue_of a.kind a.place i r ka (from (both e y) (grammar.continue a b ka kb)), d)
means_statement terminals.If q vs ss i ws (a, m, e, ka, (b, l, y, kb, (p, f, c, s, (z, x), (g, s2, y2, kg, (p2, f2, t, s3, (dx, far), (p3, f3, u, r, (h, far2), d)))))) =
    (p3, f3, u, r, (h i l s2 b g (a, both e y, ka, refl) kb (onto y2 x) kg dx far, far2), d)
means_statement terminals.While q vs ss i ws (a, m, e, ka, (b, l, y, kb, (p, f, c, s, (z, x), (g, s2, y2, kg, (p2, f2, t, r, (dx, far), d))))) =
    (a.place, forms.Other, trees.While a.place c t, r, (from (both e y) (grammar.while a b g ka kb (onto y2 x) kg dx), far), d)
means_statement terminals.Do q vs ss i ws (a, m, e, ka, (p, f, t, l, (dx, far), (b, l2, y, kb, (g, l3, y2, kg, (p2, f2, c, l4, (z, x), (h, l5, y3, kh, (n, r, y4, kn, d))))))) =
    (a.place, forms.Other, trees.Do a.place t c, r, (from e (grammar.do_while a b g h n ka (onto (both y y2) dx) kb kg (onto (both y3 y4) x) kh kn), λ h. absurd h), d)
means_statement terminals.For q vs ss i ws (a, m, e, ka, (b, l, y, kb, (p1, f1, k1, l1, x1, (g, l2, y2, kg, (p2, f2, c, l3, x2, (h, l4, y3, kh, (p3, f3, u, l5, x3, (n, l6, y4, kn, (p4, f4, t, r, (dx, far), d))))))))) =
    (a.place, forms.Other, trees.For a.place k1 c u t, r, (from (both e y) (grammar.for a b g h n ka kb (onto y2 x1) kg (onto y3 x2) kh (onto y4 x3) kn dx), far), d)
means_statement terminals.Throw q vs ss i ws (a, m, e, ka, (p, f, t, l, (z, x), (b, r, y, kb, d))) =
    (a.place, forms.Other, trees.Throw a.place t, r, (from e (grammar.throw a b ka (onto y x) kb), λ h. absurd h), d)
means_statement terminals.Try q vs ss i ws (a, m, e, ka, (b, l, y, kb, (p, f, t, n, x, (g, s, y2, kg, (p2, f2, c, s2, dc, (p3, f3, u, r, du, d)))))) =
    (a.place, forms.Other, trees.Try a.place (trees.Block b.place t) (trees.Cons c u), r, (from (both e y) (grammar.try a b g ka kb (onto y2 x) kg dc du), λ h. absurd h), d)
means_statement k q vs ss i ws d =
    (d.0, forms.Other, trees.ExpressionStatement d.0 d.2, d.5.1, (grammar.evaluate d.5.0 (onto d.5.2 (evaluated_of d.0 i d.3 d.2 d.4.0 d.4.1)) d.5.3, λ h. absurd h), d.5.4)

pub means_optional_expression : (k : Terminal) (q : Tag) (vs : List StackItem) → Holds goals.OptionalExpression k q vs
means_optional_expression terminals.Semicolon q vs ss i ws d = (nowhere, forms.Other, trees.Nil, i, grammar.absent, d)
means_optional_expression k q vs ss i ws (p, f, t, r, (z, x), d) = (p, f, t, r, grammar.present x, d)

if_else_of : (p : Place) (h j m i n r : List Lexeme) (c s u : Tree) (l d e : Lexeme) → Token kinds.If p h (l ∷ j) → l.kind ≡ kinds.LeftParenthesis
    → Der grammar.Expression j c (d ∷ m) → d.kind ≡ kinds.RightParenthesis → Der grammar.Statement m s i → i ≡ e ∷ n → e.kind ≡ kinds.Else → ¬ (EndsOpen s)
    → Der grammar.Statement n u r
    → Der grammar.Statement h (IfElse p c s u) r
if_else_of p h j m i n r c s u l d e (a, g, ka, z) kl dc kd ds y ke far du = rw z (from g (grammar.if_else a l d e ka kl dc kd (onto y ds) ke far du))

if_then_of : (p : Place) (h j m i : List Lexeme) (c s : Tree) (l d : Lexeme) → Token kinds.If p h (l ∷ j) → l.kind ≡ kinds.LeftParenthesis → Der grammar.Expression j c (d ∷ m)
    → d.kind ≡ kinds.RightParenthesis → Der grammar.Statement m s i → Der grammar.Statement h (IfThen p c s) i
if_then_of p h j m i c s l d (a, g, ka, z) kl dc kd ds = rw z (from g (grammar.if_then a l d ka kl dc kd ds))

pub means_else_part : (k : Terminal) (q : Tag) (vs : List StackItem) (ss : List Symbol) (i : List Lexeme) (ws : List StackItem) → ahead i ≡ k → DenOf (rule goals.ElsePart k q) ss vs i ws
    → Den (Want goals.ElsePart ∷ ss) vs i ws
means_else_part terminals.Else q (part b1 g1 s ∷ part a1 h1 c ∷ mark x p ∷ vs) ss i ws e (e1, m, y, ke, (p1, f1, u, r, (dx, far), d)) =
    (p, forms.Other, IfElse p c s u, r, (λ h j n l g o kl dc kg ds apart. if_else_of p h j n i m r c s u l g e1 o kl dc kg ds y ke (λ z. apart z e) dx, far), d)
means_else_part k q (part b1 g1 s ∷ part a1 h1 c ∷ mark x p ∷ vs) ss i ws e d =
    (p, forms.Other, IfThen p c s, i, (λ h j n l g o kl dc kg ds apart. if_then_of p h j n i c s l g o kl dc kg ds, λ z w. (let bad : k ≡ terminals.Else = sym e ∙ w in cc)), d)
means_else_part k q _ ss i ws e d = tt

-- the parts of `try`
pub means_catch : (k : Terminal) (q : Tag) (vs : List StackItem) → Holds goals.Catch k q vs
means_catch terminals.Catch q vs ss i ws (a, m, e, ka, (b, l, y, kb, (p, f, t, n, x, (g, s, y2, kg, (o, s2, y3, ko, (p2, f2, u, s3, dx, (w, r, y4, kw, d))))))) =
    (a.place, forms.Other, trees.Catch a.place t (trees.Block o.place u), r, from (both e y) (grammar.catch a b g o w ka kb (onto (both y2 y3) x) kg ko (onto y4 dx) kw), d)
means_catch _ q vs ss i ws d = absurd d

pub means_catches : (k : Terminal) (q : Tag) (vs : List StackItem) → Holds goals.Catches k q vs
means_catches terminals.Catch q vs ss i ws (p, f, t, m, x, (p1, f1, u, r, y, d)) = (p, forms.Other, trees.Cons t u, r, grammar.next x y, d)
means_catches k q vs ss i ws d = (nowhere, forms.Other, trees.Nil, i, grammar.end, d)

pub means_caught_parameter : (k : Terminal) (q : Tag) (vs : List StackItem) → Holds goals.CaughtParameter k q vs
means_caught_parameter terminals.Final q vs ss i ws (a, m, e, ka, (b, l, y, kb, (p, f, t, n, h, (c, r, y2, kc, d)))) =
    (c.place, forms.Other, trees.Parameter c.place t c.text, r, from e (grammar.final_caught a c ka (onto y2 (h m (b, y, kb, refl, refl))) kc), d)
means_caught_parameter k q vs ss i ws d =
    (d.4.5.0.place, forms.Other, trees.Parameter d.4.5.0.place d.4.2 d.4.5.0.text, d.4.5.1, grammar.caught d.4.5.0 (onto d.4.5.2 (d.4.4 i (d.0, d.2, d.3, refl, refl))) d.4.5.3, d.4.5.4)

-- the parts of `for`
initial_of : (f : Form) (j i r : List Lexeme) (t u : Tree) → Initials f j t i u r → ItemOf f j t i → Der grammar.ForInitial j u r
initial_of forms.Local j i r t u h x = h x
initial_of _ j i r t u h x = grammar.for_expressions (h x)

more_of : (f : Form) (j i r : List Lexeme) (t u : Tree) → (f ≡ forms.Local → ⊥) → (Der grammar.Evaluated j t i → Der (Several grammar.Evaluated) j u r) → Initials f j t i u r
more_of forms.Local j i r t u other h = absurd (other refl)
more_of _ j i r t u other h = h

last_of : (f : Form) (j i : List Lexeme) (t : Tree) → Initials f j t i (trees.Cons t trees.Nil) i
last_of forms.Local j i t = λ x. grammar.for_local x
last_of _ j i t = λ x. grammar.last x

pub means_for_initial : (k : Terminal) (q : Tag) (vs : List StackItem) → Holds goals.ForInitial k q vs
means_for_initial terminals.Semicolon q vs ss i ws d = (nowhere, forms.Other, trees.Nil, i, grammar.absent, d)
means_for_initial k q vs ss i ws (p, f, t, m, x, (p1, g, u, r, h, d)) = (p1, g, u, r, grammar.present (initial_of f i m r t u (h i) x), d)

pub means_more_initial : (k : Terminal) (q : Tag) (vs : List StackItem) → tag vs ≡ q → Holds goals.MoreInitial k q vs
means_more_initial terminals.Comma tags.Local (part p f t ∷ vs) e ss i ws d = absurd d
means_more_initial terminals.Comma q (part p f t ∷ vs) e ss i ws (a, m, y, ka, (p1, f1, u, l, (z, x), (p2, f2, v, r, h, d))) =
    (p, forms.Other, trees.Cons t v, r, λ j. more_of f j i r t (trees.Cons t v) (λ so. let bad : tags.Local ≡ q = sym (local_tag p f t vs so) ∙ e in cc) (λ s. grammar.comma a (onto y s) ka (h m (evaluated_of p1 m l u z x))), d)
means_more_initial k q (part p f t ∷ vs) e ss i ws d = (p, forms.Other, trees.Cons t trees.Nil, i, λ j. last_of f j i t, d)
means_more_initial k q _ e ss i ws d = tt

pub means_for_updates : (k : Terminal) (q : Tag) (vs : List StackItem) → Holds goals.ForUpdates k q vs
means_for_updates terminals.RightParenthesis q vs ss i ws d = (nowhere, forms.Other, trees.Nil, i, grammar.absent, d)
means_for_updates k q vs ss i ws (p, f, t, m, (z, x), (p1, g, u, r, h, d)) = (p1, g, u, r, grammar.present (h i x), d)

pub means_more_updates : (k : Terminal) (q : Tag) (vs : List StackItem) → Holds goals.MoreUpdates k q vs
means_more_updates terminals.Comma q (part p f t ∷ vs) ss i ws (a, m, e, ka, (p1, g, u, l, (z, x), (p2, g2, v, r, h, d))) =
    (p, forms.Other, trees.Cons t v, r, λ j s. grammar.comma a (onto e s) ka (h m x), d)
means_more_updates k q (part p f t ∷ vs) ss i ws d = (p, forms.Other, trees.Cons t trees.Nil, i, λ j s. grammar.last s, d)
means_more_updates k q _ ss i ws d = tt
