-- The goals of files, classes and members denote what their rules denote.
use Rattle.std.proofs.Common.{◌≡◌, inl, inr, ℕ, Bool, true, false, if◌then◌else◌, List, ◌∷◌, refl, sym, ap, ◌∙◌}
use Rattle.std.proofs.Math.Path.{subst}
use Rattle.kr_base.specs.declared.place.Place.{Place}
use Rattle.kr_base.specs.Places.{nowhere}
use Rattle.kr_lex.specs.Lexemes.{Lexeme}
use Rattle.kr_lex.specs.declared.kind.Kind.{Kind}
use Rattle.kr_lex.specs.declared.kind.Kind.TheVariants as kinds
use Rattle.kr_ast.specs.declared.node.Primitive.TheVariants as primitives
use Rattle.kr_ast.specs.Tree as trees
use Rattle.kr_ast.specs.Tree.{Tree}
use Rattle.kr_parse_grammar.specs.declared.terminal.Terminal.{Terminal}
use Rattle.kr_parse_grammar.specs.declared.terminal.Terminal.TheVariants as terminals
use Rattle.kr_parse_grammar.specs.declared.value.Form.{Form}
use Rattle.kr_parse_grammar.specs.declared.value.Form.TheVariants as forms
use Rattle.kr_parse_grammar.specs.declared.value.Modifiers.{Modifiers}
use Rattle.kr_parse_grammar.specs.declared.value.Tag.{Tag}
use Rattle.kr_parse_grammar.specs.declared.value.Tag.TheVariants as tags
use Rattle.kr_parse_grammar.specs.declared.goal.Goal.TheVariants as goals
use Rattle.kr_parse_grammar.specs.declared.goal.Make.TheVariants as makes
use Rattle.kr_parse_grammar.specs.declared.goal.Symbol.{Symbol}
use Rattle.kr_parse_grammar.specs.declared.goal.Symbol.TheVariants.{Take, Want, Build}
use Rattle.kr_parse_grammar.specs.Values.{StackItem, mark, word, part, member, owner, tag, no_modifiers}
use Rattle.kr_parse_grammar.specs.Made.{the_primitive}
use Rattle.kr_parse_grammar.specs.Grammar as grammar
use Rattle.kr_parse_grammar.specs.Grammar.{Class, Der, Modified, at, AnyType, Maybe, Many, Several, ClassName}
use Rattle.kr_parse_laws.proofs.SoundMeanings.{Token, Named, Thrown, Declared, Built, Den, Holds}
use Rattle.kr_parse_laws.proofs.SoundSteps.{from, onto, both, three, four, token_at, named_at, paired}
use Rattle.std.proofs.Common.{◌&&◌, not}
use Rattle.std.specs.Str.{bytes_eq}
use Rattle.std.proofs.lemmas.Slice.Eq.{bytes_eq-Decides}
use Rattle.kr_parse_grammar.specs.Values.{tag_of_member, tag_of_word, is_plain}
use Rattle.kr_parse_grammar.specs.Grammar.{Heading}
use Rattle.kr_parse_laws.proofs.SoundStatements.{evaluated_of}

modified_onto : {h i j : List Lexeme} {f : Modifiers} → i ≡ j → Modified h f i → Modified h f j
modified_onto {h = h} {f = f} e x = subst (λ s. Modified h f s) e x

-- parameters
pub means_parameters : (k : Terminal) (q : Tag) (vs : List StackItem) → Holds goals.Parameters k q vs
means_parameters terminals.RightParenthesis q vs ss i ws d = (nowhere, forms.Other, trees.Nil, i, grammar.absent, d)
means_parameters k q vs ss i ws (p, f, t, m, x, (p1, g, u, r, h, d)) = (p1, g, u, r, grammar.present (h i x), d)

pub means_parameter : (k : Terminal) (q : Tag) (vs : List StackItem) → Holds goals.Parameter k q vs
means_parameter terminals.Final q vs ss i ws (a, m, e, ka, (p, f, t, l, (z, x), (b, r, y, kb, d))) =
    (b.place, forms.Other, trees.Parameter b.place t b.text, r, from e (grammar.final_parameter a b ka (onto y x) kb), d)
means_parameter k q vs ss i ws d = (d.5.0.place, forms.Other, trees.Parameter d.5.0.place d.2 d.5.0.text, d.5.1, grammar.parameter d.5.0 (onto d.5.2 d.4.1) d.5.3, d.5.4)

pub means_more_parameters : (k : Terminal) (q : Tag) (vs : List StackItem) → Holds goals.MoreParameters k q vs
means_more_parameters terminals.Comma q (part p f t ∷ vs) ss i ws (a, m, e, ka, (p1, g, u, l, x, (p2, g2, v, r, h, d))) =
    (p, forms.Other, trees.Cons t v, r, λ j s. grammar.comma a (onto e s) ka (h m x), d)
means_more_parameters k q (part p f t ∷ vs) ss i ws d = (p, forms.Other, trees.Cons t trees.Nil, i, λ j s. grammar.last s, d)
means_more_parameters k q _ ss i ws d = tt

-- bodies of constructors
calls_super_of : (p : Place) (j i l l1 l2 r : List Lexeme) (u : Tree) (a c d : Lexeme) → Token kinds.Super p j i → i ≡ a ∷ l → a.kind ≡ kinds.LeftParenthesis
    → Der (Maybe (Several grammar.Expression)) l u l1 → l1 ≡ c ∷ l2 → c.kind ≡ kinds.RightParenthesis → l2 ≡ d ∷ r → d.kind ≡ kinds.Semicolon
    → Der grammar.ConstructorCall j (trees.ConstructorCall p u) r
calls_super_of p j i l l1 l2 r u a c d (g, e, kg, z) y ka x f kc f2 kd = rw z (from (both e y) (grammar.calls_super g a c d kg ka (onto (both f f2) x) kc kd))

super_call_of : (p : Place) (j i l l1 l2 l3 r : List Lexeme) (u : Tree) (a b c d : Lexeme) → Token kinds.Super p j i → i ≡ a ∷ l → a.kind ≡ kinds.Dot → l ≡ b ∷ l1
    → b.kind ≡ kinds.Identifier → l1 ≡ c ∷ l2 → c.kind ≡ kinds.LeftParenthesis
    → Der (Maybe (Several grammar.Expression)) l2 u l3 → l3 ≡ d ∷ r → d.kind ≡ kinds.RightParenthesis → Der (grammar.Primary forms.Invocation) j (trees.SuperCall p b.text u) r
super_call_of p j i l l1 l2 l3 r u a b c d (g, e, kg, z) y ka y1 kb y2 kc x y3 kd = rw z (from (four e y y1 y2) (grammar.super_call g a b c d kg ka kb kc (onto y3 x) kd))

pub means_constructor_body : (k : Terminal) (q : Tag) (vs : List StackItem) → Holds goals.ConstructorBody k q vs
means_constructor_body terminals.Super q vs ss i ws (a, m, e, ka, (p, p1, f, g, s, t, r, h, d)) = (p, p1, f, g, s, t, r, h i (a, e, ka, refl), d)
means_constructor_body k q vs ss i ws d = (nowhere, d.0, forms.Other, d.1, trees.Nil, d.2, d.3, (i, grammar.absent, d.4), d.5)

pub means_after_super : (k : Terminal) (q : Tag) (vs : List StackItem) → Holds goals.AfterSuper k q vs
means_after_super terminals.LeftParenthesis q (mark x p ∷ vs) ss i ws (a, l, y, ka, (p1, f1, u, l1, dx, (c, l2, y2, kc, (g, l3, y3, kg, (p2, f2, t, r, x2, d))))) =
    (p, p2, forms.Other, f2, trees.ConstructorCall p u, t, r, λ j o. (l3, grammar.present (calls_super_of p j i l l1 l2 l3 u a c g o y ka dx y2 kc y3 kg), x2), d)
means_after_super terminals.Dot q (mark x p ∷ vs) ss i ws (a, l, y, ka, (b, l1, y1, kb, (c, l2, y2, kc, (p1, f1, u, l3, dx, (g, l4, y3, kg, (p2, f2, t2, l5, (z2, h2), (p3, f3, t3, l6, (z3, h3), (n, l7, y4, kn, (p4, f4, t4, r, x4, d))))))))) =
    (nowhere, p3, forms.Other, forms.Other, trees.Nil, trees.Cons (trees.ExpressionStatement p3 t3) t4, r, λ j o. (j, grammar.absent, grammar.next (grammar.statement (grammar.evaluate n (onto y4 (go j o)) kn)) x4), d)
  where
    go : (j : List Lexeme) → Token kinds.Super p j i → Der grammar.Evaluated j (trees.ExpressionStatement p3 t3) l6
    go j o =
        let v = token_at kinds.Super p j i o in
        evaluated_of p3 j l6 t3 (z3 ∙ (z2 ∙ v)) (h3 j (z2 ∙ v) (h2 j v (super_call_of p j i l l1 l2 l3 l4 u a b c g o y ka y1 kb y2 kc dx y3 kg)))
means_after_super _ q (mark x p ∷ vs) ss i ws d = absurd d
means_after_super k q _ ss i ws d = tt

-- members
method_of : (o : List ℕ) (x : Bool) (w : Place) (n : List ℕ) (m : Modifiers) (k h j l i l0 l1 l2 l3 l4 r : List Lexeme) (v t u s : Tree) (a c d e : Lexeme) → Der (Many grammar.Contract) k v h → Modified h m j
    → Der grammar.ResultType j t l → Named (word w n) l i
    → i ≡ a ∷ l0 → a.kind ≡ kinds.LeftParenthesis → Der (Maybe (Several grammar.Parameter)) l0 u l1 → l1 ≡ c ∷ l2 → c.kind ≡ kinds.RightParenthesis → l2 ≡ d ∷ l3
    → d.kind ≡ kinds.LeftBrace → Der (Many grammar.BlockStatement) l3 s l4 → l4 ≡ e ∷ r → e.kind ≡ kinds.RightBrace
    → Der (grammar.Member o x) k (trees.Method w m.is_static n (trees.Signature w t u v) s) r
method_of o x w n m k h j l i l0 l1 l2 l3 l4 r v t u s a c d e ks mx dt (g, eq, kg, zw, yn) y ka dx y2 kc y3 kd ds y4 ke =
    rw (zw, yn) (grammar.method g a c d e ks mx (onto (both eq y) dt) kg ka (onto (both y2 y3) dx) kc kd (onto y4 ds) ke)

pub means_method : (k : Terminal) (q : Tag) (vs : List StackItem) → Holds goals.Method k q vs
means_method terminals.LeftParenthesis q (word w n ∷ part p f t ∷ member b m ∷ vs) ss i ws (a, l, y, ka, (p1, f1, u, l1, dx, (c, l2, y2, kc, (g, l3, y3, kg, (p2, f2, s, l4, x2, (e, r, y4, ke, d)))))) =
    (w, forms.Other, trees.Method w m.is_static n (trees.Signature w t u trees.Nil) s, r, λ o x h j l0 mx dt nm. method_of o x w n m h h j l0 i l l1 l2 l3 l4 r trees.Nil t u s a c g e grammar.end mx dt nm y ka dx y2 kc y3 kg x2 y4 ke, d)
means_method _ q (word w n ∷ part p f t ∷ member b m ∷ vs) ss i ws d = absurd d
means_method k q _ ss i ws d = tt

-- methods with contracts
pub means_contracted_method : (k : Terminal) (q : Tag) (vs : List StackItem) → Holds goals.ContractedMethod k q vs
means_contracted_method k q (word w n ∷ part p f t ∷ member b m ∷ part p0 f0 v ∷ vs) ss i ws d =
    go d
  where
    go : Den (Take terminals.LeftParenthesis ∷ Want goals.Parameters ∷ Take terminals.RightParenthesis ∷ Take terminals.LeftBrace ∷ Want goals.Statements ∷ Take terminals.RightBrace ∷ Build makes.ContractedMethod ∷ ss) (word w n ∷ part p f t ∷ member b m ∷ part p0 f0 v ∷ vs) i ws
        → Den (Want goals.ContractedMethod ∷ ss) (word w n ∷ part p f t ∷ member b m ∷ part p0 f0 v ∷ vs) i ws
    go (a, l, y, ka, (p1, f1, u, l1, dx, (c, l2, y2, kc, (g, l3, y3, kg, (p2, f2, s, l4, x2, (e, r, y4, ke, d)))))) =
        (w, forms.Other, trees.Method w m.is_static n (trees.Signature w t u v) s, r, λ o x s0 h j l0 ks mx dt nm. method_of o x w n m s0 h j l0 i l l1 l2 l3 l4 r v t u s a c g e ks mx dt nm y ka dx y2 kc y3 kg x2 y4 ke, d)
means_contracted_method k q _ ss i ws d = tt

precondition_of : (p : Place) (j i l l1 r : List Lexeme) (t : Tree) (a c : Lexeme) → Token kinds.Contract p j i → i ≡ a ∷ l → a.kind ≡ kinds.Requires
    → Der grammar.Expression l t l1 → l1 ≡ c ∷ r → c.kind ≡ kinds.Semicolon → Der grammar.Contract j (trees.Requires p t) r
precondition_of p j i l l1 r t a c (g, e, kg, z) y ka dx y2 kc = rw z (from (both e y) (grammar.precondition g a c kg ka (onto y2 dx) kc))

postcondition_of : (p : Place) (j i l l1 r : List Lexeme) (t : Tree) (a c : Lexeme) → Token kinds.Contract p j i → i ≡ a ∷ l → a.kind ≡ kinds.Ensures
    → Der grammar.Expression l t l1 → l1 ≡ c ∷ r → c.kind ≡ kinds.Semicolon → Der grammar.Contract j (trees.Ensures p t) r
postcondition_of p j i l l1 r t a c (g, e, kg, z) y ka dx y2 kc = rw z (from (both e y) (grammar.postcondition g a c kg ka (onto y2 dx) kc))

exception_of : (p : Place) (j i l l1 l3 l4 l5 l6 r : List Lexeme) (t u v : Tree) (a b e g : Lexeme) → Token kinds.Contract p j i → i ≡ a ∷ l → a.kind ≡ kinds.Signals → l ≡ b ∷ l1 → b.kind ≡ kinds.LeftParenthesis
    → Der ClassName l1 t l3 → Thrown t l3 u l4 → l4 ≡ e ∷ l5 → e.kind ≡ kinds.RightParenthesis → Der grammar.Expression l5 v l6 → l6 ≡ g ∷ r → g.kind ≡ kinds.Semicolon
    → Der grammar.Contract j (trees.Signals p u v) r
exception_of p j i l l1 l3 l4 l5 l6 r t u v a b e g (w, o, kw, z) y ka y1 kb n (inl (q, s)) y4 ke dx y6 kg =
    rw (z, q) (from (three o y y1) (grammar.exception w a b e g kw ka kb (onto (s ∙ y4) n) ke (onto y6 dx) kg))
exception_of p j i l l1 l3 l4 l5 l6 r t u v a b e g (w, o, kw, z) y ka y1 kb n (inr (c, s, kc, q)) y4 ke dx y6 kg =
    rw (z, q) (from (three o y y1) (grammar.named_exception w a b c e g kw ka kb (onto (both s y4) n) kc ke (onto y6 dx) kg))

pub means_thrown_name : (k : Terminal) (q : Tag) (vs : List StackItem) → Holds goals.ThrownName k q vs
means_thrown_name terminals.Identifier q (part p f t ∷ vs) ss i ws (a, r, e, ka, d) = (a.place, forms.Other, trees.Parameter a.place t a.text, r, inr (a, e, ka, refl), d)
means_thrown_name k q (part p f t ∷ vs) ss i ws d = (p, f, t, i, inl (refl, refl), d)
means_thrown_name k q _ ss i ws d = tt

pub means_contract : (k : Terminal) (q : Tag) (vs : List StackItem) → Holds goals.Contract k q vs
means_contract terminals.Requires q (mark x p ∷ vs) ss i ws (a, l, y, ka, (p1, f1, t, l1, (z, dx), (c, r, y2, kc, d))) =
    (p, forms.Other, trees.Requires p t, r, λ j o. precondition_of p j i l l1 r t a c o y ka dx y2 kc, d)
means_contract terminals.Ensures q (mark x p ∷ vs) ss i ws (a, l, y, ka, (p1, f1, t, l1, (z, dx), (c, r, y2, kc, d))) =
    (p, forms.Other, trees.Ensures p t, r, λ j o. postcondition_of p j i l l1 r t a c o y ka dx y2 kc, d)
means_contract terminals.Signals q (mark x p ∷ vs) ss i ws (a, l, y, ka, (b, l1, y1, kb, (c, l2, y2, kc, (p1, f1, t, l3, h, (p2, f2, u, l4, w, (e, l5, y4, ke, (p3, f3, v, l6, (z, dx), (g, r, y6, kg, d)))))))) =
    (p, forms.Other, trees.Signals p u v, r, λ j o. exception_of p j i l l1 l3 l4 l5 l6 r t u v a b e g o y ka y1 kb (h l1 (c, y2, kc, refl, refl)) w y4 ke dx y6 kg, d)
means_contract _ q (mark x p ∷ vs) ss i ws d = absurd d
means_contract k q _ ss i ws d = tt

pub means_contracts : (k : Terminal) (q : Tag) (vs : List StackItem) → Holds goals.Contracts k q vs
means_contracts terminals.Contract q vs ss i ws (a, l, y, ka, (p1, f1, t, l1, h, (p2, f2, u, r, dx, d))) =
    (p1, forms.Other, trees.Cons t u, r, grammar.next (h i (a, y, ka, refl)) dx, d)
means_contracts k q vs ss i ws d = (nowhere, forms.Other, trees.Nil, i, grammar.end, d)

field_of : (o : List ℕ) (x : Bool) (p : Place) (m : Modifiers) (h j l l2 r : List Lexeme) (t v : Tree) (a : Lexeme) → Modified h m j → m.overrides ≡ false → p ≡ at j
    → Der AnyType j t l → Der (Several grammar.Declarator) l v l2 → l2 ≡ a ∷ r → a.kind ≡ kinds.Semicolon
    → Der (grammar.Member o x) h (trees.Field p m.is_static m.is_final t v) r
field_of o x p m h j l l2 r t v a mx ov z dt dv y ka = rw z (grammar.field a mx ov dt (onto y dv) ka)

fields : (w p : Place) (n : List ℕ) (f : Form) (t : Tree) (b : Bool) (m : Modifiers) (vs : List StackItem) (ss : List Symbol) (i : List Lexeme) (ws : List StackItem)
    → Den (Want goals.Initialiser ∷ Build makes.Declarator ∷ Want goals.MoreDeclarators ∷ Take terminals.Semicolon ∷ Build makes.Field ∷ ss) (word w n ∷ part p f t ∷ member b m ∷ vs) i ws → Den (Want goals.FieldOrMethod ∷ ss) (word w n ∷ part p f t ∷ member b m ∷ vs) i ws
fields w p n f t b m vs ss i ws (p1, f1, u, l1, h, (p2, f2, v, l2, h2, (a, r, y, ka, d))) =
    (p, forms.Other, trees.Field p m.is_static m.is_final t v, r, λ o x s j l mx ov z dt nm. field_of o x p m s j l l2 r t v a mx ov z dt (h2 l (h w n l nm)) y ka, d)

pub means_field_or_method : (k : Terminal) (q : Tag) (vs : List StackItem) → Holds goals.FieldOrMethod k q vs
means_field_or_method terminals.LeftParenthesis q (word w n ∷ part p f t ∷ member b m ∷ vs) ss i ws (p1, g, u, r, h, d) =
    (p1, g, u, r, λ o x s j l mx ov z dt nm. h o x s j l mx (grammar.result dt) nm, d)
means_field_or_method terminals.Equal q (word w n ∷ part p f t ∷ member b m ∷ vs) ss i ws d = fields w p n f t b m vs ss i ws d
means_field_or_method terminals.Comma q (word w n ∷ part p f t ∷ member b m ∷ vs) ss i ws d = fields w p n f t b m vs ss i ws d
means_field_or_method terminals.Semicolon q (word w n ∷ part p f t ∷ member b m ∷ vs) ss i ws d = fields w p n f t b m vs ss i ws d
means_field_or_method _ q (word w n ∷ part p f t ∷ member b m ∷ vs) ss i ws d = absurd d
means_field_or_method k q _ ss i ws d = tt

-- the tag of a word in a position for a constructor
plain_modifiers : (m : Modifiers) → is_plain m ≡ true → m ≡ no_modifiers
plain_modifiers m e = go m.is_static m.is_final m.overrides e
  where
    go : (a b c : Bool) → (not a && not b && not c) ≡ true → (let x : Modifiers = record { is_static = a; is_final = b; overrides = c } in x) ≡ no_modifiers
    go false false false e = refl
    go _ _ _ e = cc

constructs : (n o : List ℕ) (b c : Bool) (m : Modifiers) (p : Place) (vs : List StackItem) → tag_of_word n (member b m ∷ owner c p o ∷ vs) ≡ tags.Constructor
    → (m ≡ no_modifiers) × (n ≡ o)
constructs n o b c m p vs e = go (is_plain m) (bytes_eq n o) refl refl e
  where
    go : (x y : Bool) → is_plain m ≡ x → bytes_eq n o ≡ y → (if x && y then tags.Constructor else tags.Word) ≡ tags.Constructor → (m ≡ no_modifiers) × (n ≡ o)
    go true true ex ey e = (plain_modifiers m ex, (bytes_eq-Decides n o).0 ey)
    go _ _ ex ey e = cc

constructor_of : (o : List ℕ) (x : Bool) (w : Place) (n : List ℕ) (m : Modifiers) (h j i l l1 l2 l3 l4 r : List Lexeme) (u s t : Tree) (a c d e : Lexeme) → m ≡ no_modifiers → n ≡ o
    → Modified h m j → Named (word w n) j i
    → i ≡ a ∷ l → a.kind ≡ kinds.LeftParenthesis → Der (Maybe (Several grammar.Parameter)) l u l1 → l1 ≡ c ∷ l2 → c.kind ≡ kinds.RightParenthesis → l2 ≡ d ∷ l3
    → d.kind ≡ kinds.LeftBrace → Built l3 s t l4 → l4 ≡ e ∷ r → e.kind ≡ kinds.RightBrace
    → Der (grammar.Member o x) h (trees.Constructor w u s t) r
constructor_of o x w n m h j i l l1 l2 l3 l4 r u s t a c d e em en mx (g, eq, kg, zw, yn) y ka dx y2 kc y3 kd (k, ds, dt) y4 ke =
    rw zw (grammar.constructor g a c d e (subst (λ v. Modified h v (g ∷ a ∷ l)) em (modified_onto (both eq y) mx)) kg (sym yn ∙ en) ka (onto (both y2 y3) dx) kc kd ds (onto y4 dt) ke)

pub means_member_name : (k : Terminal) (q : Tag) (vs : List StackItem) → tag vs ≡ q → Holds goals.MemberName k q vs
means_member_name terminals.LeftParenthesis tags.Constructor (word w n ∷ member b m ∷ owner c p o ∷ vs) e ss i ws (a, l, y, ka, (p1, f1, u, l1, dx, (c1, l2, y2, kc, (g, l3, y3, kg, (p2, p3, f2, f3, s, t, l4, bx, (e1, r, y4, ke, d)))))) =
    (w, forms.Other, trees.Constructor w u s t, r, λ h j mx ov nm. (let z = constructs n o b c m p vs e in constructor_of o b w n m h j i l l1 l2 l3 l4 r u s t a c1 g e1 z.0 z.1 mx nm y ka dx y2 kc y3 kg bx y4 ke), d)
means_member_name terminals.LeftParenthesis q (word w n ∷ member b m ∷ owner c p o ∷ vs) e ss i ws d = absurd d
means_member_name terminals.Dot q (word w n ∷ member b m ∷ owner c p o ∷ vs) e ss i ws (c1, l, y, kc, (b1, l1, y1, kb, (p1, g, t, l2, (z, h), (a, l3, y2, ka, (p2, g2, u, r, h2, d))))) =
    (p2, g2, u, r, λ s j mx ov nm. h2 o b s j l2 mx ov (z ∙ named_at (word w n) j i nm) (h j (paired w n c1 b1 j i l l1 y kc y1 kb nm)) (a, y2, ka, refl, refl), d)
means_member_name terminals.Less q (word w n ∷ member b m ∷ owner c p o ∷ vs) e ss i ws (p1, g, t, l2, (z, h), (a, l3, y2, ka, (p2, g2, u, r, h2, d))) =
    (p2, g2, u, r, λ s j mx ov nm. h2 o b s j l2 mx ov (z ∙ named_at (word w n) j i nm) (h j nm) (a, y2, ka, refl, refl), d)
means_member_name terminals.LeftBracket q (word w n ∷ member b m ∷ owner c p o ∷ vs) e ss i ws (p1, g, t, l2, (z, h), (a, l3, y2, ka, (p2, g2, u, r, h2, d))) =
    (p2, g2, u, r, λ s j mx ov nm. h2 o b s j l2 mx ov (z ∙ named_at (word w n) j i nm) (h j nm) (a, y2, ka, refl, refl), d)
means_member_name terminals.Identifier q (word w n ∷ member b m ∷ owner c p o ∷ vs) e ss i ws (p1, g, t, l2, (z, h), (a, l3, y2, ka, (p2, g2, u, r, h2, d))) =
    (p2, g2, u, r, λ s j mx ov nm. h2 o b s j l2 mx ov (z ∙ named_at (word w n) j i nm) (h j nm) (a, y2, ka, refl, refl), d)
means_member_name _ q (word w n ∷ member b m ∷ owner c p o ∷ vs) e ss i ws d = absurd d
means_member_name k q _ e ss i ws d = tt

-- classes
class_decl : (n : Bool) (i m l l2 l3 l4 r : List Lexeme) (t u : Tree) (a b c d : Lexeme) → i ≡ a ∷ m → a.kind ≡ kinds.Class → m ≡ b ∷ l → b.kind ≡ kinds.Identifier
    → Der grammar.Extended l t l2 → l2 ≡ c ∷ l3 → c.kind ≡ kinds.LeftBrace → Der (grammar.Members b.text n) l3 u l4 → l4 ≡ d ∷ r → d.kind ≡ kinds.RightBrace
    → Der (grammar.ClassDeclaration n) i (trees.Class b.place b.text t u) r
class_decl n i m l l2 l3 l4 r t u a b c d e ka e2 kb x e3 kc h e4 kd = from (both e e2) (grammar.class a b c d ka kb (onto e3 x) kc (onto e4 h) kd)

nestable : (b : Bool) (m : Modifiers) → tag_of_member b m ≡ tags.Nestable → (m.is_static ≡ true) × (m.overrides ≡ false) × (b ≡ false)
nestable b m e = go m.overrides m.is_static b e
  where
    go : (x y z : Bool) → (if x then tags.Overriding else if y && not z then tags.Nestable else tags.Other) ≡ tags.Nestable → (y ≡ true) × (x ≡ false) × (z ≡ false)
    go false true false e = (refl, refl, refl)
    go true _ _ e = cc
    go false _ _ e = cc

not_overriding : (b : Bool) (m : Modifiers) → (tag_of_member b m ≡ tags.Overriding → ⊥) → m.overrides ≡ false
not_overriding b m e = go m.overrides m.is_static b e
  where
    go : (x y z : Bool) → ((if x then tags.Overriding else if y && not z then tags.Nestable else tags.Other) ≡ tags.Overriding → ⊥) → x ≡ false
    go false y z e = refl
    go true y z e = absurd (e refl)

nested_of : (o : List ℕ) (b : Bool) (m : Modifiers) (h i r : List Lexeme) (t : Tree) → (m.is_static ≡ true) × (m.overrides ≡ false) × (b ≡ false) → Modified h m i
    → Der (grammar.ClassDeclaration true) i t r → Der (grammar.Member o b) h t r
nested_of o b m h i r t (st, ov, eb) mx d = subst (λ x. Der (grammar.Member o x) h t r) (sym eb) (grammar.nested mx st ov d)

void_of : (x : Kind) (p : Place) (i r : List Lexeme) → x ≡ kinds.Void → Der grammar.ResultType i (trees.PrimitiveType p primitives.Void) r
    → Der grammar.ResultType i (trees.PrimitiveType p (the_primitive x)) r
void_of x p i r e d = subst (λ k. Der grammar.ResultType i (trees.PrimitiveType p (the_primitive k)) r) (sym e) d

pub means_member : (k : Terminal) (q : Tag) (vs : List StackItem) → tag vs ≡ q → Holds goals.Member k q vs
means_member terminals.Access q (member b m ∷ owner c p n ∷ vs) e ss i ws (a, l, y, ka, (p1, f, t, r, h, d)) =
    (p1, f, t, r, λ s x. h s (grammar.access a (modified_onto y x) ka), d)
means_member terminals.Static q (member b m ∷ owner c p n ∷ vs) e ss i ws (a, l, y, ka, (p1, f, t, r, h, d)) =
    (p1, f, t, r, λ s x. h s (grammar.static a (modified_onto y x) ka), d)
means_member terminals.Final q (member b m ∷ owner c p n ∷ vs) e ss i ws (a, l, y, ka, (p1, f, t, r, h, d)) = (p1, f, t, r, λ s x. h s (grammar.final a (modified_onto y x) ka), d)
means_member terminals.At q (member b m ∷ owner c p n ∷ vs) e ss i ws (a, l, y, ka, (a2, l2, y2, k2, tx, (p1, f, t, r, h, d))) =
    (p1, f, t, r, λ s x. h s (grammar.overriding a a2 (modified_onto (both y y2) x) ka k2 tx), d)
means_member terminals.Void q (member b m ∷ owner c p n ∷ vs) e ss i ws (a, l, y, ka, (b2, l2, y2, kb, (p1, g, u, r, h, d))) =
    (p1, g, u, r, λ s x. h n b s i l x (void_of a.kind a.place i l ka (from y (grammar.void a ka))) (b2, y2, kb, refl, refl), d)
means_member terminals.Class tags.Nestable (member b m ∷ owner c p n ∷ vs) e ss i ws (a, l, y, ka, (b2, l2, y2, kb, (p1, f1, t, l3, x, (c2, l4, y3, kc, (p2, f2, u, l5, h, (g, r, y4, kg, d)))))) =
    (b2.place, forms.Other, trees.Class b2.place b2.text t u, r, λ s mx. nested_of n b m s i r (trees.Class b2.place b2.text t u) (nestable b m e) mx (class_decl true i l l2 l3 l4 l5 r t u a b2 c2 g y ka y2 kb x y3 kc (h refl refl) y4 kg), d)
means_member terminals.Primitive tags.Overriding (member b m ∷ owner c p n ∷ vs) e ss i ws (p1, f, t, l, (z, x), (b2, l2, y2, kb, (p2, g, u, r, h, d))) =
    (p2, g, u, r, λ s mx. h n b s i l mx (grammar.result x) (b2, y2, kb, refl, refl), d)
means_member terminals.Identifier tags.Overriding (member b m ∷ owner c p n ∷ vs) e ss i ws (p1, f, t, l, (z, x), (b2, l2, y2, kb, (p2, g, u, r, h, d))) =
    (p2, g, u, r, λ s mx. h n b s i l mx (grammar.result x) (b2, y2, kb, refl, refl), d)
means_member terminals.Primitive q (member b m ∷ owner c p n ∷ vs) e ss i ws (p1, f, t, l, (z, x), (b2, l2, y2, kb, (p2, g, u, r, h, d))) =
    (p2, g, u, r, λ s mx. h n b s i l mx (not_overriding b m (λ so. let bad : tags.Overriding ≡ q = sym so ∙ e in cc)) z x (b2, y2, kb, refl, refl), d)
means_member terminals.Identifier q (member b m ∷ owner c p n ∷ vs) e ss i ws d =
    (d.4.0, d.4.1, d.4.2, d.4.3, λ s mx. d.4.4 s i mx (not_overriding b m (λ so. let bad : tags.Overriding ≡ q = sym so ∙ e in cc)) (d.0, d.2, d.3, refl, refl), d.4.5)
means_member _ q (member b m ∷ owner c p n ∷ vs) e ss i ws d = absurd d
means_member k q _ e ss i ws d = tt

pub means_method_ahead : (k : Terminal) (q : Tag) (vs : List StackItem) → Holds goals.MethodAhead k q vs
means_method_ahead terminals.Access q (member b m ∷ part e g v ∷ vs) ss i ws (a, l, y, ka, (p1, f, t, r, h, d)) =
    (p1, f, t, r, λ o x c s ks mx. h o x c s ks (grammar.access a (modified_onto y mx) ka), d)
means_method_ahead terminals.Static q (member b m ∷ part e g v ∷ vs) ss i ws (a, l, y, ka, (p1, f, t, r, h, d)) =
    (p1, f, t, r, λ o x c s ks mx. h o x c s ks (grammar.static a (modified_onto y mx) ka), d)
means_method_ahead terminals.Final q (member b m ∷ part e g v ∷ vs) ss i ws (a, l, y, ka, (p1, f, t, r, h, d)) =
    (p1, f, t, r, λ o x c s ks mx. h o x c s ks (grammar.final a (modified_onto y mx) ka), d)
means_method_ahead terminals.At q (member b m ∷ part e g v ∷ vs) ss i ws (a, l, y, ka, (a2, l2, y2, k2, tx, (p1, f, t, r, h, d))) =
    (p1, f, t, r, λ o x c s ks mx. h o x c s ks (grammar.overriding a a2 (modified_onto (both y y2) mx) ka k2 tx), d)
means_method_ahead terminals.Void q (member b m ∷ part e g v ∷ vs) ss i ws (a, l, y, ka, (b2, l2, y2, kb, (p1, f, u, r, h, d))) =
    (p1, f, u, r, λ o x c s ks mx. h o x c s i l ks mx (void_of a.kind a.place i l ka (from y (grammar.void a ka))) (b2, y2, kb, refl, refl), d)
means_method_ahead terminals.Primitive q (member b m ∷ part e g v ∷ vs) ss i ws (p1, f, t, l, (z, x), (b2, l2, y2, kb, (p2, f2, u, r, h, d))) =
    (p2, f2, u, r, λ o n c s ks mx. h o n c s i l ks mx (grammar.result x) (b2, y2, kb, refl, refl), d)
means_method_ahead terminals.Identifier q (member b m ∷ part e g v ∷ vs) ss i ws (p1, f, t, l, (z, x), (b2, l2, y2, kb, (p2, f2, u, r, h, d))) =
    (p2, f2, u, r, λ o n c s ks mx. h o n c s i l ks mx (grammar.result x) (b2, y2, kb, refl, refl), d)
means_method_ahead _ q (member b m ∷ part e g v ∷ vs) ss i ws d = absurd d
means_method_ahead k q _ ss i ws d = tt

-- a method with contracts, and the members after it
contracted_of : (n : List ℕ) (c : Bool) (m : Modifiers) (i h l r : List Lexeme) (v t u : Tree) → m ≡ no_modifiers → Der (Many grammar.Contract) i v h
    → ((o : List ℕ) (x : Bool) (s j : List Lexeme) → Der (Many grammar.Contract) s v j → Modified j m h → Der (grammar.Member o x) s t l) → Der (grammar.Members n c) l u r → Der (grammar.Members n c) i (trees.Cons t u) r
contracted_of n c m i h l r v t u z ks g x = grammar.member (g n c i h ks (subst (λ f. Modified h f h) (sym z) grammar.nothing)) x

member_of : (n : List ℕ) (b c : Bool) (m : Modifiers) (i l r : List Lexeme) (t u : Tree) → m ≡ no_modifiers → b ≡ c
    → ((s : List Lexeme) → Modified s m i → Der (grammar.Member n b) s t l) → Der (grammar.Members n c) l u r → Der (grammar.Members n c) i (trees.Cons t u) r
member_of n b c m i l r t u z y h x = grammar.member (subst (λ v. Der (grammar.Member n v) i t l) y (h i (subst (λ f. Modified i f i) (sym z) grammar.nothing))) x

pub means_members : (k : Terminal) (q : Tag) (vs : List StackItem) → Holds goals.Members k q vs
means_members terminals.RightBrace q (member b m ∷ owner c p n ∷ vs) ss i ws d = (nowhere, forms.Other, trees.Nil, i, λ z y. grammar.no_member, d)
means_members terminals.Semicolon q (member b m ∷ owner c p n ∷ vs) ss i ws (a, l, e, ka, (p1, f, t, r, h, d)) = (p1, f, t, r, λ z y. from e (grammar.skip_member a ka (h z y)), d)
means_members terminals.Contract q (member b m ∷ owner c p n ∷ vs) ss i ws (a, l, e, ka, (p1, f1, t, l1, h1, (p2, f2, u, l2, dx, (p3, f3, v, l3, h3, (p4, f4, w, r, h4, d))))) =
    (p3, forms.Other, trees.Cons v w, r, λ z y. contracted_of n c m i l2 l3 r (trees.Cons t u) v w z (grammar.next (h1 i (a, e, ka, refl)) dx) h3 (h4 refl refl), d)
means_members k q (member b m ∷ owner c p n ∷ vs) ss i ws d =
    (d.0, forms.Other, trees.Cons d.2 d.5.2, d.5.3, λ z y. member_of n b c m i d.3 d.5.3 d.2 d.5.2 z y d.4 (d.5.4 refl refl), d.5.5)
means_members k q _ ss i ws d = tt

pub means_class_ahead : (k : Terminal) (q : Tag) (vs : List StackItem) → Holds goals.ClassAhead k q vs
means_class_ahead terminals.Access q vs ss i ws (a, m, e, ka, (p, f, t, r, h, d)) = (p, f, t, r, λ s x mx ov. h s x (grammar.access a (modified_onto e mx) ka) ov, d)
means_class_ahead terminals.Static q vs ss i ws (a, m, e, ka, (p, f, t, r, h, d)) =
    (p, f, t, r, λ s x mx ov. h s (record x { is_static = true }) (grammar.static a (modified_onto e mx) ka) ov, d)
means_class_ahead terminals.Final q vs ss i ws (a, m, e, ka, (p, f, t, r, h, d)) =
    (p, f, t, r, λ s x mx ov. h s (record x { is_final = true }) (grammar.final a (modified_onto e mx) ka) ov, d)
means_class_ahead terminals.Class q vs ss i ws (a, m, e, ka, (b, l, e2, kb, (p1, f1, t, l2, x, (c, l3, e3, kc, (p2, f2, u, l4, h, (g, r, e4, kg, d)))))) =
    (b.place, forms.Other, trees.Class b.place b.text t u, r, λ s y mx ov. (y, i, mx, ov, class_decl false i m l l2 l3 l4 r t u a b c g e ka e2 kb x e3 kc (h refl refl) e4 kg), d)
means_class_ahead _ q vs ss i ws d = absurd d

another_of : (i m r : List Lexeme) (t u : Tree) → Declared i t m → Der grammar.Classes m u r → Der grammar.Classes i (trees.Cons t u) r
another_of i m r t u (f, j, x, ov, dc) y = grammar.another x ov dc y

pub means_classes : (k : Terminal) (q : Tag) (vs : List StackItem) → Holds goals.Classes k q vs
means_classes terminals.End q vs ss i ws d = (nowhere, forms.Other, trees.Nil, i, grammar.no_class, d)
means_classes terminals.Semicolon q vs ss i ws (a, m, e, ka, (p, f, t, r, x, d)) = (p, f, t, r, from e (grammar.skip_class a ka x), d)
means_classes k q vs ss i ws d = (d.0, forms.Other, trees.Cons d.2 d.5.2, d.5.3, another_of i d.3 d.5.3 d.2 d.5.2 (d.4 i no_modifiers grammar.nothing refl) d.5.4, d.5.5)

-- the text before the classes
pub means_dotted : (k : Terminal) (q : Tag) (vs : List StackItem) → Holds goals.Dotted k q vs
means_dotted terminals.Dot q vs ss i ws (a, m, e, ka, (b, l, e2, kb, (r, x, d))) = (r, subst (λ j. grammar.Dotted j r) (sym (both e e2)) (grammar.dot a b ka kb x), d)
means_dotted k q vs ss i ws d = (i, grammar.no_more, d)

pub means_imported : (k : Terminal) (q : Tag) (vs : List StackItem) → Holds goals.Imported k q vs
means_imported terminals.Identifier q vs ss i ws (a, m, e, ka, d) = (a, m, e, grammar.name ka, d)
means_imported terminals.Star q vs ss i ws (a, m, e, ka, d) = (a, m, e, grammar.all ka, d)
means_imported _ q vs ss i ws d = absurd d

pub means_imports : (k : Terminal) (q : Tag) (vs : List StackItem) → Holds goals.Imports k q vs
means_imports terminals.Import q vs ss i ws (a, m, e, ka, (b, l, e2, kb, tb, (c, l1, e3, kc, (g, l2, e4, kg, tg, (h, l3, e5, kh, (n, l4, e6, kn, (s, l5, e7, ks, (p, f, t, r, x, d)))))))) =
    (p, f, t, r, (x.0, subst (λ j. grammar.Imports j x.0) (sym (four e e2 e3 e4 ∙ ap (λ y. a ∷ b ∷ c ∷ g ∷ y) (three e5 e6 e7))) (grammar.import a b c g h n s ka kb tb kc kg tg kh kn ks x.1), x.2), d)
means_imports k q vs ss i ws d = (d.0, d.1, d.2, d.3, (i, grammar.no_import, d.4), d.5)

pub means_file : (k : Terminal) (q : Tag) (vs : List StackItem) → Holds goals.File k q vs
means_file terminals.Package q vs ss i ws (a, m, e, ka, (b, l, e2, kb, (l1, x, (c, l2, e3, kc, (p, f, t, r, h, d))))) =
    (p, f, t, r, (h.0, subst (λ j. Heading j h.0) (sym (both e e2)) (grammar.packaged a b c ka kb (subst (λ j. grammar.Dotted l j) e3 x) kc h.1), h.2), d)
means_file k q vs ss i ws d = (d.0, d.1, d.2, d.3, (d.4.0, grammar.unpackaged d.4.1, d.4.2), d.5)
