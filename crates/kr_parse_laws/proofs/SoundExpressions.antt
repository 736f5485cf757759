-- The goals of expressions denote what their rules denote.
use Rattle.std.proofs.Common.{◌≡◌, ◌≢◌, ◌≤◌, ◌<◌, ◌+◌, ℕ, Bool, true, false, if◌then◌else◌, nat_lt, List, [], ◌∷◌, Some, None, refl, sym, ◌∙◌, arith, le_refl, lit≤}
use Rattle.std.proofs.Math.Path.{subst}
use Rattle.kr_base.specs.declared.place.Place.{Place}
use Rattle.kr_base.specs.Places.{nowhere}
use Rattle.kr_lex.specs.Lexemes.{Lexeme}
use Rattle.kr_lex.specs.declared.kind.Kind.{Kind}
use Rattle.kr_lex.specs.declared.kind.Kind.TheVariants as kinds
use Rattle.kr_ast.specs.Tree as trees
use Rattle.kr_ast.specs.Tree.{Tree}
use Rattle.kr_parse_grammar.specs.declared.terminal.Terminal.{Terminal}
use Rattle.kr_parse_grammar.specs.declared.terminal.Terminal.TheVariants as terminals
use Rattle.kr_parse_grammar.specs.declared.value.Form.{Form}
use Rattle.kr_parse_grammar.specs.declared.value.Form.TheVariants as forms
use Rattle.kr_parse_grammar.specs.declared.value.Tag.{Tag}
use Rattle.kr_parse_grammar.specs.declared.value.Tag.TheVariants as tags
use Rattle.kr_parse_grammar.specs.declared.goal.Goal.TheVariants as goals
use Rattle.kr_parse_grammar.specs.declared.goal.Make.TheVariants as makes
use Rattle.kr_parse_grammar.specs.declared.goal.Symbol.{Symbol}
use Rattle.kr_parse_grammar.specs.declared.goal.Symbol.TheVariants.{Take, Keep, Want, Build}
use Rattle.kr_parse_grammar.specs.Values.{StackItem, mark, word, pair, part, tag}
use Rattle.kr_parse_grammar.specs.TokenMeanings.{primitive_of}
use Rattle.kr_parse_grammar.specs.Made.{assigned, the_primitive, the_unary, the_step_before, the_step_behind, the_binary}
use Rattle.kr_parse_grammar.specs.Grammar as grammar
use Rattle.kr_parse_grammar.specs.Grammar.{Der, at, ClassName, AnyType}
use Rattle.kr_parse_laws.proofs.SoundKinds.{Kinds, IsBinary, IsCompound}
use Rattle.kr_parse_laws.proofs.SoundMeanings.{Token, Named, NamedBefore, place_of, class_of, IsTarget, Operand, Tight, Enclosed, Bracketed, Creates, Den, DenOf, Goes, Holds}
use Rattle.kr_parse_laws.proofs.SoundSteps.{from, onto, begins, both, three, four, behind, named_at, named_before, named_class, named_operand, named_call, paired, target_of, creation_tag, from_primary, from_postfix, from_unsigned}
use Rattle.std.proofs.lemmas.Bool.{ltb-false}

-- a list in parentheses, or none
pub means_arguments : (k : Terminal) (q : Tag) (vs : List StackItem) → Holds goals.Arguments k q vs
means_arguments terminals.RightParenthesis q vs ss i ws d = (nowhere, forms.Other, trees.Nil, i, grammar.absent, d)
means_arguments k q vs ss i ws (p, f, t, m, (z, x), (p1, g, u, r, h, d)) = (p1, g, u, r, grammar.present (h i x), d)

pub means_more_arguments : (k : Terminal) (q : Tag) (vs : List StackItem) → Holds goals.MoreArguments k q vs
means_more_arguments terminals.Comma q (part p f t ∷ vs) ss i ws (a, m, e, ka, (p1, g, u, l, (z, x), (p2, g2, v, r, h, d))) =
    (p, forms.Other, trees.Cons t v, r, λ j s. grammar.comma a (onto e s) ka (h m x), d)
means_more_arguments k q (part p f t ∷ vs) ss i ws d = (p, forms.Other, trees.Cons t trees.Nil, i, λ j s. grammar.last s, d)
means_more_arguments k q _ ss i ws d = tt

-- primary expressions
pub means_primary : (k : Terminal) (q : Tag) (vs : List StackItem) → Holds goals.Primary k q vs
means_primary terminals.Literal q vs ss i ws (a, m, e, l, (p, f, t, r, (z, h), d)) = (p, f, t, r, (z ∙ begins e, h i (begins e) (from e l)), d)
means_primary terminals.Identifier q vs ss i ws (a, m, e, ka, (p, f, t, r, (z, h), d)) = (p, f, t, r, (z ∙ begins e, h i (a, e, ka, refl, refl)), d)
means_primary terminals.LeftParenthesis q vs ss i ws (a, m, e, ka, (p, f, t, l, (z, x), (b, s, y, kb, (p1, g, u, r, (w, h), d)))) =
    (p1, g, u, r, (w ∙ begins e, h i (begins e) (from e (grammar.parentheses a b ka (onto y x) kb))), d)
means_primary terminals.Super q vs ss i ws (a, m, e, ka, (b, l, f, kb, (c, s, g, kc, (o, s1, y, ko, (p, g1, u, s2, v, (c2, s3, z, kz, (p1, g2, t, r, (w, h), d))))))) =
    (p1, g2, t, r, (w ∙ begins e, h i (begins e) (from (four e f g y) (grammar.super_call a b c o c2 ka kb kc ko (onto z v) kz))), d)
means_primary terminals.Old q vs ss i ws (a, m, e, ka, (b, l, f, kb, (p, g1, u, s, (z, v), (c, s2, y, kc, (p1, g2, t, r, (w, h), d))))) =
    (p1, g2, t, r, (w ∙ begins e, h i (begins e) (from (both e f) (grammar.old_value a b c ka kb (onto y v) kc))), d)
means_primary terminals.New q vs ss i ws (a, m, e, ka, (p, f, t, l, (z, x), (p1, g, u, r, (w, h), d))) =
    (p1, g, u, r, (w ∙ (z ∙ begins e), h i (z ∙ begins e) (x i m (a, e, ka, refl) refl)), d)
means_primary _ q vs ss i ws d = absurd d

plain_primary_name : (p : Place) (n : List ℕ) (vs : List StackItem) (ss : List Symbol) (i : List Lexeme) (ws : List StackItem)
    → Den (Build makes.Variable ∷ Want goals.Suffixes ∷ ss) (word p n ∷ vs) i ws → Den (Want goals.PrimaryName ∷ ss) (word p n ∷ vs) i ws
plain_primary_name p n vs ss i ws (p2, g, t, s, (w, h), d) = (p2, g, t, s, (w, λ j o. h j (named_at (word p n) j i o) (named_operand (word p n) j i o)), d)

pub means_primary_name : (k : Terminal) (q : Tag) (vs : List StackItem) → Holds goals.PrimaryName k q vs
means_primary_name terminals.LeftParenthesis q (word p n ∷ vs) ss i ws (b, m, e, kb, (p1, f, u, l, x, (c, r, y, kc, (p2, g, t, s, (w, h), d)))) =
    (p2, g, t, s, (w, λ j o. h j (named_at (word p n) j i o) (named_call (word p n) j i r u o (b, c, m, e, kb, onto y x, kc))), d)
means_primary_name k q (word p n ∷ vs) ss i ws d = plain_primary_name p n vs ss i ws d
means_primary_name k q _ ss i ws d = tt

-- the continuation of a primary expression
access_of : (f : Form) (p : Place) (j i m r : List Lexeme) (t u : Tree) (a b : Lexeme) → p ≡ at j → Der (grammar.Primary f) j t i → f ≢ forms.ArrayCreation → i ≡ a ∷ m
    → a.kind ≡ kinds.LeftBracket → Der grammar.Expression m u (b ∷ r) → b.kind ≡ kinds.RightBracket
    → Der (grammar.Primary forms.Target) j (trees.ArrayAccess p t u) r
access_of f p j i m r t u a b v d other e ka x kb = rw v (grammar.array_access a b (onto e d) other ka x kb)

pub means_suffixes : (k : Terminal) (q : Tag) (vs : List StackItem) → tag vs ≡ q → Holds goals.Suffixes k q vs
means_suffixes terminals.Dot q (part p f t ∷ vs) e ss i ws (a, m, y, ka, (b, l, x, kb, (p1, g, u, r, (z, h), d))) =
    (p1, g, u, r, (z, λ j w s. h j m a w (onto y s) ka (b, x, kb, refl, refl)), d)
means_suffixes terminals.LeftBracket tags.ArrayCreation (part p f t ∷ vs) e ss i ws d = absurd d
means_suffixes terminals.LeftBracket q (part p f t ∷ vs) e ss i ws (a, m, y, ka, (p1, f1, u, l, (z1, x), (b, s, y2, kb, (p2, g, v, r, (z, h), d)))) =
    (p2, g, v, r, (z, λ j w o. h j w (access_of f p j i m s t u a b w o (λ made_so. let bad : tags.ArrayCreation ≡ q = sym (creation_tag p f t vs made_so) ∙ e in cc) y ka (onto y2 x) kb)), d)
means_suffixes terminals.Identifier q (part p f t ∷ vs) e ss i ws d = absurd d
means_suffixes terminals.Literal q (part p f t ∷ vs) e ss i ws d = absurd d
means_suffixes terminals.LeftParenthesis q (part p f t ∷ vs) e ss i ws d = absurd d
means_suffixes terminals.New q (part p f t ∷ vs) e ss i ws d = absurd d
means_suffixes terminals.Super q (part p f t ∷ vs) e ss i ws d = absurd d
means_suffixes terminals.Old q (part p f t ∷ vs) e ss i ws d = absurd d
means_suffixes terminals.Complement q (part p f t ∷ vs) e ss i ws d = absurd d
means_suffixes k q (part p f t ∷ vs) e ss i ws d = (p, f, t, i, (refl, λ j w s. s), d)
means_suffixes k q _ e ss i ws d = tt

selected_call : (f : Form) (p w : Place) (n : List ℕ) (j s i r : List Lexeme) (t u : Tree) (a : Lexeme) → p ≡ at j → Der (grammar.Primary f) j t (a ∷ s) → a.kind ≡ kinds.Dot
    → Named (word w n) s i → Enclosed i u r
    → Der (grammar.Primary forms.Invocation) j (trees.MethodCall p t n u) r
selected_call f p w n j s i r t u a v d ka (b, e, kb, z, y) (c, g, m, x, kc, h, kg) = rw (v, y) (grammar.method_call a b c g (behind (both e x) d) ka kb kc h kg)

selected_field : (f : Form) (p w : Place) (n : List ℕ) (j s i : List Lexeme) (t : Tree) (a : Lexeme) → p ≡ at j → Der (grammar.Primary f) j t (a ∷ s) → a.kind ≡ kinds.Dot
    → Named (word w n) s i
    → Der (grammar.Primary forms.Target) j (trees.FieldAccess p t n) i
selected_field f p w n j s i t a v d ka (b, e, kb, z, y) = rw (v, y) (grammar.field_access a b (behind e d) ka kb)

plain_selected : (w p : Place) (n : List ℕ) (f : Form) (t : Tree) (vs : List StackItem) (ss : List Symbol) (i : List Lexeme) (ws : List StackItem)
    → Den (Build makes.FieldAccess ∷ Want goals.Suffixes ∷ ss) (word w n ∷ part p f t ∷ vs) i ws → Den (Want goals.Selected ∷ ss) (word w n ∷ part p f t ∷ vs) i ws
plain_selected w p n f t vs ss i ws (p2, g, v, r, (z, h), d) = (p2, g, v, r, (z, λ j s a o dx ka na. h j o (selected_field f p w n j s i t a o dx ka na)), d)

pub means_selected : (k : Terminal) (q : Tag) (vs : List StackItem) → Holds goals.Selected k q vs
means_selected terminals.LeftParenthesis q (word w n ∷ part p f t ∷ vs) ss i ws (c, m, y, kc, (p1, f1, u, l, x, (b, l2, y2, kb, (p2, g, v, r, (z, h), d)))) =
    (p2, g, v, r, (z, λ j s a o dx ka na. h j o (selected_call f p w n j s i l2 t u a o dx ka na (c, b, m, y, kc, onto y2 x, kb))), d)
means_selected k q (word w n ∷ part p f t ∷ vs) ss i ws d = plain_selected w p n f t vs ss i ws d
means_selected k q _ ss i ws d = tt

-- creations
new_primitive : (p : Place) (h j i m r : List Lexeme) (a : Lexeme) (u : Tree) → Token kinds.New p h j → j ≡ i → i ≡ a ∷ m → primitive_of a.kind ≡ Some (the_primitive a.kind)
    → Bracketed m u r
    → Der (grammar.Primary forms.ArrayCreation) h (trees.ArrayCreation p (trees.PrimitiveType a.place (the_primitive a.kind)) u) r
new_primitive p h j i m r a u (o, g, ko, z) s e ka (b, c, l, f, kb, x, kc) = rw z (from (three g (s ∙ e) f) (grammar.primitive_array o a b c ko ka kb x kc))

new_object : (p : Place) (h j i r : List Lexeme) (t u : Tree) → Token kinds.New p h j → Der ClassName j t i → Enclosed i u r
    → Der (grammar.Primary forms.Invocation) h (trees.ObjectCreation p t u) r
new_object p h j i r t u (o, g, ko, z) d (b, c, l, f, kb, x, kc) = rw z (from g (grammar.creation o b c ko (onto f d) kb x kc))

new_array : (p : Place) (h j i r : List Lexeme) (t u : Tree) → Token kinds.New p h j → Der ClassName j t i → Bracketed i u r
    → Der (grammar.Primary forms.ArrayCreation) h (trees.ArrayCreation p t u) r
new_array p h j i r t u (o, g, ko, z) d (b, c, l, f, kb, x, kc) = rw z (from g (grammar.class_array o b c ko (onto f d) kb x kc))

new_diamond : (p w : Place) (h j i m r : List Lexeme) (t u : Tree) (l b : Lexeme) → Token kinds.New p h j → w ≡ at j → Der ClassName j t (l ∷ i) → l.kind ≡ kinds.Less → i ≡ b ∷ m
    → b.kind ≡ kinds.Greater → Enclosed m u r
    → Der (grammar.Primary forms.Invocation) h (trees.ObjectCreation p (trees.DiamondType w t) u) r
new_diamond p w h j i m r t u l b (o, g, ko, z) y d kl f kb (c, e, s, f2, kc, x, ke) =
    rw (z, y) (from g (grammar.diamond_creation o l b c e ko (behind (both f f2) d) kl kb kc x ke))

new_generic : (p w : Place) (h j i m s r : List Lexeme) (t v u : Tree) (l b : Lexeme) → Token kinds.New p h j → w ≡ at j → Der ClassName j t (l ∷ i) → l.kind ≡ kinds.Less
    → Der AnyType i v m → m ≡ b ∷ s → b.kind ≡ kinds.Greater → Enclosed s u r
    → Der (grammar.Primary forms.Invocation) h (trees.ObjectCreation p (trees.GenericType w t v) u) r
new_generic p w h j i m s r t v u l b (o, g, ko, z) y d kl dv f kb (c, e, s1, f2, kc, x, ke) =
    rw (z, y) (from g (grammar.generic_creation o l b c e ko d kl (onto (both f f2) dv) kb kc x ke))

pub means_creator : (k : Terminal) (q : Tag) (vs : List StackItem) → Holds goals.Creator k q vs
means_creator terminals.Primitive q (mark x p ∷ vs) ss i ws (a, m, e, ka, (u, r, b, d)) =
    (p, forms.ArrayCreation, trees.ArrayCreation p (trees.PrimitiveType a.place (the_primitive a.kind)) u, r, (refl, λ h j o s. new_primitive p h j i m r a u o s e ka b), d)
means_creator terminals.Identifier q (mark x p ∷ vs) ss i ws (a, m, e, ka, (p1, f, t, r, (z, h), d)) =
    (p1, f, t, r, (z, λ b j o s. h b j o (a, s ∙ e, ka, refl, refl)), d)
means_creator _ q (mark x p ∷ vs) ss i ws d = absurd d
means_creator k q _ ss i ws d = tt

creates_object : (v : StackItem) (p : Place) (vs : List StackItem) (ss : List Symbol) (ws : List StackItem) (i : List Lexeme)
    → (u : Tree) × (r : List Lexeme) × Enclosed i u r × Den ss (part p forms.Invocation (trees.ObjectCreation p (class_of v) u) ∷ vs) r ws
    → Creates p (λ j. Named v j i) vs (Goes ss ws)
creates_object v p vs ss ws i (u, r, b, d) =
    (p, forms.Invocation, trees.ObjectCreation p (class_of v) u, r, (refl, λ h j o s. new_object p h j i r (class_of v) u o (named_class v j i s) b), d)

creates_array : (v : StackItem) (p : Place) (vs : List StackItem) (ss : List Symbol) (ws : List StackItem) (i : List Lexeme)
    → (u : Tree) × (r : List Lexeme) × Bracketed i u r × Den ss (part p forms.ArrayCreation (trees.ArrayCreation p (class_of v) u) ∷ vs) r ws
    → Creates p (λ j. Named v j i) vs (Goes ss ws)
creates_array v p vs ss ws i (u, r, b, d) =
    (p, forms.ArrayCreation, trees.ArrayCreation p (class_of v) u, r, (refl, λ h j o s. new_array p h j i r (class_of v) u o (named_class v j i s) b), d)

pub means_creator_name : (k : Terminal) (q : Tag) (vs : List StackItem) → tag vs ≡ q → Holds goals.CreatorName k q vs
means_creator_name terminals.Dot tags.Word (word w n ∷ mark x p ∷ vs) e ss i ws (d, m, y, kd, (b, l, f, kb, (p1, g, t, r, (z, h), c))) =
    (p1, g, t, r, (z, λ a j o s. h a j o (paired w n d b j i m l y kd f kb s)), c)
means_creator_name terminals.Dot tags.Word (pair w o n ∷ mark x p ∷ vs) e ss i ws d = (let bad : tags.Pair ≡ tags.Word = e in cc)
means_creator_name terminals.Less q (word w n ∷ mark x p ∷ vs) e ss i ws (b, m, y, kb, (p1, g, t, r, (z, h), c)) =
    (p1, g, t, r, (z, λ a j o1 s. h a j o1 (named_before kinds.Less (word w n) j i m b y kb s)), c)
means_creator_name terminals.Less q (pair w o n ∷ mark x p ∷ vs) e ss i ws (b, m, y, kb, (p1, g, t, r, (z, h), c)) =
    (p1, g, t, r, (z, λ a j o1 s. h a j o1 (named_before kinds.Less (pair w o n) j i m b y kb s)), c)
means_creator_name terminals.LeftParenthesis q (word w n ∷ mark x p ∷ vs) e ss i ws d = creates_object (word w n) p vs ss ws i d
means_creator_name terminals.LeftParenthesis q (pair w o n ∷ mark x p ∷ vs) e ss i ws d = creates_object (pair w o n) p vs ss ws i d
means_creator_name terminals.LeftBracket q (word w n ∷ mark x p ∷ vs) e ss i ws d = creates_array (word w n) p vs ss ws i d
means_creator_name terminals.LeftBracket q (pair w o n ∷ mark x p ∷ vs) e ss i ws d = creates_array (pair w o n) p vs ss ws i d
means_creator_name k q (word w n ∷ mark x p ∷ vs) e ss i ws d = absurd d
means_creator_name k q (pair w o n ∷ mark x p ∷ vs) e ss i ws d = absurd d
means_creator_name k q _ e ss i ws d = tt

creates_generic : (v : StackItem) (p : Place) (t : Tree) (vs : List StackItem) (ss : List Symbol) (ws : List StackItem) (i l m : List Lexeme) (b : Lexeme) → Der AnyType i t l → l ≡ b ∷ m
    → b.kind ≡ kinds.Greater
    → (u : Tree) × (r : List Lexeme) × Enclosed m u r × Den ss (part p forms.Invocation (trees.ObjectCreation p (trees.GenericType (place_of v) (class_of v) t) u) ∷ vs) r ws
    → Creates p (λ j. NamedBefore kinds.Less v j i) vs (Goes ss ws)
creates_generic v p t vs ss ws i l m b g y kb (u, r, e, d) = (
  p,
  forms.Invocation,
  trees.ObjectCreation p (trees.GenericType (place_of v) (class_of v) t) u,
  r,
  (refl, λ h j o s. new_generic p (place_of v) h j i l m r (class_of v) t u s.0 b o (named_at v j (s.0 ∷ i) s.1) (named_class v j (s.0 ∷ i) s.1) s.2 g y kb e),
  d,
)

creates_diamond : (v : StackItem) (p : Place) (vs : List StackItem) (ss : List Symbol) (ws : List StackItem) (i m : List Lexeme) (b : Lexeme) → i ≡ b ∷ m → b.kind ≡ kinds.Greater
    → (u : Tree) × (r : List Lexeme) × Enclosed m u r × Den ss (part p forms.Invocation (trees.ObjectCreation p (trees.DiamondType (place_of v) (class_of v)) u) ∷ vs) r ws
    → Creates p (λ j. NamedBefore kinds.Less v j i) vs (Goes ss ws)
creates_diamond v p vs ss ws i m b y kb (u, r, e, d) = (
  p,
  forms.Invocation,
  trees.ObjectCreation p (trees.DiamondType (place_of v) (class_of v)) u,
  r,
  (refl, λ h j o s. new_diamond p (place_of v) h j i m r (class_of v) u s.0 b o (named_at v j (s.0 ∷ i) s.1) (named_class v j (s.0 ∷ i) s.1) s.2 y kb e),
  d,
)

pub means_creator_argument : (k : Terminal) (q : Tag) (vs : List StackItem) → Holds goals.CreatorArgument k q vs
means_creator_argument terminals.Greater q (word w n ∷ mark x p ∷ vs) ss i ws (b, m, y, kb, d) = creates_diamond (word w n) p vs ss ws i m b y kb d
means_creator_argument terminals.Greater q (pair w o n ∷ mark x p ∷ vs) ss i ws (b, m, y, kb, d) = creates_diamond (pair w o n) p vs ss ws i m b y kb d
means_creator_argument k q (word w n ∷ mark x p ∷ vs) ss i ws d = creates_generic (word w n) p d.2 vs ss ws i d.3 d.5.1 d.5.0 d.4.1 d.5.2 d.5.3 d.5.4
means_creator_argument k q (pair w o n ∷ mark x p ∷ vs) ss i ws d = creates_generic (pair w o n) p d.2 vs ss ws i d.3 d.5.1 d.5.0 d.4.1 d.5.2 d.5.3 d.5.4
means_creator_argument k q _ ss i ws d = tt

pub means_object_creation : (k : Terminal) (q : Tag) (vs : List StackItem) → Holds goals.ObjectCreation k q vs
means_object_creation k q (part w f t ∷ mark x p ∷ vs) ss i ws (b, m, e, kb, (p1, g, u, l, y, (c, r, z, kc, d))) = (u, r, (b, c, m, e, kb, onto z y, kc), d)
means_object_creation k q _ ss i ws d = tt

pub means_array_length : (k : Terminal) (q : Tag) (vs : List StackItem) → Holds goals.ArrayLength k q vs
means_array_length k q (part w f t ∷ mark x p ∷ vs) ss i ws (b, m, e, kb, (p1, g, u, l, (z1, y), (c, r, z, kc, d))) = (u, r, (b, c, m, e, kb, onto z y, kc), d)
means_array_length k q _ ss i ws d = tt

-- expressions with one operand
plain_unary : (vs : List StackItem) (ss : List Symbol) (i : List Lexeme) (ws : List StackItem) → Den (Want goals.Unsigned ∷ ss) vs i ws → Den (Want goals.Unary ∷ ss) vs i ws
plain_unary vs ss i ws (p, f, t, r, (z, x), d) = (p, f, t, r, (z, from_unsigned f i r t x), d)

pub means_unary : (k : Terminal) (q : Tag) (vs : List StackItem) → Holds goals.Unary k q vs
means_unary terminals.Sign q vs ss i ws (a, m, e, ka, (p, f, t, r, (z, x), d)) =
    (a.place, forms.Other, trees.Unary a.place (the_unary a.kind) t, r, (begins e, (from e (grammar.sign a ka.0 x.0), tt)), d)
means_unary terminals.Step q vs ss i ws (a, m, e, ka, (p, f, t, r, (z, x), d)) =
    (a.place, forms.Other, trees.Step a.place (the_step_before a.kind) t, r, (begins e, (from e (grammar.stepped_before a ka.0 x.0), tt)), d)
means_unary k q vs ss i ws d = plain_unary vs ss i ws d

plain_unsigned : (vs : List StackItem) (ss : List Symbol) (i : List Lexeme) (ws : List StackItem) → Den (Want goals.Primary ∷ Want goals.Postfixes ∷ ss) vs i ws
    → Den (Want goals.Unsigned ∷ ss) vs i ws
plain_unsigned vs ss i ws (p, f, t, m, (z, x), (p1, g, u, r, (w, h), d)) = (p1, g, u, r, (w ∙ z, from_postfix g i r u (h i z (from_primary f i m t x))), d)

pub means_unsigned : (k : Terminal) (q : Tag) (vs : List StackItem) → Holds goals.Unsigned k q vs
means_unsigned terminals.Complement q vs ss i ws (a, m, e, ka, (p, f, t, r, (z, x), d)) =
    (a.place, forms.Other, trees.Unary a.place (the_unary a.kind) t, r, (begins e, (from e (grammar.complement a ka x.0), tt)), d)
means_unsigned terminals.LeftParenthesis q vs ss i ws (a, m, e, ka, (p, f, t, r, (z, h), d)) = (p, f, t, r, (z ∙ begins e, h i m (a, e, ka, refl) refl), d)
means_unsigned k q vs ss i ws d = plain_unsigned vs ss i ws d

stepped_of : (p : Place) (j i m : List Lexeme) (t : Tree) (a : Lexeme) → p ≡ at j → Der grammar.Postfix j t i → i ≡ a ∷ m → Kinds terminals.Step a.kind
    → Der grammar.Postfix j (trees.Step p (the_step_behind a.kind) t) m
stepped_of p j i m t a v d e ka = rw v (grammar.stepped_behind a (onto e d) ka.1)

pub means_postfixes : (k : Terminal) (q : Tag) (vs : List StackItem) → Holds goals.Postfixes k q vs
means_postfixes terminals.Step q (part p f t ∷ vs) ss i ws (a, m, e, ka, (p1, g, u, r, (z, h), d)) = (p1, g, u, r, (z, λ j v s. h j v (stepped_of p j i m t a v s.0 e ka, tt)), d)
means_postfixes k q (part p f t ∷ vs) ss i ws d = (p, f, t, i, (refl, λ j v s. s), d)
means_postfixes k q _ ss i ws d = tt

-- expressions with several operands
binary_of : (p : Place) (l y z : ℕ) (j i m r : List Lexeme) (t u : Tree) (a : Lexeme) → p ≡ at j → Der (grammar.Operation y) j t i → i ≡ a ∷ m → IsBinary l a.kind → l ≤ y
    → Der (grammar.Operation z) m u r → l < z
    → Der (grammar.Operation l) j (trees.Binary p (the_binary a.kind) t u) r
binary_of p l y z j i m r t u a v d e ka b x c = rw v (grammar.binary a (onto e d) ka.0 ka.1 b x c)

-- a binary operator of a level, by the limits
means_binary : (k : Terminal) (l n x : ℕ) → l ≤ 10 → ((y : Kind) → Kinds k y → IsBinary l y) → (b c : Bool) → nat_lt l n ≡ b → nat_lt x l ≡ c
    → (p : Place) (f : Form) (t : Tree) (vs : List StackItem) (ss : List Symbol) (i : List Lexeme) (ws : List StackItem)
    → DenOf (if b then Some [] else if c then None else Some (Keep k ∷ Want goals.Unary ∷ Want (goals.Operators (l + 1) 10) ∷ Build makes.Binary ∷ Want (goals.Operators n l) ∷ [])) ss (part p f t ∷ vs) i ws
    → Den (Want (goals.Operators n x) ∷ ss) (part p f t ∷ vs) i ws
means_binary k l n x top is true c eb ec p f t vs ss i ws d = (p, f, t, i, (refl, λ j y v ax an s. (y, an, s)), d)
means_binary k l n x top is false true eb ec p f t vs ss i ws d = absurd d
means_binary k l n x top is false false eb ec p f t vs ss i ws (a, m, e, ka, (p1, f1, t1, m1, (z1, x1), (p2, f2, t2, m2, (z2, h2), (p3, g, u, r, (w, h), d)))) =
    (p3, g, u, r, (w, λ j y v ax an s. h j l v (le_refl l) low (joined_at j y v ax s)), d)
  where
    low : n ≤ l
    low = ltb-false l n eb

    right : Tight (l + 1) m t2 m2
    right = h2 m 11 z1 (lit≤ tt) (omega (arith, top)) (grammar.operand x1.0)

    joined_at : (j : List Lexeme) (y : ℕ) → p ≡ at j → x ≤ y → Der (grammar.Operation y) j t i → Der (grammar.Operation l) j (trees.Binary p (the_binary a.kind) t t2) m2
    joined_at j y v ax s =
        let high : l ≤ x = ltb-false x l ec in binary_of p l y right.0 j i m m2 t t2 a v s e (is a.kind ka) (omega (arith, high, ax)) right.2 (let o : l + 1 ≤ right.0 = right.1 in omega (arith, o))

means_test : (n x : ℕ) (b c : Bool) → nat_lt 7 n ≡ b → nat_lt x 7 ≡ c → (p : Place) (f : Form) (t : Tree) (vs : List StackItem) (ss : List Symbol) (i : List Lexeme) (ws : List StackItem)
    → DenOf (if b then Some [] else if c then None else Some (Take terminals.Instanceof ∷ Want goals.Tested ∷ Want (goals.Operators n 7) ∷ [])) ss (part p f t ∷ vs) i ws
    → Den (Want (goals.Operators n x) ∷ ss) (part p f t ∷ vs) i ws
means_test n x true c eb ec p f t vs ss i ws d = (p, f, t, i, (refl, λ j y v ax an s. (y, an, s)), d)
means_test n x false true eb ec p f t vs ss i ws d = absurd d
means_test n x false false eb ec p f t vs ss i ws (a, m, e, ka, (t1, m1, x1, (p3, g, u, r, (w, h), d))) =
    (p3, g, u, r, (w, λ j y v ax an s. h j 7 v (le_refl 7) (ltb-false 7 n eb) (x1 j (y, a, onto e s, (let high : 7 ≤ x = ltb-false x 7 ec in omega (arith, high, ax)), v, ka))), d)

less_is : (y : Kind) → y ≡ kinds.Less → IsBinary 7 y
less_is y e = subst (λ x. IsBinary 7 x) (sym e) (refl, refl)

greater_is : (y : Kind) → y ≡ kinds.Greater → IsBinary 7 y
greater_is y e = subst (λ x. IsBinary 7 x) (sym e) (refl, refl)

star_is : (y : Kind) → y ≡ kinds.Star → IsBinary 10 y
star_is y e = subst (λ x. IsBinary 10 x) (sym e) (refl, refl)

pub means_operators : (n x : ℕ) (k : Terminal) (q : Tag) (vs : List StackItem) → Holds (goals.Operators n x) k q vs
means_operators n x terminals.Or q (part p f t ∷ vs) ss i ws d = means_binary terminals.Or 1 n x (lit≤ tt) (λ y z. z) (nat_lt 1 n) (nat_lt x 1) refl refl p f t vs ss i ws d
means_operators n x terminals.And q (part p f t ∷ vs) ss i ws d = means_binary terminals.And 2 n x (lit≤ tt) (λ y z. z) (nat_lt 2 n) (nat_lt x 2) refl refl p f t vs ss i ws d
means_operators n x terminals.BitOr q (part p f t ∷ vs) ss i ws d = means_binary terminals.BitOr 3 n x (lit≤ tt) (λ y z. z) (nat_lt 3 n) (nat_lt x 3) refl refl p f t vs ss i ws d
means_operators n x terminals.BitXor q (part p f t ∷ vs) ss i ws d = means_binary terminals.BitXor 4 n x (lit≤ tt) (λ y z. z) (nat_lt 4 n) (nat_lt x 4) refl refl p f t vs ss i ws d
means_operators n x terminals.BitAnd q (part p f t ∷ vs) ss i ws d = means_binary terminals.BitAnd 5 n x (lit≤ tt) (λ y z. z) (nat_lt 5 n) (nat_lt x 5) refl refl p f t vs ss i ws d
means_operators n x terminals.Equality q (part p f t ∷ vs) ss i ws d =
    means_binary terminals.Equality 6 n x (lit≤ tt) (λ y z. z) (nat_lt 6 n) (nat_lt x 6) refl refl p f t vs ss i ws d
means_operators n x terminals.Less q (part p f t ∷ vs) ss i ws d = means_binary terminals.Less 7 n x (lit≤ tt) less_is (nat_lt 7 n) (nat_lt x 7) refl refl p f t vs ss i ws d
means_operators n x terminals.Greater q (part p f t ∷ vs) ss i ws d =
    means_binary terminals.Greater 7 n x (lit≤ tt) greater_is (nat_lt 7 n) (nat_lt x 7) refl refl p f t vs ss i ws d
means_operators n x terminals.Relation q (part p f t ∷ vs) ss i ws d =
    means_binary terminals.Relation 7 n x (lit≤ tt) (λ y z. z) (nat_lt 7 n) (nat_lt x 7) refl refl p f t vs ss i ws d
means_operators n x terminals.Instanceof q (part p f t ∷ vs) ss i ws d = means_test n x (nat_lt 7 n) (nat_lt x 7) refl refl p f t vs ss i ws d
means_operators n x terminals.Shift q (part p f t ∷ vs) ss i ws d = means_binary terminals.Shift 8 n x (lit≤ tt) (λ y z. z) (nat_lt 8 n) (nat_lt x 8) refl refl p f t vs ss i ws d
means_operators n x terminals.Sign q (part p f t ∷ vs) ss i ws d =
    means_binary terminals.Sign 9 n x (lit≤ tt) (λ y z. (z.1, z.2)) (nat_lt 9 n) (nat_lt x 9) refl refl p f t vs ss i ws d
means_operators n x terminals.Star q (part p f t ∷ vs) ss i ws d = means_binary terminals.Star 10 n x (lit≤ tt) star_is (nat_lt 10 n) (nat_lt x 10) refl refl p f t vs ss i ws d
means_operators n x terminals.Division q (part p f t ∷ vs) ss i ws d =
    means_binary terminals.Division 10 n x (lit≤ tt) (λ y z. z) (nat_lt 10 n) (nat_lt x 10) refl refl p f t vs ss i ws d
means_operators n x terminals.RightParenthesis q (part p f t ∷ vs) ss i ws d = (p, f, t, i, (refl, λ j y v ax an s. (y, an, s)), d)
means_operators n x terminals.RightBracket q (part p f t ∷ vs) ss i ws d = (p, f, t, i, (refl, λ j y v ax an s. (y, an, s)), d)
means_operators n x terminals.Semicolon q (part p f t ∷ vs) ss i ws d = (p, f, t, i, (refl, λ j y v ax an s. (y, an, s)), d)
means_operators n x terminals.Comma q (part p f t ∷ vs) ss i ws d = (p, f, t, i, (refl, λ j y v ax an s. (y, an, s)), d)
means_operators n x terminals.Question q (part p f t ∷ vs) ss i ws d = (p, f, t, i, (refl, λ j y v ax an s. (y, an, s)), d)
means_operators n x terminals.Colon q (part p f t ∷ vs) ss i ws d = (p, f, t, i, (refl, λ j y v ax an s. (y, an, s)), d)
means_operators n x k q (part p f t ∷ vs) ss i ws d = absurd d
means_operators n x k q _ ss i ws d = tt

choice_of : (p : Place) (x : ℕ) (j i m l s r : List Lexeme) (c t u : Tree) (a b : Lexeme) → p ≡ at j → Der (grammar.Operation x) j c i → i ≡ a ∷ m → a.kind ≡ kinds.Question
    → Der grammar.Expression m t l → l ≡ b ∷ s → b.kind ≡ kinds.Colon → Der grammar.Conditional s u r
    → Der grammar.Conditional j (trees.Conditional p c t u) r
choice_of p x j i m l s r c t u a b v d e ka dt f kb du = rw v (grammar.choice a b (onto e d) ka (onto f dt) kb du)

pub means_after_operation : (k : Terminal) (q : Tag) (vs : List StackItem) → Holds goals.AfterOperation k q vs
means_after_operation terminals.Question q (part p f t ∷ vs) ss i ws (a, m, e, ka, (p1, f1, t1, l, (z1, x1), (b, s, e2, kb, (p2, f2, t2, r, (z2, x2), d)))) =
    (p, forms.Other, trees.Conditional p t t1 t2, r, (refl, λ j x v o. choice_of p x j i m l s r t t1 t2 a b v o e ka x1 e2 kb x2), d)
means_after_operation k q (part p f t ∷ vs) ss i ws d = (p, f, t, i, (refl, λ j x v o. grammar.operation o), d)
means_after_operation k q _ ss i ws d = tt

pub means_conditional : (k : Terminal) (q : Tag) (vs : List StackItem) → Holds goals.Conditional k q vs
means_conditional k q vs ss i ws (p, f, t, m, (z, x), (p1, g, u, l, (y, h), (p2, g2, v, r, (w, h2), d))) =
    (p2, g2, v, r, (w ∙ (y ∙ z), (let o = h i 11 z (lit≤ tt) (lit≤ tt) (grammar.operand x.0) in h2 i o.0 (y ∙ z) o.2)), d)

assign_of : (p : Place) (j i m r : List Lexeme) (t u : Tree) (a : Lexeme) → p ≡ at j → Der (grammar.Primary forms.Target) j t i → i ≡ a ∷ m → a.kind ≡ kinds.Equal
    → Der grammar.Expression m u r → Der grammar.Assignment j (assigned a.kind p t u) r
assign_of p j i m r t u a v d e ka x = subst (λ y. Der grammar.Assignment j (assigned y p t u) r) (sym ka) (rw v (grammar.assign a (onto e d) ka x))

compound_of : (p : Place) (j i m r : List Lexeme) (t u : Tree) (a : Lexeme) → p ≡ at j → Der (grammar.Primary forms.Target) j t i → i ≡ a ∷ m → IsCompound a.kind
    → Der grammar.Expression m u r → Der grammar.Assignment j (assigned a.kind p t u) r
compound_of p j i m r t u a v d e ka x = subst (λ y. Der grammar.Assignment j y r) (sym (ka.1 p t u)) (rw v (grammar.compound a (onto e d) ka.0 x))

pub assigns : (f : Form) (p : Place) (j i m r : List Lexeme) (t u : Tree) (a : Lexeme) → p ≡ at j → f ≡ forms.Target → IsTarget f j t i → i ≡ a ∷ m → a.kind ≡ kinds.Equal
    → Der grammar.Expression m u r → Der grammar.Assignment j (assigned a.kind p t u) r
assigns f p j i m r t u a v z s e ka x = assign_of p j i m r t u a v (subst (λ y. IsTarget y j t i) z s) e ka x

pub compounds : (f : Form) (p : Place) (j i m r : List Lexeme) (t u : Tree) (a : Lexeme) → p ≡ at j → f ≡ forms.Target → IsTarget f j t i → i ≡ a ∷ m → IsCompound a.kind
    → Der grammar.Expression m u r → Der grammar.Assignment j (assigned a.kind p t u) r
compounds f p j i m r t u a v z s e ka x = compound_of p j i m r t u a v (subst (λ y. IsTarget y j t i) z s) e ka x

plain_after_unary : (p : Place) (f : Form) (t : Tree) (vs : List StackItem) (ss : List Symbol) (i : List Lexeme) (ws : List StackItem)
    → Den (Want (goals.Operators 1 10) ∷ Want goals.AfterOperation ∷ ss) (part p f t ∷ vs) i ws → Den (Want goals.AfterUnary ∷ ss) (part p f t ∷ vs) i ws
plain_after_unary p f t vs ss i ws (p1, g, u, m, (z, h), (p2, g2, v, r, (w, h2), d)) = (p2, g2, v, r, (w ∙ z, λ j o s. goes j o s), d)
  where
    goes : (j : List Lexeme) → p ≡ at j → Operand grammar.Unary f j t i → Der grammar.Expression j v r
    goes j o s = let x = h j 11 o (lit≤ tt) (lit≤ tt) (grammar.operand s.0) in grammar.conditional (h2 j x.0 (z ∙ o) x.2)

pub means_after_unary : (k : Terminal) (q : Tag) (vs : List StackItem) → tag vs ≡ q → Holds goals.AfterUnary k q vs
means_after_unary terminals.Equal tags.Target (part p f t ∷ vs) e ss i ws (a, m, y, ka, (p1, g, u, r, (z, x), d)) =
    (p, forms.Other, assigned a.kind p t u, r, (refl, λ j v s. grammar.assignment (assigns f p j i m r t u a v (target_of p f t vs e) s.1 y ka x)), d)
means_after_unary terminals.Compound tags.Target (part p f t ∷ vs) e ss i ws (a, m, y, ka, (p1, g, u, r, (z, x), d)) =
    (p, forms.Other, assigned a.kind p t u, r, (refl, λ j v s. grammar.assignment (compounds f p j i m r t u a v (target_of p f t vs e) s.1 y ka x)), d)
means_after_unary k q (part p f t ∷ vs) e ss i ws d = plain_after_unary p f t vs ss i ws d
means_after_unary k q _ e ss i ws d = tt

pub means_expression : (k : Terminal) (q : Tag) (vs : List StackItem) → Holds goals.Expression k q vs
means_expression k q vs ss i ws (p, f, t, m, (z, x), (p1, g, u, r, (w, h), d)) = (p1, g, u, r, (w ∙ z, h i z x), d)
