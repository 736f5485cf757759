-- Steps that the goals share.
use Rattle.std.proofs.Common.{◌≡◌, ℕ, Bool, true, false, cond, List, ◌∷◌, refl, sym, ap, ◌∙◌}
use Rattle.std.proofs.Math.Path.{subst}
use Rattle.kr_base.specs.declared.place.Place.{Place}
use Rattle.kr_lex.specs.Lexemes.{Lexeme}
use Rattle.kr_lex.specs.declared.kind.Kind.{Kind}
use Rattle.kr_lex.specs.declared.kind.Kind.TheVariants as kinds
use Rattle.kr_ast.specs.Tree.{Tree}
use Rattle.kr_parse_grammar.specs.declared.value.Form.{Form}
use Rattle.kr_parse_grammar.specs.declared.value.Form.TheVariants as forms
use Rattle.kr_parse_grammar.specs.declared.value.Tag.TheVariants as tags
use Rattle.kr_parse_grammar.specs.Values.{StackItem, word, pair, part, tag, is_name}
use Rattle.kr_parse_grammar.specs.Grammar as grammar
use Rattle.kr_parse_grammar.specs.Grammar.{Class, Der, at, ClassName, simple_name, qualified_name, variable, field_access, call, method_call, unsigned, postfix, primary}
use Rattle.kr_parse_laws.proofs.SoundMeanings.{Token, Named, NamedBefore, place_of, class_of, operand_of, call_of, IsTarget, Operand, Enclosed, Encloses}

-- equal tokens
pub from : {c : Class} {i j r : List Lexeme} {t : Tree} → i ≡ j → Der c j t r → Der c i t r
from {c = c} {r = r} {t = t} e d = subst (λ x. Der c x t r) (sym e) d

pub onto : {c : Class} {i j r : List Lexeme} {t : Tree} → j ≡ r → Der c i t j → Der c i t r
onto {c = c} {i = i} {t = t} e d = subst (λ x. Der c i t x) e d

pub begins : {i m : List Lexeme} {a : Lexeme} → i ≡ a ∷ m → a.place ≡ at i
begins e = sym (ap at e)

pub both : {i m r : List Lexeme} {a b : Lexeme} → i ≡ a ∷ m → m ≡ b ∷ r → i ≡ a ∷ b ∷ r
both {a = a} e f = e ∙ ap (λ x. a ∷ x) f

pub three : {i m n r : List Lexeme} {a b c : Lexeme} → i ≡ a ∷ m → m ≡ b ∷ n → n ≡ c ∷ r → i ≡ a ∷ b ∷ c ∷ r
three {a = a} e f g = e ∙ ap (λ x. a ∷ x) (both f g)

pub four : {i m n l r : List Lexeme} {a b c d : Lexeme} → i ≡ a ∷ m → m ≡ b ∷ n → n ≡ c ∷ l → l ≡ d ∷ r → i ≡ a ∷ b ∷ c ∷ d ∷ r
four {a = a} e f g h = e ∙ ap (λ x. a ∷ x) (three f g h)

-- the token in front stays
pub behind : {c : Class} {i j r : List Lexeme} {t : Tree} {a : Lexeme} → j ≡ r → Der c i t (a ∷ j) → Der c i t (a ∷ r)
behind {a = a} e d = onto (ap (λ x. a ∷ x) e) d

pub token_at : (x : Kind) (p : Place) (j r : List Lexeme) → Token x p j r → p ≡ at j
token_at x p j r (a, e, k, z) = z ∙ begins e

pub named_at : (v : StackItem) (j r : List Lexeme) → Named v j r → place_of v ≡ at j
named_at (word p n) j r (a, e, k, z, y) = z ∙ begins e
named_at (pair p o n) j r (a, d, b, e, k, l, m, z, y, x) = z ∙ ap at (sym e)
named_at _ j r h = absurd h

named_onto : (v : StackItem) (j m r : List Lexeme) → m ≡ r → Named v j m → Named v j r
named_onto v j m r e h = subst (λ x. Named v j x) e h

-- a name followed by a token
pub named_before : (x : Kind) (v : StackItem) (j i m : List Lexeme) (b : Lexeme) → i ≡ b ∷ m → b.kind ≡ x → Named v j i → NamedBefore x v j m
named_before x v j i m b e kb s = (b, named_onto v j i (b ∷ m) e s, kb)

-- a name as a type
pub named_class : (v : StackItem) (j r : List Lexeme) → Named v j r → Der ClassName j (class_of v) r
named_class (word p n) j r (a, e, k, z, y) = rw (z, y) (from e (simple_name a k))
named_class (pair p o n) j r (a, d, b, e, k, l, m, z, y, x) = rw (z, y, x) (from e (qualified_name a d b k l m))
named_class _ j r h = absurd h

-- a name as an operand
pub named_operand : (v : StackItem) (j r : List Lexeme) → Named v j r → Der (grammar.Primary forms.Target) j (operand_of v) r
named_operand (word p n) j r (a, e, k, z, y) = rw (z, y) (from e (variable a k))
named_operand (pair p o n) j r (a, d, b, e, k, l, m, z, y, x) = rw (z, y, x) (from e (field_access d b (variable a k) l m))
named_operand _ j r h = absurd h

-- before arguments
pub named_call : (v : StackItem) (j m r : List Lexeme) (u : Tree) → Named v j m → Enclosed m u r → Der (grammar.Primary forms.Invocation) j (call_of v u) r
named_call (word p n) j m r u (a, e, k, z, y) (b, c, l, f, kb, d, kc) = rw (z, y) (from (both e f) (call a b c k kb d kc))
named_call (pair p o n) j m r u (a, d, b, e, k, kd, kb, z, y, x) (g, c, l, f, kg, w, kc) =
    rw (z, y, x) (from (e ∙ ap (λ s. a ∷ d ∷ b ∷ s) f) (method_call d b g c (variable a k) kd kb kg w kc))
named_call _ j m r u h w = absurd h

-- two names with a dot between them
pub paired : (p : Place) (n : List ℕ) (d b : Lexeme) (j i m r : List Lexeme) → i ≡ d ∷ m → d.kind ≡ kinds.Dot → m ≡ b ∷ r → b.kind ≡ kinds.Identifier → Named (word p n) j i
    → Named (pair p n b.text) j r
paired p n d b j i m r e kd f kb (a, g, k, z, y) = (a, d, b, g ∙ ap (λ s. a ∷ s) (both e f), k, kd, kb, z, y, refl)

-- a part whose tag is that of a form has this form
pub target_of : (p : Place) (f : Form) (t : Tree) (vs : List StackItem) → tag (part p f t ∷ vs) ≡ tags.Target → f ≡ forms.Target
target_of p forms.Target t vs e = refl
target_of p forms.Type t vs e = go (is_name vs) e
  where
    go : (b : Bool) → cond b tags.InnerType tags.Type ≡ tags.Target → forms.Type ≡ forms.Target
    go true e = cc
    go false e = cc
target_of p _ t vs e = cc

pub invocation_of : (p : Place) (f : Form) (t : Tree) (vs : List StackItem) → tag (part p f t ∷ vs) ≡ tags.Invocation → f ≡ forms.Invocation
invocation_of p forms.Invocation t vs e = refl
invocation_of p forms.Type t vs e = go (is_name vs) e
  where
    go : (b : Bool) → cond b tags.InnerType tags.Type ≡ tags.Invocation → forms.Type ≡ forms.Invocation
    go true e = cc
    go false e = cc
invocation_of p _ t vs e = cc

pub creation_tag : (p : Place) (f : Form) (t : Tree) (vs : List StackItem) → f ≡ forms.ArrayCreation → tag (part p f t ∷ vs) ≡ tags.ArrayCreation
creation_tag p f t vs e = subst (λ x. tag (part p x t ∷ vs) ≡ tags.ArrayCreation) (sym e) refl

pub local_tag : (p : Place) (f : Form) (t : Tree) (vs : List StackItem) → f ≡ forms.Local → tag (part p f t ∷ vs) ≡ tags.Local
local_tag p f t vs e = subst (λ x. tag (part p x t ∷ vs) ≡ tags.Local) (sym e) refl

pub as_target : (f : Form) (j r : List Lexeme) (t : Tree) → Der (grammar.Primary f) j t r → IsTarget f j t r
as_target forms.Target j r t d = d
as_target _ j r t d = tt

-- operands from their parts
pub from_primary : (f : Form) (j r : List Lexeme) (t : Tree) → Der (grammar.Primary f) j t r → Operand grammar.Postfix f j t r
from_primary f j r t d = (primary d, as_target f j r t d)

pub from_postfix : (f : Form) (j r : List Lexeme) (t : Tree) → Operand grammar.Postfix f j t r → Operand grammar.Unsigned f j t r
from_postfix f j r t d = (postfix d.0, d.1)

pub from_unsigned : (f : Form) (j r : List Lexeme) (t : Tree) → Operand grammar.Unsigned f j t r → Operand grammar.Unary f j t r
from_unsigned f j r t d = (unsigned d.0, d.1)

pub encloses_map : (p : Place) (R S : List Lexeme → Type 0) (vs : List StackItem) (K : List StackItem → List Lexeme → Type 0) → ((j : List Lexeme) → S j → R j) → Encloses p R vs K
    → Encloses p S vs K
encloses_map p R S vs K m (q, f, t, r, (z, h), k) = (q, f, t, r, (z, λ a b o s. h a b o (m b s)), k)
