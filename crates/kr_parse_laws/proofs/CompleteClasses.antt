-- Classes and files.
use Rattle.std.proofs.Common.{◌≡◌, ℕ, Bool, true, false, List, ◌∷◌, refl, ap}
use Rattle.kr_base.specs.declared.place.Place.{Place}
use Rattle.kr_base.specs.Places.{nowhere}
use Rattle.kr_lex.specs.Lexemes.{Lexeme}
use Rattle.kr_ast.specs.Tree as trees
use Rattle.kr_ast.specs.Tree.{Tree}
use Rattle.kr_parse_grammar.specs.declared.terminal.Terminal.{Terminal}
use Rattle.kr_parse_grammar.specs.declared.terminal.Terminal.TheVariants as terminals
use Rattle.kr_parse_grammar.specs.declared.value.Form.{Form}
use Rattle.kr_parse_grammar.specs.declared.value.Form.TheVariants as forms
use Rattle.kr_parse_grammar.specs.declared.goal.Goal.TheVariants as goals
use Rattle.kr_parse_grammar.specs.declared.goal.Make.TheVariants as makes
use Rattle.kr_parse_grammar.specs.declared.goal.Symbol.{Symbol}
use Rattle.kr_parse_grammar.specs.declared.goal.Symbol.TheVariants.{Take, Want, Build}
use Rattle.kr_parse_grammar.specs.Terminals.{terminal_of}
use Rattle.kr_parse_grammar.specs.Values.{StackItem, word, part, member, owner, no_modifiers}
use Rattle.kr_parse_grammar.specs.Made.{made}
use Rattle.kr_parse_grammar.specs.declared.value.Modifiers.{Modifiers}
use Rattle.kr_parse_grammar.specs.declared.goal.Spelled.TheVariants as spelled
use Rattle.kr_parse_grammar.specs.Grammar as grammar
use Rattle.kr_parse_grammar.specs.Grammar.{at, Modified}
use Rattle.kr_parse_grammar.specs.Machine.{ahead, Runs, take, name, spell, build}
use Rattle.kr_parse_laws.proofs.CompleteSteps.{open_at, step}
use Rattle.kr_parse_laws.proofs.CompleteClaims.{NameClaim, ExtendedClaim, owner_make, ClassClaim, MemberClaim, MembersClaim, ClassesClaim}
use Rattle.kr_parse_laws.proofs.CompleteMembers.{access_means}

owner_of : (n : Bool) (q p : Place) (f : Form) (t : Tree) (b : List ℕ) (vs : List StackItem) → made (owner_make n) (part q f t ∷ word p b ∷ vs) ≡ owner n p b ∷ part q f t ∷ vs
owner_of true q p f t b vs = refl
owner_of false q p f t b vs = refl

-- Members.
pub no_member_claim : (o : List ℕ) (n : Bool) (i : List Lexeme) → MembersClaim o n i trees.Nil i
no_member_claim o n i = λ ss p vs ws e k. step goals.Members terminals.RightBrace ss (member n no_modifiers ∷ owner n p o ∷ vs) ws i e (build (k nowhere forms.Other))

pub skip_member_claim : (o : List ℕ) (n : Bool) (i r : List Lexeme) (t : Tree) (a : Lexeme) → terminal_of a.kind ≡ terminals.Semicolon → MembersClaim o n i t r → MembersClaim o n (a ∷ i) t r
skip_member_claim o n i r t a ka d = λ ss p vs ws e k. step goals.Members terminals.Semicolon ss (member n no_modifiers ∷ owner n p o ∷ vs) ws (a ∷ i) ka (take a ka (d ss p vs ws e k))

pub members_claim : (o : List ℕ) (n : Bool) (i m r : List Lexeme) (t u : Tree) → MemberClaim o n i t m → MembersClaim o n m u r → MembersClaim o n i (trees.Cons t u) r
members_claim o n i m r t u d rest = λ ss p vs ws e k. d ss p vs ws
    (λ q f. build (build (rest (Build makes.ConsBelow ∷ ss) p (part q f t ∷ vs) ws e (λ x g. build (k q forms.Other)))))

-- Classes.
pub not_extended_claim : (i : List Lexeme) → ExtendedClaim i trees.Nil i
not_extended_claim i = λ ss vs ws e k. step goals.Extended terminals.LeftBrace ss vs ws i e (build (k nowhere forms.Other))

pub extended_claim : (i r : List Lexeme) (t : Tree) (a : Lexeme) → terminal_of a.kind ≡ terminals.Extends → NameClaim i t r → ExtendedClaim (a ∷ i) t r
extended_claim i r t a ka n = λ ss vs ws e k. step goals.Extended terminals.Extends ss vs ws (a ∷ i) ka (take a ka (n.extends ss vs ws (rw e refl) (k (at i) forms.Type)))

pub class_claim : (n : Bool) (i m r : List Lexeme) (t u : Tree) (a b c d : Lexeme) → terminal_of a.kind ≡ terminals.Class → terminal_of b.kind ≡ terminals.Identifier → ExtendedClaim i t (c ∷ m) → terminal_of c.kind ≡ terminals.LeftBrace
    → MembersClaim b.text n m u (d ∷ r) → terminal_of d.kind ≡ terminals.RightBrace → ClassClaim n (a ∷ b ∷ i) (trees.Class b.place b.text t u) r
class_claim n i m r t u a b c d ka kb ext kc members kd = record {
  place = b.place;
  starts = ka;
  body = λ ss vs ws k. take a ka
      (name b kb
      (ext (Build (owner_make n) ∷ Build makes.MemberAhead ∷ Take terminals.LeftBrace ∷ Want goals.Members ∷ Take terminals.RightBrace ∷ Build makes.Class ∷ ss) (word b.place b.text ∷ vs) ws kc
      (λ q f. build (rw (owner_of n q b.place f t b.text vs)
      (build
      (take c kc
      (members (Take terminals.RightBrace ∷ Build makes.Class ∷ ss) b.place (part q f t ∷ vs) ws kd
      (λ x g. take d kd (build k)))))))));
}

-- modifiers before a class
class_ahead : {i j : List Lexeme} {f : Modifiers} → Modified i f j → f.overrides ≡ false → (ss : List Symbol) (vs ws : List StackItem) → Runs (Want goals.ClassAhead ∷ ss) vs j ws → Runs (Want goals.ClassAhead ∷ ss) vs i ws
class_ahead grammar.nothing h = λ ss vs ws k. k
class_ahead (grammar.access {r = r} a d e) h = λ ss vs ws k. class_ahead d h ss vs ws (step goals.ClassAhead terminals.Access ss vs ws (a ∷ r) (access_means a.kind e) (take a (access_means a.kind e) k))
class_ahead (grammar.static {r = r} a d e) h = λ ss vs ws k. class_ahead d h ss vs ws (step goals.ClassAhead terminals.Static ss vs ws (a ∷ r) (ap terminal_of e) (take a (ap terminal_of e) k))
class_ahead (grammar.final {r = r} a d e) h = λ ss vs ws k. class_ahead d h ss vs ws (step goals.ClassAhead terminals.Final ss vs ws (a ∷ r) (ap terminal_of e) (take a (ap terminal_of e) k))
class_ahead (grammar.overriding a b d e g x) h = absurd (let y : true ≡ false = h in cc)

classes_enter : (ss : List Symbol) (vs ws : List StackItem) (i : List Lexeme) → Runs (Want goals.ClassAhead ∷ Want goals.Classes ∷ Build makes.Cons ∷ ss) vs i ws → Runs (Want goals.Classes ∷ ss) vs i ws
classes_enter ss vs ws i d = go (ahead i) refl
  where
    go : (k : Terminal) → ahead i ≡ k → Runs (Want goals.Classes ∷ ss) vs i ws
    go terminals.End e = absurd (open_at goals.ClassAhead terminals.End e d)
    go terminals.Semicolon e = absurd (open_at goals.ClassAhead terminals.Semicolon e d)
    go k e = step goals.Classes k ss vs ws i e d

pub no_class_claim : (i : List Lexeme) → ClassesClaim i trees.Nil i
no_class_claim i = λ e. (nowhere, forms.Other, λ ss vs ws k. step goals.Classes terminals.End ss vs ws i e (build k))

pub skip_class_claim : (i r : List Lexeme) (t : Tree) (a : Lexeme) → terminal_of a.kind ≡ terminals.Semicolon → ClassesClaim i t r → ClassesClaim (a ∷ i) t r
skip_class_claim i r t a ka d = λ e. ((d e).0, (d e).1, λ ss vs ws k. step goals.Classes terminals.Semicolon ss vs ws (a ∷ i) ka (take a ka ((d e).2 ss vs ws k)))

pub classes_claim : (i j m r : List Lexeme) (f : Modifiers) (t u : Tree) → Modified i f j → f.overrides ≡ false → ClassClaim false j t m → ClassesClaim m u r → ClassesClaim i (trees.Cons t u) r
classes_claim i j m r f t u d h c rest = λ e. (
  c.place,
  forms.Other,
  λ ss vs ws k. classes_enter ss vs ws i
      (class_ahead d h (Want goals.Classes ∷ Build makes.Cons ∷ ss) vs ws
      (step goals.ClassAhead terminals.Class (Want goals.Classes ∷ Build makes.Cons ∷ ss) vs ws j c.starts
      (c.body (Want goals.Classes ∷ Build makes.Cons ∷ ss) vs ws ((rest e).2 (Build makes.Cons ∷ ss) (part c.place forms.Other t ∷ vs) ws (build k))))),
)

-- The text before the classes.
imports_enter : (ss : List Symbol) (vs ws : List StackItem) (i : List Lexeme) → Runs (Want goals.Classes ∷ ss) vs i ws → Runs (Want goals.Imports ∷ ss) vs i ws
imports_enter ss vs ws i d = go (ahead i) refl
  where
    go : (k : Terminal) → ahead i ≡ k → Runs (Want goals.Imports ∷ ss) vs i ws
    go terminals.Import e = absurd (open_at goals.ClassAhead terminals.Import e (open_at goals.Classes terminals.Import e d))
    go k e = step goals.Imports k ss vs ws i e d

imported : (f : Lexeme) → grammar.Imported f.kind → (ss : List Symbol) (vs ws : List StackItem) (i : List Lexeme) → Runs ss vs i ws → Runs (Want goals.Imported ∷ ss) vs (f ∷ i) ws
imported f (grammar.Imported.name e) ss vs ws i k = step goals.Imported terminals.Identifier ss vs ws (f ∷ i) (ap terminal_of e) (take f (ap terminal_of e) k)
imported f (grammar.Imported.all e) ss vs ws i k = step goals.Imported terminals.Star ss vs ws (f ∷ i) (ap terminal_of e) (take f (ap terminal_of e) k)

imports : {i r : List Lexeme} → grammar.Imports i r → (ss : List Symbol) (vs ws : List StackItem) → Runs (Want goals.Classes ∷ ss) vs r ws → Runs (Want goals.Imports ∷ ss) vs i ws
imports (grammar.no_import {i = i}) = λ ss vs ws k. imports_enter ss vs ws i k
imports (grammar.import {i = i} a b c d e f g ka kb tb kc kd td ke kf kg rest) = λ ss vs ws k.
    step goals.Imports terminals.Import ss vs ws (a ∷ b ∷ c ∷ d ∷ e ∷ f ∷ g ∷ i) (ap terminal_of ka)
    (take a (ap terminal_of ka)
    (spell {s = spelled.Java} b (ap terminal_of kb) tb
    (take c (ap terminal_of kc)
    (spell {s = spelled.Util} d (ap terminal_of kd) td
    (take e (ap terminal_of ke)
    (imported f kf (Take terminals.Semicolon ∷ Want goals.Imports ∷ ss) vs ws (g ∷ i)
    (take g (ap terminal_of kg) (imports rest ss vs ws k))))))))

dotted : {i r : List Lexeme} → grammar.Dotted i r → ahead r ≡ terminals.Semicolon → (ss : List Symbol) (vs ws : List StackItem) → Runs ss vs r ws → Runs (Want goals.Dotted ∷ ss) vs i ws
dotted (grammar.no_more {i = i}) e = λ ss vs ws k. step goals.Dotted terminals.Semicolon ss vs ws i e k
dotted (grammar.dot {i = i} a b ka kb rest) e = λ ss vs ws k. step goals.Dotted terminals.Dot ss vs ws (a ∷ b ∷ i) (ap terminal_of ka) (take a (ap terminal_of ka) (take b (ap terminal_of kb) (dotted rest e ss vs ws k)))

file_enter : (ss : List Symbol) (vs ws : List StackItem) (i : List Lexeme) → Runs (Want goals.Imports ∷ ss) vs i ws → Runs (Want goals.File ∷ ss) vs i ws
file_enter ss vs ws i d = go (ahead i) refl
  where
    go : (k : Terminal) → ahead i ≡ k → Runs (Want goals.File ∷ ss) vs i ws
    go terminals.Package e = absurd (open_at goals.ClassAhead terminals.Package e (open_at goals.Classes terminals.Package e (open_at goals.Imports terminals.Package e d)))
    go k e = step goals.File k ss vs ws i e d

pub heading : {i j : List Lexeme} → grammar.Heading i j → (ss : List Symbol) (vs ws : List StackItem) → Runs (Want goals.Classes ∷ ss) vs j ws → Runs (Want goals.File ∷ ss) vs i ws
heading (grammar.unpackaged {i = i} d) = λ ss vs ws k. file_enter ss vs ws i (imports d ss vs ws k)
heading (grammar.packaged {i = i} {m = m} a b c ka kb d kc rest) = λ ss vs ws k.
    step goals.File terminals.Package ss vs ws (a ∷ b ∷ i) (ap terminal_of ka)
    (take a (ap terminal_of ka)
    (take b (ap terminal_of kb)
    (dotted d (ap terminal_of kc) (Take terminals.Semicolon ∷ Want goals.Imports ∷ ss) vs ws (take c (ap terminal_of kc) (imports rest ss vs ws k)))))
