-- Members.
use Rattle.std.proofs.Common.{◌≡◌, ◌≢◌, ◌&&◌, ℕ, Bool, true, false, not, if◌then◌else◌, List, ◌∷◌, refl, sym, ap, ◌∙◌}
use Rattle.kr_base.specs.declared.place.Place.{Place}
use Rattle.kr_base.specs.Places.{nowhere}
use Rattle.kr_lex.specs.Lexemes.{Lexeme}
use Rattle.kr_lex.specs.declared.kind.Kind.{Kind}
use Rattle.kr_lex.specs.declared.kind.Kind.TheVariants as kinds
use Rattle.kr_ast.specs.Tree as trees
use Rattle.kr_ast.specs.Tree.{Tree}
use Rattle.kr_parse_grammar.specs.declared.terminal.Terminal.{Terminal}
use Rattle.kr_parse_grammar.specs.declared.terminal.Terminal.TheVariants as terminals
use Rattle.kr_parse_grammar.specs.declared.value.Tag.{Tag}
use Rattle.kr_parse_grammar.specs.declared.value.Tag.TheVariants as tags
use Rattle.kr_parse_grammar.specs.declared.value.Form.{Form}
use Rattle.kr_parse_grammar.specs.declared.value.Form.TheVariants as forms
use Rattle.kr_parse_grammar.specs.declared.goal.Goal.TheVariants as goals
use Rattle.kr_parse_grammar.specs.declared.goal.Make.TheVariants as makes
use Rattle.kr_parse_grammar.specs.declared.goal.Symbol.{Symbol}
use Rattle.kr_parse_grammar.specs.declared.goal.Symbol.TheVariants.{Take, Word, Want, Build}
use Rattle.kr_parse_grammar.specs.Terminals.{terminal_of}
use Rattle.kr_parse_grammar.specs.TokenMeanings.{is_access}
use Rattle.kr_parse_grammar.specs.Values.{StackItem, mark, word, part, member, owner, tag, no_modifiers}
use Rattle.kr_parse_grammar.specs.Made.{the_primitive}
use Rattle.kr_parse_grammar.specs.declared.value.Modifiers.{Modifiers}
use Rattle.kr_parse_grammar.specs.declared.goal.Spelled.TheVariants as spelled
use Rattle.kr_parse_grammar.specs.Grammar as grammar
use Rattle.kr_parse_grammar.specs.Grammar.{at, Modified}
use Rattle.kr_parse_grammar.specs.Machine.{ahead, Runs, take, keep, name, spell, build}
use Rattle.kr_parse_laws.proofs.CompleteSteps.{open_at, step, step_with, name_inv, take_kind, build_inv}
use Rattle.kr_parse_laws.proofs.CompleteClaims.{Any, Optional, absent, present, Listed, end, next, Parted, last, comma, ExpressionClaim, NameClaim, AnyTypeClaim, starts_type, DeclaratorClaim, BlockStatementClaim, ParameterClaim, ResultClaim, Begun, ContractClaim, ConstructorCallClaim, ClassClaim, PlainClaim, others, MemberClaim}
use Rattle.std.specs.Str.{bytes_eq}
use Rattle.std.proofs.lemmas.Slice.Eq.{bytes_eq-Decides}
use Rattle.kr_parse_laws.proofs.CompleteSteps.{keep_inv}
use Rattle.kr_parse_laws.proofs.CompletePrimary.{arguments}
use Rattle.kr_parse_laws.proofs.CompleteTypes.{name_kind}
use Rattle.kr_parse_laws.proofs.CompleteItems.{declarators}
use Rattle.kr_parse_laws.proofs.CompleteStatements.{statements}

-- Modifiers.
abbrev AccessFacts : Kind → Bool → Type 0
AccessFacts k false = Unit {0}
AccessFacts k true = terminal_of k ≡ terminals.Access

access_facts : (k : Kind) → AccessFacts k (is_access k)
access_facts kinds.Public = refl
access_facts kinds.Protected = refl
access_facts kinds.Private = refl
access_facts _ = tt

pub access_means : (k : Kind) → is_access k ≡ true → terminal_of k ≡ terminals.Access
access_means k e = let z : AccessFacts k true = rw e at (access_facts k) in z

modified : {i j : List Lexeme} {f : Modifiers} → Modified i f j → (ss : List Symbol) (n : Bool) (vs ws : List StackItem) → Runs (Want goals.Member ∷ ss) (member n f ∷ vs) j ws → Runs (Want goals.Member ∷ ss) (member n no_modifiers ∷ vs) i ws
modified grammar.nothing = λ ss n vs ws k. k
modified (grammar.access {r = r} {f = f} a d e) = λ ss n vs ws k. modified d ss n vs ws (step goals.Member terminals.Access ss (member n f ∷ vs) ws (a ∷ r) (access_means a.kind e) (take a (access_means a.kind e) k))
modified (grammar.static {r = r} {f = f} a d e) = λ ss n vs ws k. modified d ss n vs ws (step goals.Member terminals.Static ss (member n f ∷ vs) ws (a ∷ r) (ap terminal_of e) (take a (ap terminal_of e) (build k)))
modified (grammar.final {r = r} {f = f} a d e) = λ ss n vs ws k. modified d ss n vs ws (step goals.Member terminals.Final ss (member n f ∷ vs) ws (a ∷ r) (ap terminal_of e) (take a (ap terminal_of e) (build k)))
modified (grammar.overriding {r = r} {f = f} a b d e g h) = λ ss n vs ws k. modified d ss n vs ws
    (step goals.Member terminals.At ss (member n f ∷ vs) ws (a ∷ b ∷ r) (ap terminal_of e) (take a (ap terminal_of e) (spell {s = spelled.Override} b (ap terminal_of g) h (build k))))

-- Parameters.
typed_word : (i r : List Lexeme) (t : Tree) (n : Lexeme) → AnyTypeClaim i t (n ∷ r) → terminal_of n.kind ≡ terminals.Identifier → (ss : List Symbol) (vs ws : List StackItem) → Runs ss (word n.place n.text ∷ part (at i) forms.Type t ∷ vs) r ws
    → Runs (Want goals.Type ∷ Word ∷ ss) vs i ws
typed_word i r t n d kn ss vs ws k = d.type.simple (Word ∷ ss) vs ws (rw kn refl) (step goals.Dimensions terminals.Identifier (Word ∷ ss) (part (at i) forms.Type t ∷ vs) ws (n ∷ r) kn (name n kn k))

pub parameter_claim : (i r : List Lexeme) (t : Tree) (n : Lexeme) → AnyTypeClaim i t (n ∷ r) → terminal_of n.kind ≡ terminals.Identifier → ParameterClaim i (trees.Parameter n.place t n.text) r
parameter_claim i r t n d kn = λ ss vs ws k. go (ahead i) refl d.type.starts ss vs ws (typed_word i r t n d kn (Build makes.Parameter ∷ ss) vs ws (build (k n.place forms.Other)))
  where
    go : (h : Terminal) → ahead i ≡ h → starts_type h ≡ true → (ss : List Symbol) (vs ws : List StackItem) → Runs (Want goals.Type ∷ Word ∷ Build makes.Parameter ∷ ss) vs i ws → Runs (Want goals.Parameter ∷ ss) vs i ws
    go terminals.Final e z ss vs ws x = cc
    go h e z ss vs ws x = step goals.Parameter h ss vs ws i e x

pub final_parameter_claim : (i r : List Lexeme) (t : Tree) (a n : Lexeme) → terminal_of a.kind ≡ terminals.Final → AnyTypeClaim i t (n ∷ r) → terminal_of n.kind ≡ terminals.Identifier → ParameterClaim (a ∷ i) (trees.Parameter n.place t n.text) r
final_parameter_claim i r t a n ka d kn = λ ss vs ws k. step goals.Parameter terminals.Final ss vs ws (a ∷ i) ka (take a ka (typed_word i r t n d kn (Build makes.Parameter ∷ ss) vs ws (build (k n.place forms.Other))))

more_parameters : {i r : List Lexeme} {t : Tree} → Parted ParameterClaim i t r → ahead r ≡ terminals.RightParenthesis → (ss : List Symbol) (vs ws : List StackItem) → Any ss vs t r ws → Runs (Want goals.Parameter ∷ Want goals.MoreParameters ∷ ss) vs i ws
more_parameters (last {r = r} {t = t} d) e = λ ss vs ws k. d (Want goals.MoreParameters ∷ ss) vs ws (λ p f. step goals.MoreParameters terminals.RightParenthesis ss (part p f t ∷ vs) ws r e (build (build (k p forms.Other))))
more_parameters (comma {m = m} {t = t} a d ka rest) e = λ ss vs ws k. d (Want goals.MoreParameters ∷ ss) vs ws
    (λ p f. step goals.MoreParameters terminals.Comma ss (part p f t ∷ vs) ws (a ∷ m) ka (take a ka (more_parameters rest e (Build makes.Cons ∷ ss) (part p f t ∷ vs) ws (λ q g. build (k p forms.Other)))))

parameters : {i r : List Lexeme} {t : Tree} → Optional (Parted ParameterClaim) i t r → ahead r ≡ terminals.RightParenthesis → (ss : List Symbol) (vs ws : List StackItem) → Any ss vs t r ws → Runs (Want goals.Parameters ∷ ss) vs i ws
parameters (absent {i = i}) e = λ ss vs ws k. step goals.Parameters terminals.RightParenthesis ss vs ws i e (build (k nowhere forms.Other))
parameters (present {i = i} d) e = λ ss vs ws k. enter ss vs ws i (more_parameters d e ss vs ws k)
  where
    enter : (ss : List Symbol) (vs ws : List StackItem) (i : List Lexeme) → Runs (Want goals.Parameter ∷ Want goals.MoreParameters ∷ ss) vs i ws → Runs (Want goals.Parameters ∷ ss) vs i ws
    enter ss vs ws i d = go (ahead i) refl
      where
        go : (k : Terminal) → ahead i ≡ k → Runs (Want goals.Parameters ∷ ss) vs i ws
        go terminals.RightParenthesis e = absurd (open_at goals.Type terminals.RightParenthesis e (open_at goals.Parameter terminals.RightParenthesis e d))
        go k e = step goals.Parameters k ss vs ws i e d

-- Fields.
not_overriding : (b : Bool) (f : Modifiers) → f.overrides ≡ false → (vs : List StackItem) → tag (member b f ∷ vs) ≢ tags.Overriding
not_overriding b f e vs z = go (f.is_static && not b) (let w : (if false then tags.Overriding else if f.is_static && not b then tags.Nestable else tags.Other) ≡ tags.Overriding = rw e at z in w)
  where
    go : (c : Bool) → (if c then tags.Nestable else tags.Other) ≡ tags.Overriding → ⊥
    go true y = let w : tags.Nestable ≡ tags.Overriding = y in cc
    go false y = let w : tags.Other ≡ tags.Overriding = y in cc

field_enter : (ss : List Symbol) (vs ws : List StackItem) (j : List Lexeme) → Runs (Want goals.Initialiser ∷ Build makes.Declarator ∷ Want goals.MoreDeclarators ∷ Take terminals.Semicolon ∷ Build makes.Field ∷ ss) vs j ws → Runs (Want goals.FieldOrMethod ∷ ss) vs j ws
field_enter ss vs ws j d = go (ahead j) refl
  where
    go : (k : Terminal) → ahead j ≡ k → Runs (Want goals.FieldOrMethod ∷ ss) vs j ws
    go terminals.Equal e = step goals.FieldOrMethod terminals.Equal ss vs ws j e d
    go terminals.Comma e = step goals.FieldOrMethod terminals.Comma ss vs ws j e d
    go terminals.Semicolon e = step goals.FieldOrMethod terminals.Semicolon ss vs ws j e d
    go k e = absurd (let z : k ≡ terminals.Semicolon = sym e ∙ take_kind (build_inv (build_inv (open_at goals.MoreDeclarators k e (build_inv (build_inv (open_at goals.Initialiser k e d)))))) in cc)

field_names : (ss : List Symbol) (vs ws : List StackItem) (m : List Lexeme) → Runs (Word ∷ Want goals.Initialiser ∷ Build makes.Declarator ∷ Want goals.MoreDeclarators ∷ Take terminals.Semicolon ∷ Build makes.Field ∷ ss) vs m ws
    → Runs (Want goals.Dimensions ∷ Word ∷ Want goals.FieldOrMethod ∷ ss) vs m ws
field_names ss vs ws m d =
    step goals.Dimensions terminals.Identifier (Word ∷ Want goals.FieldOrMethod ∷ ss) vs ws m
    (name_kind (Want goals.Initialiser ∷ Build makes.Declarator ∷ Want goals.MoreDeclarators ∷ Take terminals.Semicolon ∷ Build makes.Field ∷ ss) vs ws m d) (go (name_inv d))
  where
    go : (a : Lexeme) × (j : List Lexeme) × (m ≡ a ∷ j) × (terminal_of a.kind ≡ terminals.Identifier)
        × Runs (Want goals.Initialiser ∷ Build makes.Declarator ∷ Want goals.MoreDeclarators ∷ Take terminals.Semicolon ∷ Build makes.Field ∷ ss) (word a.place a.text ∷ vs) j ws
        → Runs (Word ∷ Want goals.FieldOrMethod ∷ ss) vs m ws
    go (a, j, e, ka, x) = rw e (name a ka (field_enter ss (word a.place a.text ∷ vs) ws j x))

pub field_claim : (o : List ℕ) (n : Bool) (i j m r : List Lexeme) (f : Modifiers) (t u : Tree) (a : Lexeme) → Modified i f j → f.overrides ≡ false → AnyTypeClaim j t m → Parted DeclaratorClaim m u (a ∷ r) → terminal_of a.kind ≡ terminals.Semicolon
    → PlainClaim o n i (trees.Field (at j) f.is_static f.is_final t u) r
field_claim o n i j m r f t u a d e type ds ka = λ ss p vs ws k. modified d ss n (owner n p o ∷ vs) ws
    (type.type.member ss (member n f ∷ owner n p o ∷ vs) ws (not_overriding n f e (owner n p o ∷ vs))
    (field_names ss (part (at j) forms.Type t ∷ member n f ∷ owner n p o ∷ vs) ws m
    (declarators ds ka (Take terminals.Semicolon ∷ Build makes.Field ∷ ss) (part (at j) forms.Type t ∷ member n f ∷ owner n p o ∷ vs) ws (λ q g. take a ka (build (k (at j) forms.Other))))))

-- Methods.
pub void_claim : (i : List Lexeme) (a : Lexeme) (t : Tree) → terminal_of a.kind ≡ terminals.Void → trees.PrimitiveType a.place (the_primitive a.kind) ≡ t → ResultClaim (a ∷ i) t i
void_claim i a t ka e = record {
  plain = λ b c l z kb kc ss vs ws k. step goals.Member terminals.Void ss vs ws (a ∷ i) ka (keep a ka (build (rw (e, z) (name b kb k))));
  contracted = λ b c l z kb kc ss vs ws k. step goals.MethodAhead terminals.Void ss vs ws (a ∷ i) ka (keep a ka (build (rw (e, z) (name b kb k))));
}

-- a type, where a method is surely meant
typed_method : (i r : List Lexeme) (t : Tree) → AnyTypeClaim i t r → Begun goals.MethodAhead goals.ContractedMethod i t r
typed_method i r t d = λ a b l z ka kb ss vs ws k. enter ss vs ws (ahead i) refl d.type.starts
    (d.type.simple (Word ∷ Want goals.ContractedMethod ∷ ss) vs ws (rw (z, ka) refl)
    (rw z (step goals.Dimensions terminals.Identifier (Word ∷ Want goals.ContractedMethod ∷ ss) (part (at i) forms.Type t ∷ vs) ws (a ∷ b ∷ l) ka (name a ka k))))
  where
    enter : (ss : List Symbol) (vs ws : List StackItem) (h : Terminal) → ahead i ≡ h → starts_type h ≡ true → Runs (Want goals.Type ∷ Word ∷ Want goals.ContractedMethod ∷ ss) vs i ws → Runs (Want goals.MethodAhead ∷ ss) vs i ws
    enter ss vs ws terminals.Primitive x y w = step goals.MethodAhead terminals.Primitive ss vs ws i x w
    enter ss vs ws terminals.Identifier x y w = step goals.MethodAhead terminals.Identifier ss vs ws i x w
    enter ss vs ws h x y w = cc

typed_member : (i r : List Lexeme) (t : Tree) → AnyTypeClaim i t r → Begun goals.Member goals.Method i t r
typed_member i r t d = λ a b l z ka kb ss vs ws k. go a b l z ka kb ss vs ws k (tag vs) refl
  where
    go : (a b : Lexeme) (l : List Lexeme) → r ≡ a ∷ b ∷ l → terminal_of a.kind ≡ terminals.Identifier → terminal_of b.kind ≡ terminals.LeftParenthesis → (ss : List Symbol) (vs ws : List StackItem)
        → Runs (Want goals.Method ∷ ss) (word a.place a.text ∷ part (at i) forms.Type t ∷ vs) (b ∷ l) ws → (q : Tag) → tag vs ≡ q → Runs (Want goals.Member ∷ ss) vs i ws
    go a b l z ka kb ss vs ws k = at_tag
      where
        typed : Runs (Want goals.Type ∷ Word ∷ Want goals.Method ∷ ss) vs i ws
        typed = d.type.simple (Word ∷ Want goals.Method ∷ ss) vs ws (rw (z, ka) refl)
            (rw z (step goals.Dimensions terminals.Identifier (Word ∷ Want goals.Method ∷ ss) (part (at i) forms.Type t ∷ vs) ws (a ∷ b ∷ l) ka (name a ka k)))

        overriding : tag vs ≡ tags.Overriding → (h : Terminal) → ahead i ≡ h → starts_type h ≡ true → Runs (Want goals.Member ∷ ss) vs i ws
        overriding e terminals.Primitive x y = step_with goals.Member terminals.Primitive tags.Overriding ss vs ws i x e typed
        overriding e terminals.Identifier x y = step_with goals.Member terminals.Identifier tags.Overriding ss vs ws i x e typed
        overriding e h x y = cc

        other : tag vs ≢ tags.Overriding → Runs (Want goals.Member ∷ ss) vs i ws
        other h = d.type.member ss vs ws h
            (rw z (step goals.Dimensions terminals.Identifier (Word ∷ Want goals.FieldOrMethod ∷ ss) (part (at i) forms.Type t ∷ vs) ws (a ∷ b ∷ l) ka
            (name a ka (step goals.FieldOrMethod terminals.LeftParenthesis ss (word a.place a.text ∷ part (at i) forms.Type t ∷ vs) ws (b ∷ l) kb k))))

        at_tag : (q : Tag) → tag vs ≡ q → Runs (Want goals.Member ∷ ss) vs i ws
        at_tag tags.Overriding e = overriding e (ahead i) refl d.type.starts
        at_tag q e = other (λ x. let y : q ≡ tags.Overriding = sym e ∙ x in cc)

pub result_claim : (i r : List Lexeme) (t : Tree) → AnyTypeClaim i t r → ResultClaim i t r
result_claim i r t d = record { plain = typed_member i r t d; contracted = typed_method i r t d }

plain_method : (o : List ℕ) (n : Bool) (i j m k r : List Lexeme) (f : Modifiers) (t u s : Tree) (a b c d e : Lexeme) → Modified i f j → ResultClaim j t (a ∷ b ∷ m) → terminal_of a.kind ≡ terminals.Identifier → terminal_of b.kind ≡ terminals.LeftParenthesis
    → Optional (Parted ParameterClaim) m u (c ∷ d ∷ k) → terminal_of c.kind ≡ terminals.RightParenthesis → terminal_of d.kind ≡ terminals.LeftBrace → Listed BlockStatementClaim k s (e ∷ r) → terminal_of e.kind ≡ terminals.RightBrace
    → PlainClaim o n i (trees.Method a.place f.is_static a.text (trees.Signature a.place t u trees.Nil) s) r
plain_method o n i j m l r f t u s a b c d e mods result ka kb ps kc kd body ke = λ ss p vs ws k.
    modified mods ss n (owner n p o ∷ vs) ws
    (result.plain a b m refl ka kb ss (member n f ∷ owner n p o ∷ vs) ws
    (step goals.Method terminals.LeftParenthesis ss (word a.place a.text ∷ part (at j) forms.Type t ∷ member n f ∷ owner n p o ∷ vs) ws (b ∷ m) kb
    (take b kb
    (parameters ps kc (Take terminals.RightParenthesis ∷ Take terminals.LeftBrace ∷ Want goals.Statements ∷ Take terminals.RightBrace ∷ Build makes.Method ∷ ss) (word a.place a.text ∷ part (at j) forms.Type t ∷ member n f ∷ owner n p o ∷ vs) ws
    (λ q g. take c kc
    (take d kd
    (statements body ke (Take terminals.RightBrace ∷ Build makes.Method ∷ ss) (part q g u ∷ word a.place a.text ∷ part (at j) forms.Type t ∷ member n f ∷ owner n p o ∷ vs) ws (λ x y. refl)
    (λ x y. take e ke (build (k a.place forms.Other))))))))))

-- Contracts.
members_enter : (ss : List Symbol) (vs ws : List StackItem) (i : List Lexeme) → Runs (Want goals.Member ∷ others ss) vs i ws → Runs (Want goals.Members ∷ ss) vs i ws
members_enter ss vs ws i d = go (ahead i) refl
  where
    go : (k : Terminal) → ahead i ≡ k → Runs (Want goals.Members ∷ ss) vs i ws
    go terminals.RightBrace e = absurd (open_at goals.Member terminals.RightBrace e d)
    go terminals.Semicolon e = absurd (open_at goals.Member terminals.Semicolon e d)
    go terminals.Contract e = absurd (open_at goals.Member terminals.Contract e d)
    go k e = step goals.Members k ss vs ws i e d

pub plain_claim : (o : List ℕ) (n : Bool) (i r : List Lexeme) (t : Tree) → PlainClaim o n i t r → MemberClaim o n i t r
plain_claim o n i r t d = λ ss p vs ws k. members_enter ss (member n no_modifiers ∷ owner n p o ∷ vs) ws i (d (others ss) p vs ws k)

pub precondition_claim : (i r : List Lexeme) (t : Tree) (a b c : Lexeme) → terminal_of a.kind ≡ terminals.Contract → terminal_of b.kind ≡ terminals.Requires → ExpressionClaim i t (c ∷ r) → terminal_of c.kind ≡ terminals.Semicolon
    → ContractClaim (a ∷ b ∷ i) (trees.Requires a.place t) r
precondition_claim i r t a b c ka kb d kc = record {
  starts = ka;
  taken = λ ss vs ws k. keep a ka
      (step goals.Contract terminals.Requires ss (mark a.kind a.place ∷ vs) ws (b ∷ i) kb
      (take b kb (d.simple (Take terminals.Semicolon ∷ Build makes.Requires ∷ ss) (mark a.kind a.place ∷ vs) ws (rw kc refl) (λ f. take c kc (build (k a.place forms.Other))))));
}

pub postcondition_claim : (i r : List Lexeme) (t : Tree) (a b c : Lexeme) → terminal_of a.kind ≡ terminals.Contract → terminal_of b.kind ≡ terminals.Ensures → ExpressionClaim i t (c ∷ r) → terminal_of c.kind ≡ terminals.Semicolon
    → ContractClaim (a ∷ b ∷ i) (trees.Ensures a.place t) r
postcondition_claim i r t a b c ka kb d kc = record {
  starts = ka;
  taken = λ ss vs ws k. keep a ka
      (step goals.Contract terminals.Ensures ss (mark a.kind a.place ∷ vs) ws (b ∷ i) kb
      (take b kb (d.simple (Take terminals.Semicolon ∷ Build makes.Ensures ∷ ss) (mark a.kind a.place ∷ vs) ws (rw kc refl) (λ f. take c kc (build (k a.place forms.Other))))));
}

pub exception_claim : (i m r : List Lexeme) (t u : Tree) (a b c d e : Lexeme) → terminal_of a.kind ≡ terminals.Contract → terminal_of b.kind ≡ terminals.Signals → terminal_of c.kind ≡ terminals.LeftParenthesis
    → NameClaim i t (d ∷ m) → terminal_of d.kind ≡ terminals.RightParenthesis → ExpressionClaim m u (e ∷ r) → terminal_of e.kind ≡ terminals.Semicolon → ContractClaim (a ∷ b ∷ c ∷ i) (trees.Signals a.place t u) r
exception_claim i m r t u a b c d e ka kb kc n kd x ke = record {
  starts = ka;
  taken = λ ss vs ws k. keep a ka
      (step goals.Contract terminals.Signals ss (mark a.kind a.place ∷ vs) ws (b ∷ c ∷ i) kb
      (take b kb
      (take c kc
      (n.extends (Want goals.ThrownName ∷ Take terminals.RightParenthesis ∷ Want goals.Expression ∷ Take terminals.Semicolon ∷ Build makes.Signals ∷ ss) (mark a.kind a.place ∷ vs) ws (rw kd refl)
      (step goals.ThrownName terminals.RightParenthesis (Take terminals.RightParenthesis ∷ Want goals.Expression ∷ Take terminals.Semicolon ∷ Build makes.Signals ∷ ss) (part (at i) forms.Type t ∷ mark a.kind a.place ∷ vs) ws (d ∷ m) kd
      (take d kd
      (x.simple (Take terminals.Semicolon ∷ Build makes.Signals ∷ ss) (part (at i) forms.Type t ∷ mark a.kind a.place ∷ vs) ws (rw ke refl) (λ f. take e ke (build (k a.place forms.Other))))))))));
}

pub named_exception_claim : (i m r : List Lexeme) (t u : Tree) (a b c n d e : Lexeme) → terminal_of a.kind ≡ terminals.Contract → terminal_of b.kind ≡ terminals.Signals → terminal_of c.kind ≡ terminals.LeftParenthesis
    → NameClaim i t (n ∷ d ∷ m) → terminal_of n.kind ≡ terminals.Identifier → terminal_of d.kind ≡ terminals.RightParenthesis → ExpressionClaim m u (e ∷ r) → terminal_of e.kind ≡ terminals.Semicolon
    → ContractClaim (a ∷ b ∷ c ∷ i) (trees.Signals a.place (trees.Parameter n.place t n.text) u) r
named_exception_claim i m r t u a b c n d e ka kb kc x kn kd y ke = record {
  starts = ka;
  taken = λ ss vs ws k. keep a ka
      (step goals.Contract terminals.Signals ss (mark a.kind a.place ∷ vs) ws (b ∷ c ∷ i) kb
      (take b kb
      (take c kc
      (x.extends (Want goals.ThrownName ∷ Take terminals.RightParenthesis ∷ Want goals.Expression ∷ Take terminals.Semicolon ∷ Build makes.Signals ∷ ss) (mark a.kind a.place ∷ vs) ws (rw kn refl)
      (step goals.ThrownName terminals.Identifier (Take terminals.RightParenthesis ∷ Want goals.Expression ∷ Take terminals.Semicolon ∷ Build makes.Signals ∷ ss) (part (at i) forms.Type t ∷ mark a.kind a.place ∷ vs) ws (n ∷ d ∷ m) kn
      (name n kn
      (build
      (take d kd
      (y.simple (Take terminals.Semicolon ∷ Build makes.Signals ∷ ss) (part n.place forms.Other (trees.Parameter n.place t n.text) ∷ mark a.kind a.place ∷ vs) ws (rw ke refl) (λ f. take e ke (build (k a.place forms.Other))))))))))));
}

contracts : {i r : List Lexeme} {t : Tree} → Listed ContractClaim i t r → ahead r ≢ terminals.Contract → (ss : List Symbol) (vs ws : List StackItem) → Any ss vs t r ws → Runs (Want goals.Contracts ∷ ss) vs i ws
contracts (end {i = i}) h = λ ss vs ws k. none ss vs ws i h (build (k nowhere forms.Other))
  where
    none : (ss : List Symbol) (vs ws : List StackItem) (i : List Lexeme) → ahead i ≢ terminals.Contract → Runs (Build makes.Nil ∷ ss) vs i ws → Runs (Want goals.Contracts ∷ ss) vs i ws
    none ss vs ws i h d = go (ahead i) refl
      where
        go : (k : Terminal) → ahead i ≡ k → Runs (Want goals.Contracts ∷ ss) vs i ws
        go terminals.Contract e = absurd (h e)
        go k e = step goals.Contracts k ss vs ws i e d
contracts (next {i = i} {t = t} c rest) h = λ ss vs ws k. step goals.Contracts terminals.Contract ss vs ws i c.starts
    (c.taken (Want goals.Contracts ∷ Build makes.Cons ∷ ss) vs ws
    (λ p f. contracts rest h (Build makes.Cons ∷ ss) (part p f t ∷ vs) ws (λ q g. build (k p forms.Other))))

-- modifiers after contracts
modified_method : {i j : List Lexeme} {f : Modifiers} → Modified i f j → (ss : List Symbol) (n : Bool) (vs ws : List StackItem) → Runs (Want goals.MethodAhead ∷ ss) (member n f ∷ vs) j ws → Runs (Want goals.MethodAhead ∷ ss) (member n no_modifiers ∷ vs) i ws
modified_method grammar.nothing = λ ss n vs ws k. k
modified_method (grammar.access {r = r} {f = f} a d e) = λ ss n vs ws k. modified_method d ss n vs ws (step goals.MethodAhead terminals.Access ss (member n f ∷ vs) ws (a ∷ r) (access_means a.kind e) (take a (access_means a.kind e) k))
modified_method (grammar.static {r = r} {f = f} a d e) = λ ss n vs ws k. modified_method d ss n vs ws (step goals.MethodAhead terminals.Static ss (member n f ∷ vs) ws (a ∷ r) (ap terminal_of e) (take a (ap terminal_of e) (build k)))
modified_method (grammar.final {r = r} {f = f} a d e) = λ ss n vs ws k. modified_method d ss n vs ws (step goals.MethodAhead terminals.Final ss (member n f ∷ vs) ws (a ∷ r) (ap terminal_of e) (take a (ap terminal_of e) (build k)))
modified_method (grammar.overriding {r = r} {f = f} a b d e g h) = λ ss n vs ws k. modified_method d ss n vs ws
    (step goals.MethodAhead terminals.At ss (member n f ∷ vs) ws (a ∷ b ∷ r) (ap terminal_of e) (take a (ap terminal_of e) (spell {s = spelled.Override} b (ap terminal_of g) h (build k))))

-- a method after its contracts
behind_contracts : (o : List ℕ) (n : Bool) (i j m l r : List Lexeme) (f : Modifiers) (v t u s : Tree) (a b c d e : Lexeme) → Modified i f j → ResultClaim j t (a ∷ b ∷ m) → terminal_of a.kind ≡ terminals.Identifier → terminal_of b.kind ≡ terminals.LeftParenthesis
    → Optional (Parted ParameterClaim) m u (c ∷ d ∷ l) → terminal_of c.kind ≡ terminals.RightParenthesis → terminal_of d.kind ≡ terminals.LeftBrace → Listed BlockStatementClaim l s (e ∷ r) → terminal_of e.kind ≡ terminals.RightBrace
    → (ss : List Symbol) (q : Place) (g : Form) (vs ws : List StackItem) → Any ss vs (trees.Method a.place f.is_static a.text (trees.Signature a.place t u v) s) r ws → Runs (Want goals.MethodAhead ∷ ss) (member n no_modifiers ∷ part q g v ∷ vs) i ws
behind_contracts o n i j m l r f v t u s a b c d e mods result ka kb ps kc kd body ke = λ ss q g vs ws k.
    modified_method mods ss n (part q g v ∷ vs) ws
    (result.contracted a b m refl ka kb ss (member n f ∷ part q g v ∷ vs) ws
    (step goals.ContractedMethod terminals.LeftParenthesis ss (word a.place a.text ∷ part (at j) forms.Type t ∷ member n f ∷ part q g v ∷ vs) ws (b ∷ m) kb
    (take b kb
    (parameters ps kc (Take terminals.RightParenthesis ∷ Take terminals.LeftBrace ∷ Want goals.Statements ∷ Take terminals.RightBrace ∷ Build makes.ContractedMethod ∷ ss) (word a.place a.text ∷ part (at j) forms.Type t ∷ member n f ∷ part q g v ∷ vs) ws
    (λ p0 f0. take c kc
    (take d kd
    (statements body ke (Take terminals.RightBrace ∷ Build makes.ContractedMethod ∷ ss) (part p0 f0 u ∷ word a.place a.text ∷ part (at j) forms.Type t ∷ member n f ∷ part q g v ∷ vs) ws (λ x y. refl)
    (λ x y. take e ke (build (k a.place forms.Other))))))))))

pub method_claim : (o : List ℕ) (n : Bool) (h i j m l r : List Lexeme) (f : Modifiers) (v t u s : Tree) (a b c d e : Lexeme) → Listed ContractClaim h v i → Modified i f j → ResultClaim j t (a ∷ b ∷ m) → terminal_of a.kind ≡ terminals.Identifier → terminal_of b.kind ≡ terminals.LeftParenthesis
    → Optional (Parted ParameterClaim) m u (c ∷ d ∷ l) → terminal_of c.kind ≡ terminals.RightParenthesis → terminal_of d.kind ≡ terminals.LeftBrace → Listed BlockStatementClaim l s (e ∷ r) → terminal_of e.kind ≡ terminals.RightBrace
    → MemberClaim o n h (trees.Method a.place f.is_static a.text (trees.Signature a.place t u v) s) r
method_claim o n h i j m l r f v t u s a b c d e ks mods result ka kb ps kc kd body ke = by_contracts ks mods
  where
    by_contracts : {h i : List Lexeme} {v : Tree} → Listed ContractClaim h v i → Modified i f j → MemberClaim o n h (trees.Method a.place f.is_static a.text (trees.Signature a.place t u v) s) r
    by_contracts (end {i = i}) mods = plain_claim o n i r (trees.Method a.place f.is_static a.text (trees.Signature a.place t u trees.Nil) s) (plain_method o n i j m l r f t u s a b c d e mods result ka kb ps kc kd body ke)
    by_contracts (next {i = h} {m = m0} {r = i} {t = t0} {u = u0} c0 rest) mods = λ ss p vs ws k. (
        let behind : (q : Place) (g : Form) → Runs (Want goals.MethodAhead ∷ others ss) (member n no_modifiers ∷ part q g (trees.Cons t0 u0) ∷ owner n p o ∷ vs) i ws =
        λ q g. behind_contracts o n i j m l r f (trees.Cons t0 u0) t u s a b c d e mods result ka kb ps kc kd body ke (others ss) q g (owner n p o ∷ vs) ws k in
        step goals.Members terminals.Contract ss (member n no_modifiers ∷ owner n p o ∷ vs) ws h c0.starts
        (c0.taken (Want goals.Contracts ∷ Build makes.Cons ∷ Build makes.Swap ∷ Want goals.MethodAhead ∷ others ss) (member n no_modifiers ∷ owner n p o ∷ vs) ws
        (λ q g. contracts rest (λ z. open_at goals.MethodAhead terminals.Contract z (behind nowhere forms.Other)) (Build makes.Cons ∷ Build makes.Swap ∷ Want goals.MethodAhead ∷ others ss) (part q g t0 ∷ member n no_modifiers ∷ owner n p o ∷ vs) ws
        (λ x y. build (build (behind q forms.Other))))))

-- Constructors.
pub calls_super_claim : (i r : List Lexeme) (t : Tree) (a b c d : Lexeme) → terminal_of a.kind ≡ terminals.Super → terminal_of b.kind ≡ terminals.LeftParenthesis → Optional (Parted ExpressionClaim) i t (c ∷ d ∷ r) → terminal_of c.kind ≡ terminals.RightParenthesis
    → terminal_of d.kind ≡ terminals.Semicolon → ConstructorCallClaim (a ∷ b ∷ i) (trees.ConstructorCall a.place t) r
calls_super_claim i r t a b c d ka kb args kc kd = λ ss vs ws k.
    step goals.ConstructorBody terminals.Super ss vs ws (a ∷ b ∷ i) ka
    (keep a ka
    (step goals.AfterSuper terminals.LeftParenthesis ss (mark a.kind a.place ∷ vs) ws (b ∷ i) kb
    (take b kb
    (arguments args kc (Take terminals.RightParenthesis ∷ Take terminals.Semicolon ∷ Build makes.ConstructorCall ∷ Want goals.Statements ∷ ss) (mark a.kind a.place ∷ vs) ws
    (λ p f. take c kc (take d kd (build (k a.place forms.Other))))))))

-- a body whose first statement may begin with `super`
body_enter : (ss : List Symbol) (vs ws : List StackItem) (i : List Lexeme) → Runs (Want goals.Statements ∷ ss) (part nowhere forms.Other trees.Nil ∷ vs) i ws → Runs (Want goals.ConstructorBody ∷ ss) vs i ws
body_enter ss vs ws i d = go (ahead i) refl
  where
    begins : (s : Lexeme) × (j : List Lexeme) × (i ≡ s ∷ j) × (terminal_of s.kind ≡ terminals.Super)
        × Runs (Take terminals.Dot ∷ Word ∷ Take terminals.LeftParenthesis ∷ Want goals.Arguments ∷ Take terminals.RightParenthesis ∷ Build makes.SuperCall ∷ Want goals.Suffixes ∷ Want goals.AfterStatementPrimary
        ∷ Build makes.ExpressionStatement ∷ Take terminals.Semicolon ∷ Want goals.Statements ∷ Build makes.Cons ∷ ss) (mark s.kind s.place ∷ part nowhere forms.Other trees.Nil ∷ vs) j ws
        → Runs (Want goals.ConstructorBody ∷ ss) vs i ws
    begins (s, j, e, ks, x) = rw e (step goals.ConstructorBody terminals.Super ss vs ws (s ∷ j) ks
        (keep s ks (step goals.AfterSuper terminals.Dot ss (mark s.kind s.place ∷ vs) ws j (take_kind x) (build (build x)))))

    go : (k : Terminal) → ahead i ≡ k → Runs (Want goals.ConstructorBody ∷ ss) vs i ws
    go terminals.Super e = begins (keep_inv
        (open_at goals.Primary terminals.Super e
        (open_at goals.StatementExpression terminals.Super e
        (open_at goals.Statement terminals.Super e
        (open_at goals.BlockStatement terminals.Super e
        (open_at goals.Statements terminals.Super e d))))))
    go k e = step goals.ConstructorBody k ss vs ws i e (build d)

constructor_body : {j k : List Lexeme} {s : Tree} → Optional ConstructorCallClaim j s k → (ss : List Symbol) (vs ws : List StackItem) → Any (Want goals.Statements ∷ ss) vs s k ws → Runs (Want goals.ConstructorBody ∷ ss) vs j ws
constructor_body (absent {i = i}) = λ ss vs ws k. body_enter ss vs ws i (k nowhere forms.Other)
constructor_body (present d) = λ ss vs ws k. d ss vs ws k

constructor_tag : (n : Bool) (p q : Place) (x o : List ℕ) (vs : List StackItem) → x ≡ o → tag (word q x ∷ member n no_modifiers ∷ owner n p o ∷ vs) ≡ tags.Constructor
constructor_tag n p q x o vs e = let z : bytes_eq x o ≡ true = (bytes_eq-Decides x o).1 e in rw z refl

pub constructor_claim : (o : List ℕ) (n : Bool) (i m j k r : List Lexeme) (u s t : Tree) (a b c d e : Lexeme) → Modified i no_modifiers (a ∷ b ∷ m) → terminal_of a.kind ≡ terminals.Identifier → a.text ≡ o → terminal_of b.kind ≡ terminals.LeftParenthesis
    → Optional (Parted ParameterClaim) m u (c ∷ d ∷ j) → terminal_of c.kind ≡ terminals.RightParenthesis → terminal_of d.kind ≡ terminals.LeftBrace → Optional ConstructorCallClaim j s k → Listed BlockStatementClaim k t (e ∷ r) → terminal_of e.kind ≡ terminals.RightBrace
    → PlainClaim o n i (trees.Constructor a.place u s t) r
constructor_claim o n i m j l r u s t a b c d e mods ka eo kb ps kc kd call body ke = λ ss p vs ws k.
    modified mods ss n (owner n p o ∷ vs) ws
    (step goals.Member terminals.Identifier ss (member n no_modifiers ∷ owner n p o ∷ vs) ws (a ∷ b ∷ m) ka
    (name a ka
    (step_with goals.MemberName terminals.LeftParenthesis tags.Constructor ss (word a.place a.text ∷ member n no_modifiers ∷ owner n p o ∷ vs) ws (b ∷ m) kb (constructor_tag n p a.place a.text o vs eo)
    (take b kb
    (parameters ps kc (Take terminals.RightParenthesis ∷ Take terminals.LeftBrace ∷ Want goals.ConstructorBody ∷ Take terminals.RightBrace ∷ Build makes.Constructor ∷ ss) (word a.place a.text ∷ member n no_modifiers ∷ owner n p o ∷ vs) ws
    (λ q g. take c kc
    (take d kd
    (constructor_body call (Take terminals.RightBrace ∷ Build makes.Constructor ∷ ss) (part q g u ∷ word a.place a.text ∷ member n no_modifiers ∷ owner n p o ∷ vs) ws
    (λ x y. statements body ke (Take terminals.RightBrace ∷ Build makes.Constructor ∷ ss) (part x y s ∷ part q g u ∷ word a.place a.text ∷ member n no_modifiers ∷ owner n p o ∷ vs) ws (λ z w. refl)
    (λ z w. take e ke (build (k a.place forms.Other))))))))))))

-- Nested classes.
nested_tag : (f : Modifiers) (vs : List StackItem) → f.is_static ≡ true → f.overrides ≡ false → tag (member false f ∷ vs) ≡ tags.Nestable
nested_tag f vs e h = rw (h, e) refl

pub nested_claim : (o : List ℕ) (i j r : List Lexeme) (f : Modifiers) (t : Tree) → Modified i f j → f.is_static ≡ true → f.overrides ≡ false → ClassClaim true j t r → PlainClaim o false i t r
nested_claim o i j r f t d e h c = λ ss p vs ws k. modified d ss false (owner false p o ∷ vs) ws
    (step_with goals.Member terminals.Class tags.Nestable ss (member false f ∷ owner false p o ∷ vs) ws j c.starts (nested_tag f (owner false p o ∷ vs) e h)
    (c.body (Build makes.Nested ∷ ss) (member false f ∷ owner false p o ∷ vs) ws (build (k c.place forms.Other))))
