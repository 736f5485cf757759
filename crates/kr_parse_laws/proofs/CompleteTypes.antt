-- Types: alone, at the start of an item or a member, in parentheses, in chains, and after `instanceof`.
use Rattle.std.proofs.Common.{◌≡◌, ◌≢◌, Bool, true, false, List, [], ◌∷◌, Some, refl}
use Rattle.kr_base.specs.declared.place.Place.{Place}
use Rattle.kr_lex.specs.Lexemes.{Lexeme}
use Rattle.kr_lex.specs.declared.kind.Kind.{Kind}
use Rattle.kr_ast.specs.declared.node.Primitive.{Primitive}
use Rattle.kr_ast.specs.Tree as trees
use Rattle.kr_ast.specs.Tree.{Tree}
use Rattle.kr_parse_grammar.specs.declared.terminal.Terminal.{Terminal}
use Rattle.kr_parse_grammar.specs.declared.terminal.Terminal.TheVariants as terminals
use Rattle.kr_parse_grammar.specs.declared.value.Tag.{Tag}
use Rattle.kr_parse_grammar.specs.declared.value.Tag.TheVariants as tags
use Rattle.kr_parse_grammar.specs.declared.value.Form.TheVariants as forms
use Rattle.kr_parse_grammar.specs.declared.goal.Goal.TheVariants as goals
use Rattle.kr_parse_grammar.specs.declared.goal.Make.TheVariants as makes
use Rattle.kr_parse_grammar.specs.declared.goal.Symbol.{Symbol}
use Rattle.kr_parse_grammar.specs.declared.goal.Symbol.TheVariants.{Take, Keep, Word, Want, Build}
use Rattle.kr_parse_grammar.specs.Terminals.{terminal_of}
use Rattle.kr_parse_grammar.specs.TokenMeanings.{primitive_of}
use Rattle.kr_parse_grammar.specs.Values.{StackItem, mark, word, pair, part, tag, is_name}
use Rattle.kr_parse_grammar.specs.Grammar.{at}
use Rattle.kr_parse_grammar.specs.State.{ends_class_name}
use Rattle.kr_parse_grammar.specs.Machine.{ahead, rule, starts_unary, starts_unsigned, Runs, take, keep, name, want, build}
use Rattle.kr_parse_laws.proofs.CompleteSteps.{open_at, open_with, step, take_inv, take_kind}
use Rattle.kr_parse_laws.proofs.CompleteOperators.{unsigned_starts, type_of, plain_name}
use Rattle.kr_parse_laws.proofs.CompleteClaims.{a_word, a_pair, is_tail, is_type_end, NameClaim, Quiet, TypeClaim, ReferenceClaim, AnyTypeClaim}
use Rattle.kr_parse_laws.proofs.CompleteOperands.{PrimitiveFacts, primitive_means}

pub simple_name_claim : (i : List Lexeme) (a : Lexeme) → terminal_of a.kind ≡ terminals.Identifier → NameClaim (a ∷ i) (trees.NamedType a.place a.text) i
simple_name_claim i a ka = record {
  value = word a.place a.text;
  operand = trees.Variable a.place a.text;
  isname = a_word;
  identifier = ka;
  loop = λ g ss vs ws h plain d. name a ka d;
  typed = λ ss vs ws h d. name a ka (typed ss vs ws h d);
  member = λ ss vs ws h d. name a ka (member ss vs ws h d);
  extends = λ ss vs ws h d. name a ka (ended ss vs ws h d);
}
  where
    typed : (ss : List Symbol) (vs ws : List StackItem) → ahead i ≢ terminals.Dot → Runs (Want goals.TypeTail ∷ ss) (word a.place a.text ∷ vs) i ws → Runs (Want goals.TypeName ∷ ss) (word a.place a.text ∷ vs) i ws
    typed ss vs ws h d = go (ahead i) refl
      where
        go : (k : Terminal) → ahead i ≡ k → Runs (Want goals.TypeName ∷ ss) (word a.place a.text ∷ vs) i ws
        go terminals.Dot e = absurd (h e)
        go k e = step goals.TypeName k ss (word a.place a.text ∷ vs) ws i e d

    member : (ss : List Symbol) (vs ws : List StackItem) → is_tail (ahead i) ≡ true → Runs (Want goals.TypeTail ∷ Word ∷ Want goals.FieldOrMethod ∷ ss) (word a.place a.text ∷ vs) i ws → Runs (Want goals.MemberName ∷ ss) (word a.place a.text ∷ vs) i ws
    member ss vs ws h d = go (ahead i) refl h
      where
        go : (k : Terminal) → ahead i ≡ k → is_tail k ≡ true → Runs (Want goals.MemberName ∷ ss) (word a.place a.text ∷ vs) i ws
        go terminals.Less e z = step goals.MemberName terminals.Less ss (word a.place a.text ∷ vs) ws i e d
        go terminals.LeftBracket e z = step goals.MemberName terminals.LeftBracket ss (word a.place a.text ∷ vs) ws i e d
        go terminals.Identifier e z = step goals.MemberName terminals.Identifier ss (word a.place a.text ∷ vs) ws i e d
        go k e z = cc

    ended : (ss : List Symbol) (vs ws : List StackItem) → ends_class_name (ahead i) ≡ true → Runs ss (part a.place forms.Type (trees.NamedType a.place a.text) ∷ vs) i ws → Runs (Want goals.ClassTail ∷ ss) (word a.place a.text ∷ vs) i ws
    ended ss vs ws h d = go (ahead i) refl h
      where
        go : (k : Terminal) → ahead i ≡ k → ends_class_name k ≡ true → Runs (Want goals.ClassTail ∷ ss) (word a.place a.text ∷ vs) i ws
        go terminals.LeftBrace e z = step goals.ClassTail terminals.LeftBrace ss (word a.place a.text ∷ vs) ws i e (build d)
        go terminals.Identifier e z = step goals.ClassTail terminals.Identifier ss (word a.place a.text ∷ vs) ws i e (build d)
        go terminals.RightParenthesis e z = step goals.ClassTail terminals.RightParenthesis ss (word a.place a.text ∷ vs) ws i e (build d)
        go k e z = cc

pub qualified_name_claim : (i : List Lexeme) (a d b : Lexeme) → terminal_of a.kind ≡ terminals.Identifier → terminal_of d.kind ≡ terminals.Dot → terminal_of b.kind ≡ terminals.Identifier → NameClaim (a ∷ d ∷ b ∷ i) (trees.QualifiedType a.place a.text b.text) i
qualified_name_claim i a d b ka kd kb = record {
  value = pair a.place a.text b.text;
  operand = trees.FieldAccess a.place (trees.Variable a.place a.text) b.text;
  isname = a_pair;
  identifier = ka;
  loop = λ g ss vs ws h plain x. name a ka (want (Take terminals.Dot ∷ Word ∷ Build makes.Pair ∷ Want g ∷ []) (rw (kd, plain a.place a.text) h) (take d kd (name b kb (build x))));
  typed = λ ss vs ws h x. name a ka (step goals.TypeName terminals.Dot ss (word a.place a.text ∷ vs) ws (d ∷ b ∷ i) kd (take d kd (name b kb (build x))));
  member = λ ss vs ws h x. name a ka (step goals.MemberName terminals.Dot ss (word a.place a.text ∷ vs) ws (d ∷ b ∷ i) kd (take d kd (name b kb (build x))));
  extends = λ ss vs ws h x. name a ka (step goals.ClassTail terminals.Dot ss (word a.place a.text ∷ vs) ws (d ∷ b ∷ i) kd (take d kd (name b kb (build (build x)))));
}

member_rule : (q : Tag) → q ≢ tags.Overriding → rule goals.Member terminals.Primitive q ≡ Some (Want goals.Type ∷ Word ∷ Want goals.FieldOrMethod ∷ [])
member_rule tags.Overriding h = absurd (h refl)
member_rule _ h = refl

pub member_name_rule : (q : Tag) → q ≢ tags.Overriding → rule goals.Member terminals.Identifier q ≡ Some (Word ∷ Want goals.MemberName ∷ [])
member_name_rule tags.Overriding h = absurd (h refl)
member_name_rule _ h = refl

pub primitive_claim : (i : List Lexeme) (a : Lexeme) (o : Primitive) → primitive_of a.kind ≡ Some o → AnyTypeClaim (a ∷ i) (trees.PrimitiveType a.place o) i
primitive_claim i a o e = record { type = type; reference = reference }
  where
    facts : PrimitiveFacts a.kind (Some o)
    facts = primitive_means a.kind o e

    kept : (ss : List Symbol) (vs ws : List StackItem) → Runs ss (part a.place forms.Type (trees.PrimitiveType a.place o) ∷ vs) i ws → Runs (Keep terminals.Primitive ∷ Build makes.TypeOfMark ∷ ss) vs (a ∷ i) ws
    kept ss vs ws d = keep a facts.0 (build (rw facts.1 d))

    simple : (ss : List Symbol) (vs ws : List StackItem) → Runs (Want goals.Dimensions ∷ ss) (part a.place forms.Type (trees.PrimitiveType a.place o) ∷ vs) i ws → Runs (Want goals.Type ∷ ss) vs (a ∷ i) ws
    simple ss vs ws d = step goals.Type terminals.Primitive ss vs ws (a ∷ i) facts.0 (kept (Want goals.Dimensions ∷ ss) vs ws d)

    type : TypeClaim (a ∷ i) (trees.PrimitiveType a.place o) i
    type = record {
      starts = rw facts.0 refl;
      simple = λ ss vs ws h d. simple ss vs ws d;
      local = λ ss vs ws h d. step goals.Item terminals.Primitive ss vs ws (a ∷ i) facts.0 (simple (Word ∷ Want goals.AfterLocalName ∷ ss) vs ws d);
      member = λ ss vs ws h d. want (Want goals.Type ∷ Word ∷ Want goals.FieldOrMethod ∷ []) (rw facts.0 (member_rule (tag vs) h)) (simple (Word ∷ Want goals.FieldOrMethod ∷ ss) vs ws d);
      chain = λ ss ns ws h q d. step goals.ChainArgument terminals.Primitive ss ns ws (a ∷ i) facts.0 (kept (Want goals.ChainClosing ∷ ss) ns ws d);
    }

    reference : ahead i ≡ terminals.LeftBracket → ReferenceClaim (a ∷ i) (trees.PrimitiveType a.place o) i
    reference h = record {
      type = type;
      cast = λ ss k p vs ws d. step goals.InParentheses terminals.Primitive ss (mark k p ∷ vs) ws (a ∷ i) facts.0
          (kept (Want goals.PrimitiveCast ∷ ss) (mark k p ∷ vs) ws
          (step goals.PrimitiveCast terminals.LeftBracket ss (part a.place forms.Type (trees.PrimitiveType a.place o) ∷ mark k p ∷ vs) ws i h (open_at goals.Dimensions terminals.LeftBracket h d)));
      tested = λ ss p f x vs ws q d nm. step goals.Tested terminals.Primitive ss (part p f x ∷ vs) ws (a ∷ i) facts.0
          (kept (Take terminals.LeftBracket ∷ Take terminals.RightBracket ∷ Build makes.Array ∷ Want goals.Dimensions ∷ Build makes.InstanceOf ∷ ss) (part p f x ∷ vs) ws (open_at goals.Dimensions terminals.LeftBracket h d));
    }

pub name_kind : (ss : List Symbol) (vs ws : List StackItem) (i : List Lexeme) → Runs (Word ∷ ss) vs i ws → ahead i ≡ terminals.Identifier
name_kind ss vs ws i (name a p d) = p

-- dimensions, or a name
abbrev pub names : Terminal → Bool
names terminals.LeftBracket = true
names terminals.Identifier = true
names _ = false

pub dimensions_name : (ss : List Symbol) (vs ws : List StackItem) (r : List Lexeme) → Runs (Want goals.Dimensions ∷ Word ∷ ss) vs r ws → names (ahead r) ≡ true
dimensions_name ss vs ws r d = go (ahead r) refl
  where
    go : (k : Terminal) → ahead r ≡ k → names (ahead r) ≡ true
    go terminals.LeftBracket e = rw e refl
    go k e = rw (name_kind ss vs ws r (open_at goals.Dimensions k e d)) refl

names_tail : (k : Terminal) → names k ≡ true → is_tail k ≡ true
names_tail terminals.LeftBracket e = refl
names_tail terminals.Identifier e = refl
names_tail _ e = cc

pub names_end : (k : Terminal) → names k ≡ true → is_type_end k ≡ true
names_end terminals.LeftBracket e = refl
names_end terminals.Identifier e = refl
names_end _ e = cc

not_dot : (k : Terminal) → is_type_end k ≡ true → k ≢ terminals.Dot
not_dot terminals.Dot e z = let w : false ≡ true = e in cc
not_dot k e z = let w : k ≡ terminals.Dot = z in cc

tail_rule : (k : Terminal) (q : Tag) → is_type_end k ≡ true → rule goals.TypeTail k q ≡ Some (Build makes.TypeOfName ∷ Want goals.Dimensions ∷ [])
tail_rule terminals.Less q e = cc
tail_rule _ q e = refl

-- A class type.
module _ (i r : List Lexeme) (t : Tree) (n : NameClaim i t r) where
  named_tail : (ss : List Symbol) (vs ws : List StackItem) → is_type_end (ahead r) ≡ true → Runs (Want goals.Dimensions ∷ ss) (part (at i) forms.Type t ∷ vs) r ws → Runs (Want goals.TypeTail ∷ ss) (n.value ∷ vs) r ws
  named_tail ss vs ws h d = want (Build makes.TypeOfName ∷ Want goals.Dimensions ∷ []) (tail_rule (ahead r) (tag (n.value ∷ vs)) h) (build (rw (type_of n.value (at i) n.operand t vs n.isname) d))

  named_local : (ss : List Symbol) (vs ws : List StackItem) → Runs (Want goals.Dimensions ∷ Word ∷ Want goals.AfterLocalName ∷ ss) (part (at i) forms.Type t ∷ vs) r ws → Runs (Want goals.ItemName ∷ ss) (n.value ∷ vs) r ws
  named_local ss vs ws d = go (ahead r) refl (dimensions_name (Want goals.AfterLocalName ∷ ss) (part (at i) forms.Type t ∷ vs) ws r d)
    where
      bracket : (a : Lexeme) × (j : List Lexeme) × (r ≡ a ∷ j) × (terminal_of a.kind ≡ terminals.LeftBracket)
          × Runs (Take terminals.RightBracket ∷ Build makes.Array ∷ Want goals.Dimensions ∷ Word ∷ Want goals.AfterLocalName ∷ ss) (part (at i) forms.Type t ∷ vs) j ws → Runs (Want goals.ItemName ∷ ss) (n.value ∷ vs) r ws
      bracket (a, j, e, ka, x) = rw e (step goals.ItemName terminals.LeftBracket ss (n.value ∷ vs) ws (a ∷ j) ka
          (take a ka (step goals.ItemBracket terminals.RightBracket ss (n.value ∷ vs) ws j (take_kind x) (build (rw (type_of n.value (at i) n.operand t vs n.isname) x)))))

      go : (k : Terminal) → ahead r ≡ k → names k ≡ true → Runs (Want goals.ItemName ∷ ss) (n.value ∷ vs) r ws
      go terminals.LeftBracket e h = bracket (take_inv (open_at goals.Dimensions terminals.LeftBracket e d))
      go terminals.Identifier e h = step goals.ItemName terminals.Identifier ss (n.value ∷ vs) ws r e (build (rw (type_of n.value (at i) n.operand t vs n.isname) (open_at goals.Dimensions terminals.Identifier e d)))
      go k e h = cc

  named_chain : (ss : List Symbol) (ns ws : List StackItem) → is_name ns ≡ true → Quiet r → Runs (Want goals.ChainClosing ∷ ss) (part (at i) forms.Type t ∷ ns) r ws → Runs (Want goals.ChainName ∷ ss) (n.value ∷ ns) r ws
  named_chain ss ns ws h quiet d = go (ahead r) refl
    where
      inner : tag (part (at i) forms.Type t ∷ ns) ≡ tags.InnerType
      inner = rw h refl

      bracket : (a : Lexeme) × (j : List Lexeme) × (r ≡ a ∷ j) × (terminal_of a.kind ≡ terminals.LeftBracket)
          × Runs (Take terminals.RightBracket ∷ Build makes.Array ∷ Want goals.ChainClosing ∷ ss) (part (at i) forms.Type t ∷ ns) j ws → Runs (Want goals.ChainName ∷ ss) (n.value ∷ ns) r ws
      bracket (a, j, e, ka, x) = rw e (step goals.ChainName terminals.LeftBracket ss (n.value ∷ ns) ws (a ∷ j) ka
          (take a ka (step goals.ChainBracket terminals.RightBracket ss (n.value ∷ ns) ws j (take_kind x) (build (rw (type_of n.value (at i) n.operand t ns n.isname) x)))))

      behind : (j : List Lexeme) → starts_unary (ahead j) ≡ false → Runs (Build makes.Generic ∷ Want goals.ChainClosing ∷ ss) (part (at i) forms.Type t ∷ ns) j ws → Runs (Want goals.ChainGreater ∷ ss) (n.value ∷ ns) j ws
      behind j q x = at_kind (ahead j) refl q
        where
          y : Runs (Build makes.TypeOfName ∷ Build makes.Generic ∷ Want goals.ChainClosing ∷ ss) (n.value ∷ ns) j ws
          y = build (rw (type_of n.value (at i) n.operand t ns n.isname) x)

          at_kind : (k : Terminal) → ahead j ≡ k → starts_unary k ≡ false → Runs (Want goals.ChainGreater ∷ ss) (n.value ∷ ns) j ws
          at_kind terminals.Sign e z = cc
          at_kind terminals.Step e z = cc
          at_kind terminals.Identifier e z = cc
          at_kind terminals.Literal e z = cc
          at_kind terminals.LeftParenthesis e z = cc
          at_kind terminals.New e z = cc
          at_kind terminals.Super e z = cc
          at_kind terminals.Old e z = cc
          at_kind terminals.Complement e z = cc
          at_kind k e z = step goals.ChainGreater k ss (n.value ∷ ns) ws j e y

      greater : (a : Lexeme) × (j : List Lexeme) × (r ≡ a ∷ j) × (terminal_of a.kind ≡ terminals.Greater) × Runs (Build makes.Generic ∷ Want goals.ChainClosing ∷ ss) (part (at i) forms.Type t ∷ ns) j ws
          → Runs (Want goals.ChainName ∷ ss) (n.value ∷ ns) r ws
      greater (a, j, e, ka, x) = rw e (step goals.ChainName terminals.Greater ss (n.value ∷ ns) ws (a ∷ j) ka (take a ka (behind j (quiet a j e ka) x)))

      go : (k : Terminal) → ahead r ≡ k → Runs (Want goals.ChainName ∷ ss) (n.value ∷ ns) r ws
      go terminals.LeftBracket e = bracket (take_inv (open_with goals.ChainClosing terminals.LeftBracket tags.InnerType e inner d))
      go k e = greater (take_inv (open_with goals.ChainClosing k tags.InnerType e inner d))

  named_cast : (ss : List Symbol) (k : Kind) (p : Place) (vs ws : List StackItem) → Runs (Want goals.Dimensions ∷ Take terminals.RightParenthesis ∷ Want goals.Unsigned ∷ Build makes.Cast ∷ ss) (part (at i) forms.Type t ∷ mark k p ∷ vs) r ws
      → Runs (Want goals.EnclosedName ∷ ss) (n.value ∷ mark k p ∷ vs) r ws
  named_cast ss k p vs ws d = go (ahead r) refl
    where
      bracket : (a : Lexeme) × (j : List Lexeme) × (r ≡ a ∷ j) × (terminal_of a.kind ≡ terminals.LeftBracket)
          × Runs (Take terminals.RightBracket ∷ Build makes.Array ∷ Want goals.Dimensions ∷ Take terminals.RightParenthesis ∷ Want goals.Unsigned ∷ Build makes.Cast ∷ ss) (part (at i) forms.Type t ∷ mark k p ∷ vs) j ws
          → Runs (Want goals.EnclosedName ∷ ss) (n.value ∷ mark k p ∷ vs) r ws
      bracket (a, j, e, ka, x) = rw e (step goals.EnclosedName terminals.LeftBracket ss (n.value ∷ mark k p ∷ vs) ws (a ∷ j) ka
          (take a ka (step goals.EnclosedBracket terminals.RightBracket ss (n.value ∷ mark k p ∷ vs) ws j (take_kind x) (build (rw (type_of n.value (at i) n.operand t (mark k p ∷ vs) n.isname) x)))))

      behind : (j : List Lexeme) → Runs (Want goals.Unsigned ∷ Build makes.Cast ∷ ss) (part (at i) forms.Type t ∷ mark k p ∷ vs) j ws → Runs (Want goals.AfterEnclosedName ∷ ss) (n.value ∷ mark k p ∷ vs) j ws
      behind j x = at_kind (ahead j) refl (unsigned_starts (Build makes.Cast ∷ ss) (part (at i) forms.Type t ∷ mark k p ∷ vs) ws j x)
        where
          y : Runs (Build makes.TypeOfName ∷ Want goals.Unsigned ∷ Build makes.Cast ∷ ss) (n.value ∷ mark k p ∷ vs) j ws
          y = build (rw (type_of n.value (at i) n.operand t (mark k p ∷ vs) n.isname) x)

          at_kind : (h : Terminal) → ahead j ≡ h → starts_unsigned h ≡ true → Runs (Want goals.AfterEnclosedName ∷ ss) (n.value ∷ mark k p ∷ vs) j ws
          at_kind terminals.Identifier e z = step goals.AfterEnclosedName terminals.Identifier ss (n.value ∷ mark k p ∷ vs) ws j e y
          at_kind terminals.Literal e z = step goals.AfterEnclosedName terminals.Literal ss (n.value ∷ mark k p ∷ vs) ws j e y
          at_kind terminals.LeftParenthesis e z = step goals.AfterEnclosedName terminals.LeftParenthesis ss (n.value ∷ mark k p ∷ vs) ws j e y
          at_kind terminals.New e z = step goals.AfterEnclosedName terminals.New ss (n.value ∷ mark k p ∷ vs) ws j e y
          at_kind terminals.Super e z = step goals.AfterEnclosedName terminals.Super ss (n.value ∷ mark k p ∷ vs) ws j e y
          at_kind terminals.Old e z = step goals.AfterEnclosedName terminals.Old ss (n.value ∷ mark k p ∷ vs) ws j e y
          at_kind terminals.Complement e z = step goals.AfterEnclosedName terminals.Complement ss (n.value ∷ mark k p ∷ vs) ws j e y
          at_kind h e z = cc

      closed : (a : Lexeme) × (j : List Lexeme) × (r ≡ a ∷ j) × (terminal_of a.kind ≡ terminals.RightParenthesis) × Runs (Want goals.Unsigned ∷ Build makes.Cast ∷ ss) (part (at i) forms.Type t ∷ mark k p ∷ vs) j ws
          → Runs (Want goals.EnclosedName ∷ ss) (n.value ∷ mark k p ∷ vs) r ws
      closed (a, j, e, ka, x) = rw e (step goals.EnclosedName terminals.RightParenthesis ss (n.value ∷ mark k p ∷ vs) ws (a ∷ j) ka (take a ka (behind j x)))

      go : (h : Terminal) → ahead r ≡ h → Runs (Want goals.EnclosedName ∷ ss) (n.value ∷ mark k p ∷ vs) r ws
      go terminals.LeftBracket e = bracket (take_inv (open_at goals.Dimensions terminals.LeftBracket e d))
      go h e = closed (take_inv (open_at goals.Dimensions h e d))

pub class_claim : (i r : List Lexeme) (t : Tree) → NameClaim i t r → ReferenceClaim i t r
class_claim i r t n = record {
  type = record {
    starts = rw n.identifier refl;
    simple = λ ss vs ws h d. step goals.Type terminals.Identifier ss vs ws i n.identifier (n.typed ss vs ws (not_dot (ahead r) h) (named_tail i r t n ss vs ws h d));
    local = λ ss vs ws h d. step goals.Item terminals.Identifier ss vs ws i n.identifier (n.loop goals.ItemName ss vs ws refl h (named_local i r t n ss vs ws d));
    member = λ ss vs ws h d.
        let e : names (ahead r) ≡ true = dimensions_name (Want goals.FieldOrMethod ∷ ss) (part (at i) forms.Type t ∷ vs) ws r d in
        want (Word ∷ Want goals.MemberName ∷ []) (rw n.identifier (member_name_rule (tag vs) h))
        (n.member ss vs ws (names_tail (ahead r) e) (named_tail i r t n (Word ∷ Want goals.FieldOrMethod ∷ ss) vs ws (names_end (ahead r) e) d));
    chain = λ ss ns ws h q d. step goals.ChainArgument terminals.Identifier ss ns ws i n.identifier (n.loop goals.ChainName ss ns ws refl (plain_name ns h) (named_chain i r t n ss ns ws h q d));
  };
  cast = λ ss k p vs ws d. step goals.InParentheses terminals.Identifier ss (mark k p ∷ vs) ws i n.identifier (n.loop goals.EnclosedName ss (mark k p ∷ vs) ws refl (λ q m. refl) (named_cast i r t n ss k p vs ws d));
  tested = λ ss p f x vs ws q d nm. step goals.Tested terminals.Identifier ss (part p f x ∷ vs) ws i n.identifier (n.loop goals.TestedName ss (part p f x ∷ vs) ws refl (λ q m. refl) (nm n.value n.operand n.isname));
}
