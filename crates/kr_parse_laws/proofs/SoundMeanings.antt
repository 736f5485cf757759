-- The denotation of goals, by the values so far: the tokens that may come in their place, and the values that result.
use Rattle.std.proofs.Common.{◌≡◌, ◌⊎◌, ◌≤◌, ◌++◌, ℕ, Bool, false, if◌then◌else◌, List, [], ◌∷◌, Option, Some, None}
use Rattle.kr_base.specs.declared.place.Place.{Place}
use Rattle.kr_lex.specs.Lexemes.{Lexeme}
use Rattle.kr_lex.specs.declared.kind.Kind.{Kind}
use Rattle.kr_lex.specs.declared.kind.Kind.TheVariants as kinds
use Rattle.kr_ast.specs.Tree as trees
use Rattle.kr_ast.specs.Tree.{Tree}
use Rattle.kr_parse_grammar.specs.declared.terminal.Terminal.{Terminal}
use Rattle.kr_parse_grammar.specs.declared.terminal.Terminal.TheVariants as terminals
use Rattle.kr_parse_grammar.specs.declared.value.Form.{Form}
use Rattle.kr_parse_grammar.specs.declared.value.Form.TheVariants as forms
use Rattle.kr_parse_grammar.specs.declared.value.Modifiers.{Modifiers}
use Rattle.kr_parse_grammar.specs.declared.value.Tag.{Tag}
use Rattle.kr_parse_grammar.specs.declared.goal.Goal.{Goal}
use Rattle.kr_parse_grammar.specs.declared.goal.Goal.TheVariants as goals
use Rattle.kr_parse_grammar.specs.declared.goal.Symbol.{Symbol}
use Rattle.kr_parse_grammar.specs.declared.goal.Symbol.TheVariants.{Take, Keep, Word, Literal as Leaf, Spell, Want, Build}
use Rattle.kr_parse_grammar.specs.Values.{StackItem, mark, word, pair, part, member, owner, no_modifiers, is_name}
use Rattle.kr_parse_grammar.specs.Made.{made, literal, the_primitive}
use Rattle.kr_parse_grammar.specs.Machine.{ahead, rule, spelling}
use Rattle.kr_parse_grammar.specs.TokenMeanings.{primitive_of}
use Rattle.kr_parse_grammar.specs.Grammar as grammar
use Rattle.kr_parse_grammar.specs.Grammar.{Class, Der, Modified, Heading, at, EndsOpen, ClassName, ReferenceType, AnyType, Maybe, Many, Several}
use Rattle.kr_parse_laws.proofs.SoundKinds.{Kinds}

-- a tree is pushed on the values, and the rest continues
abbrev pub Gives : (Place → Form → Tree → List Lexeme → Type 0) → List StackItem → (List StackItem → List Lexeme → Type 0) → Type 0
Gives P vs K = (p : Place) × (f : Form) × (t : Tree) × (r : List Lexeme) × P p f t r × K (part p f t ∷ vs) r

-- from j to r there is a token of this kind, at this place
abbrev pub Token : Kind → Place → List Lexeme → List Lexeme → Type 0
Token x p j r = (a : Lexeme) × (j ≡ a ∷ r) × (a.kind ≡ x) × (p ≡ a.place)

-- from j to r there is a name
abbrev pub Named : StackItem → List Lexeme → List Lexeme → Type 0
Named (word p n) j r = (a : Lexeme) × (j ≡ a ∷ r) × (a.kind ≡ kinds.Identifier) × (p ≡ a.place) × (n ≡ a.text)
Named (pair p o n) j r =
    (a : Lexeme) × (d : Lexeme) × (b : Lexeme) × (j ≡ a ∷ d ∷ b ∷ r) × (a.kind ≡ kinds.Identifier) × (d.kind ≡ kinds.Dot) × (b.kind ≡ kinds.Identifier) × (p ≡ a.place) × (o ≡ a.text) × (n ≡ b.text)
Named _ j r = ⊥

-- a name followed by a token of this kind
abbrev pub NamedBefore : Kind → StackItem → List Lexeme → List Lexeme → Type 0
NamedBefore x v j r = (b : Lexeme) × Named v j (b ∷ r) × (b.kind ≡ x)

-- from j to r there is a primitive type
abbrev pub Primitively : Place → Tree → List Lexeme → List Lexeme → Type 0
Primitively q t j r = (a : Lexeme) × (j ≡ a ∷ r) × (primitive_of a.kind ≡ Some (the_primitive a.kind)) × (q ≡ a.place) × (t ≡ trees.PrimitiveType a.place (the_primitive a.kind))

abbrev pub place_of : StackItem → Place
place_of (word p n) = p
place_of (pair p o n) = p
place_of _ = record { file = 0; line = 0; col = 0 }

-- a name as a type
abbrev pub class_of : StackItem → Tree
class_of (word p n) = trees.NamedType p n
class_of (pair p o n) = trees.QualifiedType p o n
class_of _ = trees.Nil

-- the name as an operand
abbrev pub operand_of : StackItem → Tree
operand_of (word p n) = trees.Variable p n
operand_of (pair p o n) = trees.FieldAccess p (trees.Variable p o) n
operand_of _ = trees.Nil

-- the name of a call, before its arguments
abbrev pub call_of : StackItem → Tree → Tree
call_of (word p n) u = trees.Call p n u
call_of (pair p o n) u = trees.MethodCall p (trees.Variable p o) n u
call_of _ u = trees.Nil

-- the fact that a form states of a tree
abbrev pub IsTarget : Form → List Lexeme → Tree → List Lexeme → Type 0
IsTarget forms.Target j t r = Der (grammar.Primary forms.Target) j t r
IsTarget _ j t r = Unit {0}

abbrev pub Operand : Class → Form → List Lexeme → Tree → List Lexeme → Type 0
Operand c f j t r = Der c j t r × IsTarget f j t r

-- an operation whose own operator binds at least as tightly as a level
abbrev pub Tight : ℕ → List Lexeme → Tree → List Lexeme → Type 0
Tight n j t r = (z : ℕ) × (n ≤ z) × Der (grammar.Operation z) j t r

-- arguments in parentheses
abbrev pub Enclosed : List Lexeme → Tree → List Lexeme → Type 0
Enclosed i u r =
    (b : Lexeme) × (c : Lexeme) × (m : List Lexeme) × (i ≡ b ∷ m) × (b.kind ≡ kinds.LeftParenthesis) × Der (Maybe (Several grammar.Expression)) m u (c ∷ r) × (c.kind ≡ kinds.RightParenthesis)

-- an expression in brackets
abbrev pub Bracketed : List Lexeme → Tree → List Lexeme → Type 0
Bracketed i u r = (b : Lexeme) × (c : Lexeme) × (m : List Lexeme) × (i ≡ b ∷ m) × (b.kind ≡ kinds.LeftBracket) × Der grammar.Expression m u (c ∷ r) × (c.kind ≡ kinds.RightBracket)

-- after a statement that ends in an `if` without `else` no `else` comes
abbrev pub Apart : Tree → List Lexeme → Type 0
Apart t r = EndsOpen t → ahead r ≡ terminals.Else → ⊥

-- a class, and a name of the thrown object, or none
abbrev pub Thrown : Tree → List Lexeme → Tree → List Lexeme → Type 0
Thrown t i u r = ((u ≡ t) × (i ≡ r)) ⊎ ((n : Lexeme) × (i ≡ n ∷ r) × (n.kind ≡ kinds.Identifier) × (u ≡ trees.Parameter n.place t n.text))

-- a class with its modifiers
abbrev pub Declared : List Lexeme → Tree → List Lexeme → Type 0
Declared h t r = (m : Modifiers) × (j : List Lexeme) × Modified h m j × (m.overrides ≡ false) × Der (grammar.ClassDeclaration false) j t r

-- the first part of a constructor's body, and the rest
abbrev pub Built : List Lexeme → Tree → Tree → List Lexeme → Type 0
Built i s t r = (k : List Lexeme) × Der (Maybe grammar.ConstructorCall) i s k × Der (Many grammar.BlockStatement) k t r

abbrev pub Body : (Tree → Tree → List Lexeme → Type 0) → List StackItem → (List StackItem → List Lexeme → Type 0) → Type 0
Body P vs K = (p : Place) × (q : Place) × (f : Form) × (g : Form) × (s : Tree) × (t : Tree) × (r : List Lexeme) × P s t r × K (part q g t ∷ part p f s ∷ vs) r

-- a list continues after its first item
abbrev pub More : Class → Tree → List Lexeme → List StackItem → (List StackItem → List Lexeme → Type 0) → Type 0
More c t i vs K = Gives (λ q g u r. (j : List Lexeme) → Der c j t i → Der (Several c) j u r) vs K

-- a local or a statement, as the form says
abbrev pub ItemOf : Form → List Lexeme → Tree → List Lexeme → Type 0
ItemOf forms.Local i t r = Der grammar.Local i t r
ItemOf _ i t r = Der grammar.Evaluated i t r

abbrev pub Initials : Form → List Lexeme → Tree → List Lexeme → Tree → List Lexeme → Type 0
Initials forms.Local j t i u r = Der grammar.Local j t i → Der grammar.ForInitial j u r
Initials _ j t i u r = Der grammar.Evaluated j t i → Der (Several grammar.Evaluated) j u r

-- a type that may become the element of arrays
abbrev pub Dimensioned : Place → Tree → List Lexeme → Tree → List Lexeme → Type 0
Dimensioned p t i u r = ((j : List Lexeme) → p ≡ at j → Der AnyType j t i → Der AnyType j u r) × ((j : List Lexeme) → p ≡ at j → Der ReferenceType j t i → Der ReferenceType j u r)

-- a type that begins with a name
abbrev pub TypeFrom : StackItem → List Lexeme → List StackItem → (List StackItem → List Lexeme → Type 0) → Type 0
TypeFrom v i vs K = Gives (λ q f t r. (q ≡ place_of v) × ((j : List Lexeme) → Named v j i → Der AnyType j t r)) vs K

-- a creation after `new` and R
abbrev pub Creates : Place → (List Lexeme → Type 0) → List StackItem → (List StackItem → List Lexeme → Type 0) → Type 0
Creates p R vs K = Gives (λ q f t r. (q ≡ p) × ((h j : List Lexeme) → Token kinds.New p h j → R j → Der (grammar.Primary f) h t r)) vs K

-- an operand after `(` and R
abbrev pub Encloses : Place → (List Lexeme → Type 0) → List StackItem → (List StackItem → List Lexeme → Type 0) → Type 0
Encloses p R vs K = Gives (λ q f t r. (q ≡ p) × ((h j : List Lexeme) → Token kinds.LeftParenthesis p h j → R j → Operand grammar.Unsigned f h t r)) vs K

-- a comparison or a test after H
abbrev pub Compares : (List Lexeme → Type 0) → Place → List StackItem → (List StackItem → List Lexeme → Type 0) → Type 0
Compares H q vs K = (t : Tree) × (r : List Lexeme) × ((j : List Lexeme) → H j → Der (grammar.Operation 7) j t r) × K (part q forms.Other t ∷ vs) r

-- From j to i, before the next item of a chain: names, each followed by `<`, and below them an operand that is tested,
-- or nothing.
abbrev pub Before : List StackItem → List Lexeme → List Lexeme → Type 0
Before (word p n ∷ us) j i = (m : List Lexeme) × Before us j m × NamedBefore kinds.Less (word p n) m i
Before (pair p o n ∷ us) j i = (m : List Lexeme) × Before us j m × NamedBefore kinds.Less (pair p o n) m i
Before (part q f x ∷ us) j i = (y : ℕ) × (a : Lexeme) × Der (grammar.Operation y) j x (a ∷ i) × (7 ≤ y) × (q ≡ at j) × (a.kind ≡ kinds.Instanceof)
Before us j i = j ≡ i

-- the result of a chain from j on, given H: a type instead of its names, or a comparison
abbrev pub Chained : List StackItem → (List Lexeme → Type 0) → (List StackItem → List Lexeme → Type 0) → Type 0
Chained (word p n ∷ us) H K = Chained us H K
Chained (pair p o n ∷ us) H K = Chained us H K
Chained (part q f x ∷ us) H K =
    ((p : Place) × (t : Tree) × (r : List Lexeme) × ((j : List Lexeme) → H j → (m : List Lexeme) × Before (part q f x ∷ us) j m × Der ReferenceType m t r) × K (part p forms.Type t ∷ part q f x ∷ us) r)
    ⊎ Compares H q us K
Chained us H K =
    ((p : Place) × (t : Tree) × (r : List Lexeme) × ((j : List Lexeme) → H j → Der ReferenceType j t r) × K (part p forms.Type t ∷ us) r)
    ⊎ ((p : Place) × (t : Tree) × (r : List Lexeme) × ((j : List Lexeme) → H j → (p ≡ at j) × Der (grammar.Operation 7) j t r) × K (part p forms.Other t ∷ us) r)

-- a chain has a name below
abbrev pub Behind : List StackItem → Type 0 → Type 0
Behind (word p n ∷ us) X = X
Behind (pair p o n ∷ us) X = X
Behind _ X = Unit {0}

-- an argument, or a type by itself
abbrev pub argument : List StackItem → Class
argument us = if is_name us then AnyType else ReferenceType

-- the name at the end of a chain
abbrev pub Ending : StackItem → List StackItem → List Lexeme → List Lexeme → Type 0
Ending v us i j = (m : List Lexeme) × Before us j m × Named v m i

-- an ending followed by a token
abbrev pub EndingBefore : Kind → StackItem → List StackItem → List Lexeme → List Lexeme → Type 0
EndingBefore x v us i j = (m : List Lexeme) × Before us j m × NamedBefore x v m i

abbrev pub Meaning : Goal → List StackItem → List Lexeme → (List StackItem → List Lexeme → Type 0) → Type 0
Meaning goals.File vs i K = Gives (λ p f t r. (j : List Lexeme) × Heading i j × Der grammar.Classes j t r) vs K
Meaning goals.Dotted vs i K = (r : List Lexeme) × grammar.Dotted i r × K vs r
Meaning goals.Imports vs i K = Gives (λ p f t r. (j : List Lexeme) × grammar.Imports i j × Der grammar.Classes j t r) vs K
Meaning goals.Imported vs i K = (a : Lexeme) × (r : List Lexeme) × (i ≡ a ∷ r) × grammar.Imported a.kind × K vs r
Meaning goals.Classes vs i K = Gives (λ p f t r. Der grammar.Classes i t r) vs K
Meaning goals.ClassAhead vs i K = Gives (λ p f t r. (h : List Lexeme) (m : Modifiers) → Modified h m i → m.overrides ≡ false → Declared h t r) vs K
Meaning goals.Extended vs i K = Gives (λ p f t r. Der grammar.Extended i t r) vs K
Meaning goals.ClassTail (word p n ∷ vs) i K = Gives (λ q f t r. (j : List Lexeme) → Named (word p n) j i → Der ClassName j t r) vs K
Meaning goals.Members (member b m ∷ owner c p n ∷ vs) i K =
    (q : Place) × (f : Form) × (t : Tree) × (r : List Lexeme) × (m ≡ no_modifiers → b ≡ c → Der (grammar.Members n c) i t r) × K (owner c p n ∷ part q f t ∷ vs) r
Meaning goals.Member (member b m ∷ owner c p n ∷ vs) i K = Gives (λ q f t r. (h : List Lexeme) → Modified h m i → Der (grammar.Member n b) h t r) (owner c p n ∷ vs) K
Meaning goals.MemberName (word p n ∷ member b m ∷ owner c q o ∷ vs) i K =
    Gives (λ w f t r. (h j : List Lexeme) → Modified h m j → m.overrides ≡ false → Named (word p n) j i → Der (grammar.Member o b) h t r) (owner c q o ∷ vs) K
Meaning goals.Contracts vs i K = Gives (λ p f t r. Der (Many grammar.Contract) i t r) vs K
Meaning goals.Contract (mark x p ∷ vs) i K = Gives (λ q f t r. (j : List Lexeme) → Token kinds.Contract p j i → Der grammar.Contract j t r) vs K
Meaning goals.ThrownName (part p f t ∷ vs) i K = Gives (λ q g u r. Thrown t i u r) vs K
Meaning goals.MethodAhead (member b m ∷ part e g v ∷ vs) i K =
    Gives (λ q f t r. (o : List ℕ) (x : Bool) (c h : List Lexeme) → Der (Many grammar.Contract) c v h → Modified h m i → Der (grammar.Member o x) c t r) vs K
Meaning goals.ContractedMethod (word p n ∷ part q f t ∷ member b m ∷ part d e v ∷ vs) i K =
    Gives (λ w g u r. (o : List ℕ) (x : Bool) (c h j l : List Lexeme) → Der (Many grammar.Contract) c v h → Modified h m j → Der grammar.ResultType j t l → Named (word p n) l i → Der (grammar.Member o x) c u r) vs K
Meaning goals.Method (word p n ∷ part q f t ∷ member b m ∷ vs) i K =
    Gives (λ w g u r. (o : List ℕ) (x : Bool) (h j l : List Lexeme) → Modified h m j → Der grammar.ResultType j t l → Named (word p n) l i → Der (grammar.Member o x) h u r) vs K
Meaning goals.FieldOrMethod (word p n ∷ part q f t ∷ member b m ∷ vs) i K =
    Gives (λ w g u r. (o : List ℕ) (x : Bool) (h j l : List Lexeme) → Modified h m j → m.overrides ≡ false → q ≡ at j → Der AnyType j t l → Named (word p n) l i → Der (grammar.Member o x) h u r) vs K
Meaning goals.Parameters vs i K = Gives (λ p f t r. Der (Maybe (Several grammar.Parameter)) i t r) vs K
Meaning goals.Parameter vs i K = Gives (λ p f t r. Der grammar.Parameter i t r) vs K
Meaning goals.MoreParameters (part p f t ∷ vs) i K = More grammar.Parameter t i vs K
Meaning goals.ConstructorBody vs i K = Body (λ s t r. Built i s t r) vs K
Meaning goals.AfterSuper (mark x p ∷ vs) i K = Body (λ s t r. (j : List Lexeme) → Token kinds.Super p j i → Built j s t r) vs K
Meaning goals.Type vs i K = Gives (λ p f t r. (p ≡ at i) × Der AnyType i t r) vs K
Meaning goals.TypeName (word p n ∷ vs) i K = TypeFrom (word p n) i vs K
Meaning goals.TypeTail (word p n ∷ vs) i K = TypeFrom (word p n) i vs K
Meaning goals.TypeTail (pair p o n ∷ vs) i K = TypeFrom (pair p o n) i vs K
Meaning goals.Dimensions (part p f t ∷ vs) i K = Gives (λ q g u r. (q ≡ p) × Dimensioned p t i u r) vs K
Meaning goals.Initialiser vs i K = Gives (λ w f t r. (p : Place) (n : List ℕ) (j : List Lexeme) → Named (word p n) j i → Der grammar.Declarator j (trees.Declarator p n t) r) vs K
Meaning goals.MoreDeclarators (part p f t ∷ vs) i K = More grammar.Declarator t i vs K
Meaning goals.AfterLocalName (word p n ∷ part q f t ∷ vs) i K =
    (u : Tree) × (r : List Lexeme) × ((j : List Lexeme) → Named (word p n) j i → Der (Several grammar.Declarator) j u r) × K (part q forms.Local (trees.Local q t u) ∷ vs) r
Meaning goals.Statements vs i K = Gives (λ p f t r. Der (Many grammar.BlockStatement) i t r) vs K
Meaning goals.BlockStatement vs i K = Gives (λ p f t r. Der grammar.BlockStatement i t r) vs K
Meaning goals.Item vs i K = Gives (λ p f t r. ItemOf f i t r) vs K
Meaning goals.ItemName (word p n ∷ vs) i K = Gives (λ q f t r. (j : List Lexeme) → Named (word p n) j i → ItemOf f j t r) vs K
Meaning goals.ItemName (pair p o n ∷ vs) i K = Gives (λ q f t r. (j : List Lexeme) → Named (pair p o n) j i → ItemOf f j t r) vs K
Meaning goals.ItemBracket (word p n ∷ vs) i K = Gives (λ q f t r. (j : List Lexeme) → NamedBefore kinds.LeftBracket (word p n) j i → ItemOf f j t r) vs K
Meaning goals.ItemBracket (pair p o n ∷ vs) i K = Gives (λ q f t r. (j : List Lexeme) → NamedBefore kinds.LeftBracket (pair p o n) j i → ItemOf f j t r) vs K
Meaning goals.Statement vs i K = Gives (λ p f t r. Der grammar.Statement i t r × Apart t r) vs K
Meaning goals.OptionalExpression vs i K = Gives (λ p f t r. Der (Maybe grammar.Expression) i t r) vs K
Meaning goals.ElsePart (part b g s ∷ part a e c ∷ mark x p ∷ vs) i K =
    Gives
    (λ q f t r. ((h j m : List Lexeme) (l d : Lexeme) → Token kinds.If p h (l ∷ j) → l.kind ≡ kinds.LeftParenthesis → Der grammar.Expression j c (d ∷ m) → d.kind ≡ kinds.RightParenthesis → Der grammar.Statement m s i → Apart s i → Der grammar.Statement h t r)
    × Apart t r)
    vs K
Meaning goals.Catch vs i K = Gives (λ p f t r. Der grammar.Catch i t r) vs K
Meaning goals.Catches vs i K = Gives (λ p f t r. Der (Many grammar.Catch) i t r) vs K
Meaning goals.CaughtParameter vs i K = Gives (λ p f t r. Der grammar.Caught i t r) vs K
Meaning goals.ForInitial vs i K = Gives (λ p f t r. Der (Maybe grammar.ForInitial) i t r) vs K
Meaning goals.MoreInitial (part p f t ∷ vs) i K = Gives (λ q g u r. (j : List Lexeme) → Initials f j t i u r) vs K
Meaning goals.ForUpdates vs i K = Gives (λ p f t r. Der (Maybe (Several grammar.StatementExpression)) i t r) vs K
Meaning goals.MoreUpdates (part p f t ∷ vs) i K = More grammar.StatementExpression t i vs K
Meaning goals.StatementExpression vs i K = Gives (λ p f t r. (p ≡ at i) × Der grammar.StatementExpression i t r) vs K
Meaning goals.AfterStatementPrimary (part p f t ∷ vs) i K =
    Gives (λ q g u r. (q ≡ p) × ((j : List Lexeme) → p ≡ at j → Der (grammar.Primary f) j t i → Der grammar.StatementExpression j u r)) vs K
Meaning goals.Primary vs i K = Gives (λ p f t r. (p ≡ at i) × Der (grammar.Primary f) i t r) vs K
Meaning goals.PrimaryName (word p n ∷ vs) i K = Gives (λ q f t r. (q ≡ p) × ((j : List Lexeme) → Named (word p n) j i → Der (grammar.Primary f) j t r)) vs K
Meaning goals.Creator (mark x p ∷ vs) i K = Creates p (λ j. j ≡ i) vs K
Meaning goals.CreatorName (word q n ∷ mark x p ∷ vs) i K = Creates p (λ j. Named (word q n) j i) vs K
Meaning goals.CreatorName (pair q o n ∷ mark x p ∷ vs) i K = Creates p (λ j. Named (pair q o n) j i) vs K
Meaning goals.CreatorArgument (word q n ∷ mark x p ∷ vs) i K = Creates p (λ j. NamedBefore kinds.Less (word q n) j i) vs K
Meaning goals.CreatorArgument (pair q o n ∷ mark x p ∷ vs) i K = Creates p (λ j. NamedBefore kinds.Less (pair q o n) j i) vs K
Meaning goals.ObjectCreation (part q f t ∷ mark x p ∷ vs) i K = (u : Tree) × (r : List Lexeme) × Enclosed i u r × K (part p forms.Invocation (trees.ObjectCreation p t u) ∷ vs) r
Meaning goals.ArrayLength (part q f t ∷ mark x p ∷ vs) i K = (u : Tree) × (r : List Lexeme) × Bracketed i u r × K (part p forms.ArrayCreation (trees.ArrayCreation p t u) ∷ vs) r
Meaning goals.Suffixes (part p f t ∷ vs) i K = Gives (λ q g u r. (q ≡ p) × ((j : List Lexeme) → p ≡ at j → Der (grammar.Primary f) j t i → Der (grammar.Primary g) j u r)) vs K
Meaning goals.Selected (word w n ∷ part p f t ∷ vs) i K =
    Gives (λ q g u r. (q ≡ p) × ((j m : List Lexeme) (a : Lexeme) → p ≡ at j → Der (grammar.Primary f) j t (a ∷ m) → a.kind ≡ kinds.Dot → Named (word w n) m i → Der (grammar.Primary g) j u r)) vs K
Meaning goals.Arguments vs i K = Gives (λ p f t r. Der (Maybe (Several grammar.Expression)) i t r) vs K
Meaning goals.MoreArguments (part p f t ∷ vs) i K = More grammar.Expression t i vs K
Meaning goals.Expression vs i K = Gives (λ p f t r. (p ≡ at i) × Der grammar.Expression i t r) vs K
Meaning goals.AfterUnary (part p f t ∷ vs) i K = Gives (λ q g u r. (q ≡ p) × ((j : List Lexeme) → p ≡ at j → Operand grammar.Unary f j t i → Der grammar.Expression j u r)) vs K
Meaning goals.AfterOperation (part p f t ∷ vs) i K =
    Gives (λ q g u r. (q ≡ p) × ((j : List Lexeme) (x : ℕ) → p ≡ at j → Der (grammar.Operation x) j t i → Der grammar.Conditional j u r)) vs K
Meaning goals.Conditional vs i K = Gives (λ p f t r. (p ≡ at i) × Der grammar.Conditional i t r) vs K
Meaning goals.Unary vs i K = Gives (λ p f t r. (p ≡ at i) × Operand grammar.Unary f i t r) vs K
Meaning goals.Unsigned vs i K = Gives (λ p f t r. (p ≡ at i) × Operand grammar.Unsigned f i t r) vs K
Meaning goals.Postfixes (part p f t ∷ vs) i K = Gives (λ q g u r. (q ≡ p) × ((j : List Lexeme) → p ≡ at j → Operand grammar.Postfix f j t i → Operand grammar.Postfix g j u r)) vs K
Meaning (goals.Operators n x) (part p f t ∷ vs) i K =
    Gives (λ q g u r. (q ≡ p) × ((j : List Lexeme) (y : ℕ) → p ≡ at j → x ≤ y → n ≤ y → Der (grammar.Operation y) j t i → Tight n j u r)) vs K
Meaning goals.InParentheses (mark x p ∷ vs) i K = Encloses p (λ j. j ≡ i) vs K
Meaning goals.PrimitiveCast (part q f t ∷ mark x p ∷ vs) i K = Encloses p (λ j. Primitively q t j i) vs K
Meaning goals.EnclosedName (word q n ∷ mark x p ∷ vs) i K = Encloses p (λ j. Named (word q n) j i) vs K
Meaning goals.EnclosedName (pair q o n ∷ mark x p ∷ vs) i K = Encloses p (λ j. Named (pair q o n) j i) vs K
Meaning goals.EnclosedBracket (word q n ∷ mark x p ∷ vs) i K = Encloses p (λ j. NamedBefore kinds.LeftBracket (word q n) j i) vs K
Meaning goals.EnclosedBracket (pair q o n ∷ mark x p ∷ vs) i K = Encloses p (λ j. NamedBefore kinds.LeftBracket (pair q o n) j i) vs K
Meaning goals.EnclosedPrimary (part q f t ∷ mark x p ∷ vs) i K = Encloses p (λ j. (q ≡ at j) × Der (grammar.Primary f) j t i) vs K
Meaning goals.Closing (part q f t ∷ mark x p ∷ vs) i K = Encloses p (λ j. Der grammar.Expression j t i) vs K
Meaning goals.AfterEnclosedName (word q n ∷ mark x p ∷ vs) i K = Encloses p (λ j. NamedBefore kinds.RightParenthesis (word q n) j i) vs K
Meaning goals.AfterEnclosedName (pair q o n ∷ mark x p ∷ vs) i K = Encloses p (λ j. NamedBefore kinds.RightParenthesis (pair q o n) j i) vs K
Meaning goals.AfterChain (part q forms.Type t ∷ mark x p ∷ vs) i K = Encloses p (λ j. Der ReferenceType j t i) vs K
Meaning goals.AfterChain (part q forms.Other t ∷ mark x p ∷ vs) i K = Encloses p (λ j. (q ≡ at j) × Der (grammar.Operation 7) j t i) vs K
Meaning goals.ChainArgument us i K = Behind us (Chained us (λ j. Before us j i) K)
Meaning goals.ChainName (word p n ∷ us) i K = Behind us (Chained us (λ j. Ending (word p n) us i j) K)
Meaning goals.ChainName (pair p o n ∷ us) i K = Behind us (Chained us (λ j. Ending (pair p o n) us i j) K)
Meaning goals.ChainBracket (word p n ∷ us) i K = Behind us (Chained us (λ j. EndingBefore kinds.LeftBracket (word p n) us i j) K)
Meaning goals.ChainBracket (pair p o n ∷ us) i K = Behind us (Chained us (λ j. EndingBefore kinds.LeftBracket (pair p o n) us i j) K)
Meaning goals.ChainPrimary (part q f t ∷ part p g x ∷ vs) i K =
    (u : Tree) × (r : List Lexeme) × ((j m : List Lexeme) (b : Lexeme) → p ≡ at j → Tight 7 j x (b ∷ m) → b.kind ≡ kinds.Less → q ≡ at m → Der (grammar.Primary f) m t i → Der (grammar.Operation 7) j u r) × K (part p forms.Other u ∷ vs) r
Meaning goals.ChainGreater (word p n ∷ us) i K = Behind us (Chained us (λ j. EndingBefore kinds.Greater (word p n) us i j) K)
Meaning goals.ChainGreater (pair p o n ∷ us) i K = Behind us (Chained us (λ j. EndingBefore kinds.Greater (pair p o n) us i j) K)
Meaning goals.ChainClosing (part p forms.Type t ∷ us) i K = Chained us (λ j. (m : List Lexeme) × Before us j m × (p ≡ at m) × Der (argument us) m t i) K
Meaning goals.Tested (part q f x ∷ vs) i K = Compares (λ j. Before (part q f x ∷ vs) j i) q vs K
Meaning goals.TestedName (word p n ∷ part q f x ∷ vs) i K = Compares (λ j. Ending (word p n) (part q f x ∷ vs) i j) q vs K
Meaning goals.TestedName (pair p o n ∷ part q f x ∷ vs) i K = Compares (λ j. Ending (pair p o n) (part q f x ∷ vs) i j) q vs K
Meaning goals.AfterTested (part p forms.Type t ∷ part q f x ∷ vs) i K = K (part q forms.Other (trees.InstanceOf q x t) ∷ vs) i
Meaning goals.AfterTested (part p forms.Other t ∷ vs) i K = K (part p forms.Other t ∷ vs) i
Meaning _ _ i K = Unit {0}

-- the denotation of symbols
abbrev pub Den : List Symbol → List StackItem → List Lexeme → List StackItem → Type 0
Den [] vs i ws = (i ≡ []) × (vs ≡ ws)
Den (Take k ∷ ss) vs i ws = (a : Lexeme) × (j : List Lexeme) × (i ≡ a ∷ j) × Kinds k a.kind × Den ss vs j ws
Den (Keep k ∷ ss) vs i ws = (a : Lexeme) × (j : List Lexeme) × (i ≡ a ∷ j) × Kinds k a.kind × Den ss (mark a.kind a.place ∷ vs) j ws
Den (Word ∷ ss) vs i ws = (a : Lexeme) × (j : List Lexeme) × (i ≡ a ∷ j) × (a.kind ≡ kinds.Identifier) × Den ss (word a.place a.text ∷ vs) j ws
Den (Leaf ∷ ss) vs i ws =
    (a : Lexeme) × (j : List Lexeme) × (i ≡ a ∷ j) × Der (grammar.Primary forms.Other) (a ∷ j) (literal a) j × Den ss (part a.place forms.Other (literal a) ∷ vs) j ws
Den (Spell s ∷ ss) vs i ws = (a : Lexeme) × (j : List Lexeme) × (i ≡ a ∷ j) × (a.kind ≡ kinds.Identifier) × (a.text ≡ spelling s) × Den ss vs j ws
Den (Want g ∷ ss) vs i ws = Meaning g vs i (λ us r. Den ss us r ws)
Den (Build m ∷ ss) vs i ws = Den ss (made m vs) i ws

abbrev pub DenOf : Option (List Symbol) → List Symbol → List StackItem → List Lexeme → List StackItem → Type 0
DenOf None ss vs i ws = ⊥
DenOf (Some body) ss vs i ws = Den (body ++ ss) vs i ws

-- the symbols continue
abbrev pub Goes : List Symbol → List StackItem → List StackItem → List Lexeme → Type 0
Goes ss ws vs i = Den ss vs i ws

-- a goal's rule denotes what the goal denotes
abbrev pub Holds : Goal → Terminal → Tag → List StackItem → Type 0
Holds g k q vs = (ss : List Symbol) (i : List Lexeme) (ws : List StackItem) → DenOf (rule g k q) ss vs i ws → Den (Want g ∷ ss) vs i ws
