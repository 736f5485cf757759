-- The meaning of names: locals, fields and methods; and the scopes after code.
use Rattle.std.proofs.Common.{◌≡◌, ℕ, zero, suc, Bool, true, false, List, [], ◌∷◌, ◌++◌, length, Option, Some, None, refl, sym, ap, ◌∙◌, arith}
use Rattle.std.specs.Prelude.{bytes_eq, if◌then◌else◌, option_and_then}
use Rattle.std.proofs.lemmas.List.{length-append}
use Rattle.kr_ast.specs.declared.node.UnaryOperator.{UnaryOperator}
use Rattle.kr_ast.specs.Tree as trees
use Rattle.kr_ast.specs.Tree.{Tree}
use Rattle.kr_classes_table.specs.Types.{JavaType}
use Rattle.kr_classes_table.specs.Table.{Table, Field, Method, field_named, method_named}
use Rattle.kr_classes_table.specs.Constants.{constant_only, or_else, outer_class, field_meant}
use Rattle.kr_types_meaning.specs.Scopes.{Scope, Local, Declaring, Locals, Fields, Constants, Meant, LocalName, FieldName, NoName, meant_by, class_before, static_only, method_meant, after, declaring, bind_as, written}
use Rattle.kr_types_meaning.specs.Typing.{operand, judged, type_in, type_of}
use Rattle.kr_laws_types.proofs.Loops.{running_same, operand_running}
use Rattle.kr_laws_safety.specs.Triples.{Extends, type_of_local}
use Rattle.kr_laws_safety.proofs.Heaps.{extends_self, extends_twice, one_more}
use Rattle.kr_laws_types.specs.Shapes.{Statement, IsCode}
use Rattle.kr_laws_types.specs.Expressions.{plain}
use Rattle.kr_base.specs.declared.place.Place.{Place}
use Rattle.kr_laws_safety.specs.Claims.{types_of}

-- ---- locals

pub types_long : (ls : List Local) → length (types_of ls) ≡ length ls
types_long [] = refl
types_long (l ∷ ls) = length-append (types_of ls) (l.type ∷ []) ∙ omega (arith, types_long ls)

pub last_local : (ts : List JavaType) (t : JavaType) (k : ℕ) → k ≡ length ts → type_of_local (ts ++ t ∷ []) k ≡ Some t
last_local [] t k e = ap (λ (n : ℕ). type_of_local (t ∷ []) n) e
last_local (u ∷ ts) t zero e = absurd (omega (arith, e))
last_local (u ∷ ts) t (suc k) e = last_local ts t k (omega (arith, e))

front_local : (ts us : List JavaType) (k : ℕ) (t : JavaType) → type_of_local ts k ≡ Some t → type_of_local (ts ++ us) k ≡ Some t
front_local [] us k t e = absurd (cc (e))
front_local (u ∷ ts) us zero t e = e
front_local (u ∷ ts) us (suc k) t e = front_local ts us k t e

abbrev pub IsMeant : List Local → Option Field → Meant → Type 0
IsMeant ls f (LocalName k t) = type_of_local (types_of ls) k ≡ Some t
IsMeant ls f (FieldName g) = f ≡ Some g
IsMeant ls f NoName = Unit {0}

pub meant_is : (ls : List Local) (f : Option Field) (n : List ℕ) → IsMeant ls f (meant_by ls f n)
meant_is [] None n = tt
meant_is [] (Some f) n = refl
meant_is (l ∷ ls) f n = go (bytes_eq l.name n) (meant_is ls f n)
  where
    older : (m : Meant) → IsMeant ls f m → IsMeant (l ∷ ls) f m
    older (LocalName k t) h = front_local (types_of ls) (l.type ∷ []) k t h
    older (FieldName g) h = h
    older NoName h = h

    go : (b : Bool) → IsMeant ls f (meant_by ls f n) → IsMeant (l ∷ ls) f (if b then LocalName (length ls) l.type else meant_by ls f n)
    go true h = last_local (types_of ls) l.type (length ls) (sym (types_long ls))
    go false h = older (meant_by ls f n) h

-- ---- members

-- the class or an ancestor has it, or the outer class has a constant
pub field_found : (t : Table) (c : ℕ) (n : List ℕ) (f : Field) → field_meant t c n ≡ Some f → (d : ℕ) × (field_named t d n ≡ Some f) × (f.is_static ≡ false → d ≡ c)
field_found t c n f e = go (field_named t c n) refl e
  where
    constant : (x : Option Field) → option_and_then constant_only x ≡ Some f → (x ≡ Some f) × (f.is_static ≡ true)
    constant None e = absurd (cc (e))
    constant (Some g) e = by g.is_static refl e
      where
        by : (b : Bool) → g.is_static ≡ b → (if b then Some g else None) ≡ Some f → (Some g ≡ Some f) × (f.is_static ≡ true)
        by true q e = (e, ap (λ (x : Option Field). elim x as (λ y. Bool) [ Some h ↦ h.is_static | None ↦ true ]) (sym e) ∙ q)
        by false q e = absurd (cc (e))

    outer : (o : Option ℕ) → option_and_then (λ d. option_and_then constant_only (field_named t d n)) o ≡ Some f → (d : ℕ) × (field_named t d n ≡ Some f) × (f.is_static ≡ false → d ≡ c)
    outer None e = absurd (cc (e))
    outer (Some d) e = let r = constant (field_named t d n) e in (d, r.0, λ q. absurd (cc (r.1, q)))

    go : (x : Option Field) → field_named t c n ≡ x → or_else x (option_and_then (λ d. option_and_then constant_only (field_named t d n)) (outer_class t c)) ≡ Some f → (d : ℕ) × (field_named t d n ≡ Some f) × (f.is_static ≡ false → d ≡ c)
    go (Some g) q e = (c, q ∙ e, λ z. refl)
    go None q e = outer (outer_class t c) e

pub method_found : (s : Scope) (n : List ℕ) (m : Method) → method_meant s n ≡ Some m → (d : ℕ) × (method_named s.table d n ≡ Some m) × (m.is_static ≡ false → d ≡ s.class)
method_found s n m e = go (method_named s.table s.class n) refl e
  where
    static : (x : Option Method) → option_and_then static_only x ≡ Some m → (x ≡ Some m) × (m.is_static ≡ true)
    static None e = absurd (cc (e))
    static (Some g) e = by g.is_static refl e
      where
        by : (b : Bool) → g.is_static ≡ b → (if b then Some g else None) ≡ Some m → (Some g ≡ Some m) × (m.is_static ≡ true)
        by true q e = (e, ap (λ (x : Option Method). elim x as (λ y. Bool) [ Some h ↦ h.is_static | None ↦ true ]) (sym e) ∙ q)
        by false q e = absurd (cc (e))

    outer : (o : Option ℕ) → option_and_then (λ d. option_and_then static_only (method_named s.table d n)) o ≡ Some m → (d : ℕ) × (method_named s.table d n ≡ Some m) × (m.is_static ≡ false → d ≡ s.class)
    outer None e = absurd (cc (e))
    outer (Some d) e = let r = static (method_named s.table d n) e in (d, r.0, λ q. absurd (cc (r.1, q)))

    go : (x : Option Method) → method_named s.table s.class n ≡ x → or_else x (option_and_then (λ d. option_and_then static_only (method_named s.table d n)) (outer_class s.table s.class)) ≡ Some m → (d : ℕ) × (method_named s.table d n ≡ Some m) × (m.is_static ≡ false → d ≡ s.class)
    go (Some g) q e = (s.class, q ∙ e, λ z. refl)
    go None q e = outer (outer_class s.table s.class) e

-- ---- scopes

-- loops and roles are nothing to names
pub class_plain : (s : Scope) (e : Tree) → class_before (plain s) e ≡ class_before s e
class_plain s (trees.Variable p n) = refl
class_plain s _ = refl

-- nor to types
pub type_plain : (s : Scope) (e : Tree) → type_of (plain s) e ≡ type_of s e
type_plain s e = sym (running_same (plain s) e).type ∙ (running_same s e).type

-- nor to those of operands
pub operand_plain : (s : Scope) (o : UnaryOperator) (e : Tree) → type_in (judged (operand o (plain s)) e).typed ≡ type_in (judged (operand o s) e).typed
operand_plain s o e = sym (operand_running (plain s) o e) ∙ operand_running s o e

bind_plain : (what : Declaring) (n : List ℕ) (s : Scope) → bind_as what n (plain s) ≡ plain (bind_as what n s)
bind_plain Locals n s = refl
bind_plain Fields n s = refl
bind_plain (Constants f) n s = refl

pub after_plain : (s : Scope) (t : Tree) → after (plain s) t ≡ plain (after s t)
after_plain s (trees.Cons a b) = ap (λ (x : Scope). after x b) (after_plain s a) ∙ after_plain (after s a) b
after_plain s (trees.Local p t ds) = after_plain (declaring Locals t s) ds
after_plain s (trees.Declarator p n e) = bind_plain s.declaring n s
after_plain s (trees.Parameter p t n) = refl
after_plain s (trees.Signature p r ps cs) = ap (λ (x : Scope). record x { result = written s r }) (after_plain s ps)
after_plain s _ = refl

bind_more : (what : Declaring) (n : List ℕ) (s : Scope) → Extends (types_of s.locals) (types_of (bind_as what n s).locals)
bind_more Locals n s = one_more (types_of s.locals) s.declared
bind_more Fields n s = extends_self (types_of s.locals)
bind_more (Constants f) n s = extends_self (types_of s.locals)

-- locals are only added
pub after_more : (s : Scope) (t : Tree) → Extends (types_of s.locals) (types_of (after s t).locals)
after_more s (trees.Cons a b) = extends_twice (types_of s.locals) (types_of (after s a).locals) (types_of (after (after s a) b).locals) (after_more s a) (after_more (after s a) b)
after_more s (trees.Local p t ds) = after_more (declaring Locals t s) ds
after_more s (trees.Declarator p n e) = bind_more s.declaring n s
after_more s (trees.Parameter p t n) = one_more (types_of s.locals) (written s t)
after_more s (trees.Signature p r ps cs) = after_more s ps
after_more s _ = extends_self (types_of s.locals)

-- a statement that declares nothing leaves its scope
pub after_statement : (arrays : List JavaType) (olds : Place → Option JavaType) (s u : Scope) (t : Tree) → IsCode arrays olds (Statement false) u t → after s t ≡ s
after_statement arrays olds s u (trees.Local p t ds) h = absurd (cc (h.0))
after_statement arrays olds s u (trees.Empty p) h = refl
after_statement arrays olds s u (trees.Block p ts) h = refl
after_statement arrays olds s u (trees.ExpressionStatement p e) h = refl
after_statement arrays olds s u (trees.Return p e) h = refl
after_statement arrays olds s u (trees.Break p) h = refl
after_statement arrays olds s u (trees.Continue p) h = refl
after_statement arrays olds s u (trees.IfThen p c a) h = refl
after_statement arrays olds s u (trees.IfElse p c a b) h = refl
after_statement arrays olds s u (trees.While p c a) h = refl
after_statement arrays olds s u (trees.Do p a c) h = refl
after_statement arrays olds s u (trees.For p i c v a) h = refl
after_statement arrays olds s u (trees.Throw p e) h = refl
after_statement arrays olds s u (trees.Try p b cs) h = refl
after_statement arrays olds s u _ h = absurd h
