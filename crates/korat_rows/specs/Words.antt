-- Between crates: short words for trees and problems, so that a row reads like its source: Java's operators with a prime, and a
-- word for each other kind of node. Nodes have no place, except an `\old`, whose value goes by its place.
use Prim.Native.String.{String as Text}
use Rattle.std.specs.Prelude.{ℕ, pos, Bool, true, false, List, [], ◌∷◌, map, codes}
use Rattle.kr_base.specs.declared.entry.Entry.{Entry}
use Rattle.kr_base.specs.Entries.{is_valid, is_spent}
use Rattle.kr_ast.specs.declared.node.Primitive.TheVariants.{Int as IntWord, Long as LongWord, Boolean, Void}
use Rattle.kr_ast.specs.declared.node.BinaryOperator.{BinaryOperator}
use Rattle.kr_ast.specs.declared.node.BinaryOperator.TheVariants.{Add, Subtract, Multiply, Divide, Less, Greater, Equal, NotEqual, And, Or}
use Rattle.kr_ast.specs.declared.node.UnaryOperator.{UnaryOperator}
use Rattle.kr_ast.specs.declared.node.StepOperator.{StepOperator}
use Rattle.kr_ast.specs.declared.node.StepOperator.TheVariants.{IncrementBehind}
use Rattle.kr_ast.specs.Tree as trees
use Rattle.kr_ast.specs.Tree.{Tree, Nil}
use Rattle.kr_value.specs.declared.value.Value.TheVariants.{Int}
use Rattle.kr_value.specs.declared.object.Class.TheVariants.{Object, Array}
use Rattle.kr_mean.specs.declared.mode.Mode.TheVariants.{List as Listing, Method as Testing}
use Rattle.kr_mean.specs.declared.row.Row.{Row}
use Rattle.kr_mean.specs.Program.{program_of}
use Rattle.kr_mean.specs.Problem.{Problem, ClassDomain, Domain, Spotted, Plain}
use Rattle.kr_base.specs.Places.{nowhere}
use Rattle.kr_mean.specs.Entries.{all_entries}
use Rattle.kr_types_meaning.specs.Texts.{list_of}

-- parts that may be left out, and are
abbrev pub absent : Tree
absent = Nil

-- ---- types

abbrev pub int : Tree
int = trees.PrimitiveType nowhere IntWord

abbrev pub long : Tree
long = trees.PrimitiveType nowhere LongWord

abbrev pub boolean : Tree
boolean = trees.PrimitiveType nowhere Boolean

abbrev pub void : Tree
void = trees.PrimitiveType nowhere Void

abbrev pub named : Text → Tree
named n = trees.NamedType nowhere (codes n)

abbrev pub hash_set : Tree → Tree
hash_set t = trees.GenericType nowhere (named "HashSet") t

abbrev pub linked_list : Tree → Tree
linked_list t = trees.GenericType nowhere (named "LinkedList") t

-- ---- expressions

abbrev pub number : ℕ → Tree
number n = trees.Number nowhere n

abbrev pub long_number : ℕ → Tree
long_number n = trees.LongNumber nowhere n

abbrev pub yes : Tree
yes = trees.Truth nowhere true

abbrev pub no : Tree
no = trees.Truth nowhere false

abbrev pub null : Tree
null = trees.Null nowhere

abbrev pub this : Tree
this = trees.This nowhere

abbrev pub name : Text → Tree
name n = trees.Variable nowhere (codes n)

-- `e.f`, `a[i]`
infixl 95 ◌dot◌ ◌at◌
abbrev pub ◌dot◌ : Tree → Text → Tree
e dot n = trees.FieldAccess nowhere e (codes n)

abbrev pub ◌at◌ : Tree → Tree → Tree
a at i = trees.ArrayAccess nowhere a i

-- `m(..)`, `e.m(..)`, `super.m(..)`
abbrev pub call : Text → List Tree → Tree
call n es = trees.Call nowhere (codes n) (list_of es)

abbrev pub call_on : Tree → Text → List Tree → Tree
call_on e n es = trees.MethodCall nowhere e (codes n) (list_of es)

abbrev pub super_call : Text → List Tree → Tree
super_call n es = trees.SuperCall nowhere (codes n) (list_of es)

-- `new T(..)`, `new T[e]`
abbrev pub new : Tree → List Tree → Tree
new t es = trees.ObjectCreation nowhere t (list_of es)

abbrev pub new_array : Tree → Tree → Tree
new_array t e = trees.ArrayCreation nowhere t e

abbrev pub unary : UnaryOperator → Tree → Tree
unary o e = trees.Unary nowhere o e

abbrev pub step : StepOperator → Tree → Tree
step o e = trees.Step nowhere o e

abbrev pub binary : BinaryOperator → Tree → Tree → Tree
binary o a b = trees.Binary nowhere o a b

infixl 90 ◌*'◌ ◌/'◌
infixl 88 ◌+'◌ ◌-'◌
infixl 84 ◌<'◌ ◌>'◌ ◌instance_of◌
infixl 82 ◌=='◌ ◌!='◌
infixl 78 ◌&&'◌
infixl 76 ◌||'◌
infix 74 ◌becomes◌
abbrev pub ◌*'◌ : Tree → Tree → Tree
a *' b = binary Multiply a b

abbrev pub ◌/'◌ : Tree → Tree → Tree
a /' b = binary Divide a b

abbrev pub ◌+'◌ : Tree → Tree → Tree
a +' b = binary Add a b

abbrev pub ◌-'◌ : Tree → Tree → Tree
a -' b = binary Subtract a b

abbrev pub ◌<'◌ : Tree → Tree → Tree
a <' b = binary Less a b

abbrev pub ◌>'◌ : Tree → Tree → Tree
a >' b = binary Greater a b

abbrev pub ◌instance_of◌ : Tree → Tree → Tree
e instance_of t = trees.InstanceOf nowhere e t

abbrev pub ◌=='◌ : Tree → Tree → Tree
a ==' b = binary Equal a b

abbrev pub ◌!='◌ : Tree → Tree → Tree
a !=' b = binary NotEqual a b

abbrev pub ◌&&'◌ : Tree → Tree → Tree
a &&' b = binary And a b

abbrev pub ◌||'◌ : Tree → Tree → Tree
a ||' b = binary Or a b

-- `a = e`, `a += e`
abbrev pub ◌becomes◌ : Tree → Tree → Tree
a becomes e = trees.Assignment nowhere a e

abbrev pub compound : BinaryOperator → Tree → Tree → Tree
compound o a e = trees.CompoundAssignment nowhere o a e

abbrev pub conditional : Tree → Tree → Tree → Tree
conditional c a b = trees.Conditional nowhere c a b

abbrev pub cast : Tree → Tree → Tree
cast t e = trees.Cast nowhere t e

-- `\result`, and an `\old` at a column of its own
abbrev pub result : Tree
result = trees.Result nowhere

abbrev pub old_at : ℕ → Tree → Tree
old_at column e = trees.Old (record { file = 0; line = 1; col = column }) e

-- ---- statements

abbrev pub empty : Tree
empty = trees.Empty nowhere

abbrev pub block : List Tree → Tree
block ts = trees.Block nowhere (list_of ts)

abbrev pub declared : Text → Tree → Tree
declared n e = trees.Declarator nowhere (codes n) e

-- one local, and more of one type
abbrev pub local : Tree → Text → Tree → Tree
local t n e = trees.Local nowhere t (list_of (declared n e ∷ []))

abbrev pub locals : Tree → List Tree → Tree
locals t ds = trees.Local nowhere t (list_of ds)

abbrev pub evaluate : Tree → Tree
evaluate e = trees.ExpressionStatement nowhere e

abbrev pub assign : Tree → Tree → Tree
assign a e = evaluate (a becomes e)

-- `e++;`
abbrev pub increment : Tree → Tree
increment e = evaluate (step IncrementBehind e)

abbrev pub return : Tree → Tree
return e = trees.Return nowhere e

abbrev pub break : Tree
break = trees.Break nowhere

abbrev pub continue : Tree
continue = trees.Continue nowhere

abbrev pub if_then : Tree → Tree → Tree
if_then c a = trees.IfThen nowhere c a

abbrev pub if_else : Tree → Tree → Tree → Tree
if_else c a b = trees.IfElse nowhere c a b

abbrev pub while : Tree → Tree → Tree
while c a = trees.While nowhere c a

abbrev pub do_while : Tree → Tree → Tree
do_while a c = trees.Do nowhere a c

-- initial statements, condition, updates, body
abbrev pub for : List Tree → Tree → List Tree → Tree → Tree
for i c u a = trees.For nowhere (list_of i) c (list_of u) a

abbrev pub throw : Tree → Tree
throw e = trees.Throw nowhere e

-- `catch (T n) { .. }`
abbrev pub catch : Tree → Text → List Tree → Tree
catch t n ts = trees.Catch nowhere (trees.Parameter nowhere t (codes n)) (block ts)

-- `try { .. }`, catches
abbrev pub try : List Tree → List Tree → Tree
try ts cs = trees.Try nowhere (block ts) (list_of cs)

-- ---- members and classes

abbrev pub field_with : Tree → Text → Tree → Tree
field_with t n e = trees.Field nowhere false false t (list_of (declared n e ∷ []))

abbrev pub field : Tree → Text → Tree
field t n = field_with t n absent

-- `static final`
abbrev pub constant : Tree → Text → Tree → Tree
constant t n e = trees.Field nowhere true true t (list_of (declared n e ∷ []))

abbrev pub parameter : Tree → Text → Tree
parameter t n = trees.Parameter nowhere t (codes n)

abbrev pub requires : Tree → Tree
requires e = trees.Requires nowhere e

abbrev pub ensures : Tree → Tree
ensures e = trees.Ensures nowhere e

-- `signals (T) e`, `signals (T n) e`
abbrev pub signals : Tree → Tree → Tree
signals t e = trees.Signals nowhere t e

abbrev pub named_signals : Tree → Text → Tree → Tree
named_signals t n e = trees.Signals nowhere (trees.Parameter nowhere t (codes n)) e

-- result, name, parameters, contract, body
abbrev pub contracted : Tree → Text → List Tree → List Tree → List Tree → Tree
contracted t n ps cs ts =
    trees.Method nowhere false (codes n) (trees.Signature nowhere t (list_of ps) (list_of cs)) (list_of ts)

abbrev pub method : Tree → Text → List Tree → List Tree → Tree
method t n ps ts = contracted t n ps [] ts

abbrev pub static_method : Tree → Text → List Tree → List Tree → Tree
static_method t n ps ts =
    trees.Method nowhere true (codes n) (trees.Signature nowhere t (list_of ps) absent) (list_of ts)

abbrev pub rep_ok : List Tree → Tree
rep_ok ts = method boolean "repOk" [] ts

-- parameters and statements; the second one begins with `super(..);`
abbrev pub constructor : List Tree → List Tree → Tree
constructor ps ts = trees.Constructor nowhere (list_of ps) absent (list_of ts)

abbrev pub constructor_after : List Tree → List Tree → List Tree → Tree
constructor_after es ps ts =
    trees.Constructor nowhere (list_of ps) (trees.ConstructorCall nowhere (list_of es)) (list_of ts)

abbrev pub class : Text → List Tree → Tree
class n ms = trees.Class nowhere (codes n) absent (list_of ms)

-- a class that extends another
abbrev pub class_below : Text → Text → List Tree → Tree
class_below n super ms = trees.Class nowhere (codes n) (named super) (list_of ms)

-- ---- problems

abbrev pub ints : List ℕ → Domain
ints ns = map (λ n. Plain (Int (pos n))) ns

-- so many objects of a class by its number
abbrev pub objects : Text → ℕ → ℕ → List Spotted → ClassDomain
objects n c count spots = record { name = codes n; class = Object c; count = count; spots = spots }

-- arrays of the first array type
abbrev pub arrays_named : Text → ℕ → List Spotted → ClassDomain
arrays_named n count spots = record { name = codes n; class = Array 0; count = count; spots = spots }

-- the classes of a file, the first class domain the root's
abbrev pub listed : List Tree → List ClassDomain → ℕ → Problem
listed classes domains fuel = record {
  program = program_of (list_of classes ∷ []);
  root = 0;
  mode = Listing;
  parameters = [];
  fuel = fuel;
  domains = domains;
}

-- likewise, with a method under test and the domains of its parameters
abbrev pub testing : Text → List Domain → Problem → Problem
testing n parameters problem = record problem { mode = Testing (codes n); parameters = parameters }

-- an entry without its row: its key, whether it is valid, and whether it is spent
abbrev pub shown : Entry Row → List ℕ × Bool × Bool
shown e = (e.key, is_valid e.mark, is_spent e.mark)

abbrev pub listing : Problem → List (List ℕ × Bool × Bool)
listing problem = map shown (all_entries problem)

abbrev pub valid : List ℕ → List ℕ × Bool × Bool
valid key = (key, true, false)

abbrev pub invalid : List ℕ → List ℕ × Bool × Bool
invalid key = (key, false, false)

abbrev pub spent : List ℕ → List ℕ × Bool × Bool
spent key = (key, false, true)
