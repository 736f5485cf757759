-- To be believed: what is thrown, and by which class it is caught (Java Language Specification, 11 and 14.18, 14.20). A trap is
-- thrown as an object of its class; the object is made where it is caught, since nobody sees it before.
use Rattle.std.specs.Prelude.{ℕ, Bool, true, false, List, [], ◌∷◌, ◌==◌, map, Option, Some, None, Result, Ok, Err, codes, if◌then◌else◌}
use Rattle.kr_value.specs.declared.value.Value.{Value}
use Rattle.kr_value.specs.declared.value.Value.TheVariants.{Null, Ref as Reference}
use Rattle.kr_value.specs.declared.object.Class.{Class}
use Rattle.kr_value.specs.declared.object.Class.TheVariants.{Object}
use Rattle.kr_classes_table.specs.Types.{JavaType}
use Rattle.kr_classes_table.specs.Table.{fields_of, number_of}
use Rattle.kr_mean.specs.declared.kind.Kind.{Kind}
use Rattle.kr_mean.specs.declared.kind.Kind.TheVariants.{NullPointerException, ArithmeticException, ArrayIndexOutOfBoundsException, NegativeArraySizeException, ClassCastException, NoSuchElementException, Thrown, NoReturn, ArrayTooLong}
use Rattle.kr_mean.specs.declared.kind.Stop.{Stop}
use Rattle.kr_mean.specs.declared.kind.Stop.TheVariants.{Trapped, Stuck}
use Rattle.kr_mean.specs.Program.{Program, default_of, is_of_type}
use Rattle.kr_mean.specs.Steps.{State, Outcome, Run, after_reads, give, stop, class_of, make, ◌>>=◌}

-- ---- the classes of what is thrown

abbrev pub class_by_name : Program → List ℕ → Option ℕ
class_by_name program n = number_of program.table.headings n

-- two ends are of no class, and nobody catches them
abbrev pub class_of_kind : Program → Kind → Option ℕ
class_of_kind program NullPointerException = class_by_name program (codes "NullPointerException")
class_of_kind program ArithmeticException = class_by_name program (codes "ArithmeticException")
class_of_kind program ArrayIndexOutOfBoundsException = class_by_name program (codes "ArrayIndexOutOfBoundsException")
class_of_kind program NegativeArraySizeException = class_by_name program (codes "NegativeArraySizeException")
class_of_kind program ClassCastException = class_by_name program (codes "ClassCastException")
class_of_kind program NoSuchElementException = class_by_name program (codes "NoSuchElementException")
class_of_kind program (Thrown c) = Some c
class_of_kind program NoReturn = None
class_of_kind program ArrayTooLong = None

-- the kinds of the steps that trap
abbrev pub step_kinds : List Kind
step_kinds = NullPointerException ∷ ArithmeticException ∷ ArrayIndexOutOfBoundsException ∷ NegativeArraySizeException ∷ ClassCastException ∷ NoSuchElementException ∷ []

abbrev pub is_class : ℕ → Option ℕ → Bool
is_class c (Some d) = c == d
is_class c None = false

-- the kind of a class among those, by their classes
abbrev pub kind_among : (Kind → Option ℕ) → ℕ → List Kind → Kind
kind_among classes c [] = Thrown c
kind_among classes c (k ∷ ks) = if is_class c (classes k) then k else kind_among classes c ks

-- a class has one kind, whether a step traps or an object is thrown
abbrev pub kind_of : Program → ℕ → Kind
kind_of program c = kind_among (class_of_kind program) c step_kinds

-- ---- throwing

abbrev pub throw_as : {A : Type 0} → Kind → Value → Run A
throw_as k v s = record { said = Err (Trapped k); after = record s { thrown = Some v }; reads = [] }

abbrev pub throw_in : {A : Type 0} → Program → Value → Class → Run A
throw_in program v (Object c) = throw_as (kind_of program c) v
throw_in program v class = stop Stuck

-- null traps (14.18)
abbrev pub throw : {A : Type 0} → Program → Value → Run A
throw program v = class_of v >>= throw_in program v

-- ---- catching

-- a class fits where it is the one that is named, or below it
abbrev pub is_caught : Program → JavaType → Option ℕ → Bool
is_caught program t (Some c) = is_of_type program t (Object c)
is_caught program t None = false

abbrev pub object_of_class : Program → Option ℕ → Run Value
object_of_class program (Some c) = make (Object c) (map (λ f. default_of f.type) (fields_of program.table c))
object_of_class program None = stop Stuck

abbrev pub object_or_new : Program → Kind → Option Value → Run Value
object_or_new program k (Some v) s = give v (record s { thrown = None })
object_or_new program k None s = object_of_class program (class_of_kind program k) s

-- the object that was thrown; of a trap a new one
abbrev pub object_of : Program → Kind → Run Value
object_of program k s = object_or_new program k s.thrown s

-- the run that goes on after a trap, if one does
abbrev pub handled : {A : Type 0} → Result A Stop → (Kind → Option (Run A)) → Option (Run A)
handled (Err (Trapped k)) handler = handler k
handled said handler = None

abbrev pub caught_by : {A : Type 0} → Option (Run A) → Outcome A → Outcome A
caught_by None o = o
caught_by (Some m) o = after_reads o.reads (m o.after)

-- a run, and where it traps what a handler of its kind does with the state there; all else passes by
unfoldable pub attempted : {A : Type 0} → Run A → (Kind → Option (Run A)) → Run A
attempted m handler s = caught_by (handled (m s).said handler) (m s)
