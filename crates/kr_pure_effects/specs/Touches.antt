-- Between crates: what a node touches, as the code has it: which objects it creates, or may write a field or an element of.
use Rattle.std.specs.Prelude.{ℕ, ◌<◌, Bool, true, false, ◌&&◌, ◌||◌, List, [], ◌∷◌, nat_eq, nat_lt}
use Rattle.kr_value.specs.declared.object.Class.{Class}
use Rattle.kr_value.specs.declared.object.Class.TheVariants.{Object}
use Rattle.kr_classes_table.specs.Table.{is_below}
use Rattle.kr_classes_names.specs.Types.{TypeList, count, type_at}
use Rattle.kr_mean.specs.Program.{Program, is_array_of}
use Rattle.kr_types_resolving.specs.Meanings.{Meaning, Instance}
use Rattle.kr_mean.specs.Problem.{ClassDomain}
use Rattle.kr_pure_effects.specs.declared.touch.Touch.{Touch}
use Rattle.kr_pure_effects.specs.declared.touch.Touch.TheVariants as touch

-- whether these are objects of a class or array type
abbrev pub touches : Program → TypeList → Touch → Class → Bool
touches program l (touch.Fields d) (Object c) = is_below program.table c d
touches program l (touch.Objects d) (Object c) = nat_eq d c
touches program l (touch.Elements t) class = is_array_of program (type_at l t) class
touches program l t class = false

-- the types that it speaks of are there
abbrev pub IsTouchWithin : TypeList → Touch → Type 0
IsTouchWithin l (touch.Elements t) = t < count l
IsTouchWithin l t = Unit {0}

-- the finitization counts objects of the class, or names the array type
abbrev pub is_counted : Class → ℕ → Bool
is_counted (Object c) n = nat_lt 0 n
is_counted class n = true

-- whether candidates of a class domain are touched
abbrev pub touches_domain : Program → TypeList → Touch → ClassDomain → Bool
touches_domain program l t d = is_counted d.class d.count && touches program l t d.class

-- whether some of these are
abbrev pub touches_some : Program → TypeList → Touch → List ClassDomain → Bool
touches_some program l t [] = false
touches_some program l t (d ∷ ds) = touches_domain program l t d || touches_some program l t ds

-- a write of a variable of this meaning
abbrev pub field_written : Program → Meaning → Class → Bool
field_written program (Instance f) (Object c) = is_below program.table c f.class
field_written program m class = false
