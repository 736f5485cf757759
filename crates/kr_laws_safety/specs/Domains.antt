-- Between crates: when the domains of a problem give each slot values of its type: those that the finitization may state.
use Rattle.std.specs.Prelude.{◌≡◌, ℕ, ◌<◌, true, List, [], ◌∷◌, length, map, Some, None}
use Rattle.std.proofs.Common.{get_or}
use Rattle.kr_value.specs.declared.object.Class.{Class}
use Rattle.kr_value.specs.declared.object.Class.TheVariants.{Object, Array}
use Rattle.kr_classes_table.specs.Types.{JavaType, VoidType, ClassType, ArrayType}
use Rattle.kr_classes_table.specs.Table.{Method, fields_of, is_assignable}
use Rattle.kr_mean.specs.Program.{Program}
use Rattle.kr_mean.specs.Problem.{Problem, DomainItem, Plain, Objects, Domain, Spotted, DomainObject, all_objects, domain_at}
use Rattle.kr_mean.specs.Runs.{root_class, tested_method}
use Rattle.kr_laws_safety.specs.Fits.{IsOf, IsLength}

-- the type of what is of a class or array type
abbrev pub class_type : Program → Class → JavaType
class_type program (Object c) = ClassType c
class_type program (Array k) = get_or program.arrays k VoidType
class_type program class = VoidType

-- the types of all objects, by their numbers in the heap
abbrev pub object_types : Problem → List JavaType
object_types problem = map (λ (o : DomainObject). class_type problem.program (domain_at problem o.domain).class) (all_objects problem)

-- values of a type: a plain one, or all objects of a class domain
abbrev pub IsItemOf : Problem → JavaType → DomainItem → Type 0
IsItemOf problem t (Plain v) = IsOf problem.program.table [] t v
IsItemOf problem t (Objects d) = (d < length problem.domains) × (is_assignable problem.program.table (class_type problem.program (domain_at problem d).class) t ≡ true)

abbrev pub IsDomainOf : Problem → JavaType → Domain → Type 0
IsDomainOf problem t [] = Unit {0}
IsDomainOf problem t (i ∷ is) = IsItemOf problem t i × IsDomainOf problem t is

-- domains in order, each of its type
abbrev pub AreDomainsOf : Problem → List JavaType → List Domain → Type 0
AreDomainsOf problem [] [] = Unit {0}
AreDomainsOf problem (t ∷ ts) (d ∷ ds) = IsDomainOf problem t d × AreDomainsOf problem ts ds
AreDomainsOf problem ts ds = ⊥

abbrev pub domains_of : List Spotted → List Domain
domains_of ss = map (λ s. s.domain) ss

-- domains of one type
abbrev pub AreAllDomainsOf : Problem → JavaType → List Spotted → Type 0
AreAllDomainsOf problem t [] = Unit {0}
AreAllDomainsOf problem t (s ∷ ss) = IsDomainOf problem t s.domain × AreAllDomainsOf problem t ss

-- of an array type the elements after the length, no more than an int counts; the array type has this number
abbrev pub AreElementsOf : Problem → JavaType → List Spotted → Type 0
AreElementsOf problem (ArrayType t) (s ∷ ss) = AreAllDomainsOf problem t ss × IsLength (length ss)
AreElementsOf problem t ss = ⊥

-- the spots of a class domain's objects: of a class its fields
abbrev pub AreSpotsOf : Problem → Class → List Spotted → Type 0
AreSpotsOf problem (Object c) ss = AreDomainsOf problem (map (λ f. f.type) (fields_of problem.program.table c)) (domains_of ss)
AreSpotsOf problem (Array k) ss = AreElementsOf problem (class_type problem.program (Array k)) ss
AreSpotsOf problem class ss = ⊥

-- Each spot's domain has values of the spot's type, and each parameter's of the parameter's.
pub record HaveDomainsTypes (problem : Problem) : Type 0 where
  pub spots : (d : ℕ) → d < length problem.domains → AreSpotsOf problem (domain_at problem d).class (domain_at problem d).spots
  pub parameters : (m : Method) → tested_method problem problem.mode ≡ Some m → AreDomainsOf problem (map (λ p. p.type) m.parameters) problem.parameters
  pub none : tested_method problem problem.mode ≡ None → problem.parameters ≡ []
  -- the root's objects are of a class
  pub root : (domain_at problem problem.root).class ≡ Object (root_class problem)
