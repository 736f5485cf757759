-- Between crates: the tables of a layout beside its bounds, and their relation to these.
use Rattle.std.specs.Prelude.{◌≡◌, ℕ, zero, suc, ◌+◌, ◌*◌, ◌^◌, ◌<◌, List, [], ◌∷◌, length, map, All}
use Rattle.kr_mean.specs.Problem as problems
use Rattle.kr_mean.specs.Problem.{DomainObject}
use Rattle.kr_mean.specs.Problem.{Problem, slots, choices_at, domain_at}
use Rattle.kr_mean.specs.Program.{Program}
use Rattle.kr_mean.specs.Space.{space_of}
use Rattle.kr_space_layout.specs.declared.item.DomainEntry.{DomainEntry}
use Rattle.kr_space_layout.specs.declared.item.DomainEntry.TheVariants.{Objects}
use Rattle.kr_space_layout.specs.declared.classes.ClassDomain.{ClassDomain}
use Rattle.kr_space_layout.specs.declared.stretch.Block.{Block}
use Rattle.kr_space_layout.specs.declared.stretch.Stretch.{Stretch}
use Rattle.kr_space_layout.specs.declared.entry.Entry.{Entry}
use Rattle.kr_space_layout.specs.Stretches.{IsNumbered, stretch_of}
use Rattle.kr_space_layout.specs.Bounds.{Bounds, bare, problem_with}
use Rattle.kr_space_layout.specs.Tables.{blocks_from, all_entries, starts_with}

-- the stretches of some entries
abbrev pub stretches : List Block → List DomainEntry → List Stretch
stretches blocks items = map (stretch_of blocks) items

-- the tables of a root, of parameters and of class domains
pub record IsLaid (root : ℕ) (parameters : List ℕ) (classes : List ClassDomain) (blocks : List Block) (starts : List ℕ) (entries : List Entry) (count : ℕ) (this : List Stretch) (pool : List (List Stretch)) : Type 0 where
  pub blocks_are : blocks ≡ blocks_from 0 0 classes
  pub numbered : All IsNumbered blocks
  pub entries_are : entries ≡ all_entries parameters blocks classes
  pub starts_are : starts ≡ starts_with (length parameters + 1) blocks classes
  pub counted : count ≡ length entries
  pub small : count < 2 ^ 32
  pub this_is : this ≡ stretches blocks (Objects root ∷ [])
  pub pool_is : (items : List (List DomainEntry)) × (pool ≡ map (stretches blocks) items)

-- how many slots the class domains before one have
abbrev pub slots_before : ℕ → List problems.ClassDomain → ℕ
slots_before zero cs = 0
slots_before (suc d) [] = 0
slots_before (suc d) (c ∷ cs) = c.count * length c.spots + slots_before d cs

-- An object's slots are consecutive: after `this`, the parameters, the slots of the class domains before its own, and those of
-- the objects before it.
abbrev pub first_slot : Problem → DomainObject → ℕ
first_slot problem o = length problem.parameters + 1 + slots_before o.domain problem.domains + o.number * length (domain_at problem o.domain).spots

-- slots, values and space don't depend on the program
pub record AnyProgram (program : Program) (b : Bounds) : Type 0 where
  pub slots_same : slots (problem_with program b) ≡ slots (bare b)
  pub choices_same : (s : ℕ) → choices_at (problem_with program b) s ≡ choices_at (bare b) s
  pub space_same : space_of (problem_with program b) ≡ space_of (bare b)

abbrev pub AnyProgramLaw : Type 0
AnyProgramLaw = (program : Program) (b : Bounds) → AnyProgram program b
