-- Between crates: the tables of slots and of class domains.
use Rattle.std.specs.Prelude.{ℕ, ◌+◌, List, [], ◌∷◌, ◌++◌, length, map, flat_map, Option, Some, None}
use Rattle.std.specs.List.{range_with_len}
use Rattle.std.proofs.Common.{get_or}
use Rattle.kr_mean.specs.Places.{place_of}
use Rattle.kr_mean.specs.Problem.{Domain, Slot, Objects}
use Rattle.kr_iso.specs.Objects.{shown}
use Rattle.kr_space_layout.specs.declared.classes.Spotted.{Spotted}
use Rattle.kr_space_layout.specs.declared.classes.ClassDomain.{ClassDomain}
use Rattle.kr_space_layout.specs.declared.stretch.Block.{Block}
use Rattle.kr_value.specs.declared.place.SlotPlace.TheVariants.{This, Parameter, At}
use Rattle.kr_space_layout.specs.declared.entry.Entry.{Entry}

-- the objects of the class domains, from one of these on; so many objects precede it
abbrev pub blocks_from : ℕ → ℕ → List ClassDomain → List Block
blocks_from d first [] = []
blocks_from d first (c ∷ cs) = record { domain = d; first = first; count = c.count } ∷ blocks_from (d + 1) (first + c.count) cs

-- ---- entries

abbrev pub this_entry : Entry
this_entry = record { place = This; owner = None; domain = None }

abbrev pub parameter_entries : ℕ → List ℕ → List Entry
parameter_entries i [] = []
parameter_entries i (p ∷ ps) = record { place = Parameter i; owner = None; domain = Some p } ∷ parameter_entries (i + 1) ps

abbrev pub spot_entry : Block → ℕ → Spotted → Entry
spot_entry b k s = record { place = At (b.first + k) s.spot; owner = Some (record { domain = b.domain; number = k }); domain = Some s.domain }

abbrev pub object_entries : Block → List Spotted → ℕ → List Entry
object_entries b spots k = map (spot_entry b k) spots

-- the slots of a class domain's objects
abbrev pub class_entries : Block → List Spotted → List Entry
class_entries b spots = flat_map (object_entries b spots) (range_with_len 0 b.count)

abbrev pub entries_with : List Block → List ClassDomain → List Entry
entries_with [] cs = []
entries_with (b ∷ bs) [] = []
entries_with (b ∷ bs) (c ∷ cs) = class_entries b c.spots ++ entries_with bs cs

-- `this`, the parameters and what each object has
abbrev pub all_entries : List ℕ → List Block → List ClassDomain → List Entry
all_entries parameters blocks classes = this_entry ∷ (parameter_entries 0 parameters ++ entries_with blocks classes)

-- the first slot of each class domain, where so many precede
abbrev pub starts_with : ℕ → List Block → List ClassDomain → List ℕ
starts_with n [] cs = []
starts_with n (b ∷ bs) [] = []
starts_with n (b ∷ bs) (c ∷ cs) = n ∷ starts_with (n + length (class_entries b c.spots)) bs cs

-- ---- a slot's place and a slot, as the problem has them

-- the domain of a number; of none it is all objects of the root
abbrev pub domain_with : ℕ → List Domain → Option ℕ → Domain
domain_with root domains None = Objects root ∷ []
domain_with root domains (Some d) = get_or domains d []

abbrev pub slot_of : ℕ → List Domain → Entry → Slot
slot_of root domains e = record { place = place_of e.place; owner = shown e.owner; domain = domain_with root domains e.domain }
