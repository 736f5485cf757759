-- To be believed: a renaming as arithmetic on the numbers of slots and on indices: slots and domains go by whole class domains.
use Rattle.std.specs.Prelude.{◌≡◌, ℕ, ◌+◌, ◌-◌, ◌*◌, ◌<◌, ◌≤◌, List, length, filter, Option, Some, None}
use Rattle.std.proofs.Common.{get_or}
use Rattle.kr_mean.specs.Problem.{DomainObject, upto}
use Rattle.kr_mean.specs.Heaps.{is_owner}
use Rattle.kr_mean.specs.Space.{Space, IsVector, IsRenaming, IsRenamed, IsSameSpot}

-- how many slots an object of a class domain has, by its first
unfoldable pub width_in : Space → ℕ → ℕ
width_in space d = length (filter (λ s. is_owner (record { domain = d; number = 0 }) (space.owner s)) (upto space.slots))

-- The slots of a class domain's objects are consecutive, in steps of a width: where a place goes when objects change numbers.
abbrev pub moved : (ℕ → ℕ → ℕ) → Option DomainObject → ℕ → ℕ → ℕ
moved name None width i = i
moved name (Some o) width i = i - o.number * width + name o.domain o.number * width

abbrev pub width_of : Space → Option DomainObject → ℕ
width_of space None = 0
width_of space (Some o) = width_in space o.domain

-- the corresponding slot of the renamed object, and the index of the renamed value
abbrev pub on_slot : Space → (ℕ → ℕ → ℕ) → ℕ → ℕ
on_slot space name s = moved name (space.owner s) (width_of space (space.owner s)) s

abbrev pub on_index : Space → (ℕ → ℕ → ℕ) → ℕ → ℕ → ℕ
on_index space name s i = moved name (space.object_at s i) 1 i

-- w is v under other names, at the slots and at the values
pub record IsMoved (space : Space) (name : ℕ → ℕ → ℕ) (v w : List ℕ) : Type 0 where
  pub vector : IsVector space w
  pub values : (s : ℕ) → s < space.slots → get_or w (on_slot space name s) 0 ≡ on_index space name s (get_or v s 0)

-- An object's block in a slot's domain: with one object there are all of its class domain, in order.
pub record IsBlock (space : Space) (s i : ℕ) (o : DomainObject) : Type 0 where
  pub domain : o.domain < space.domains
  pub number : o.number < space.count o.domain
  pub room : o.number ≤ i
  pub inside : (k : ℕ) → k < space.count o.domain → i - o.number + k < space.size s
  pub all : (k : ℕ) → k < space.count o.domain → space.object_at s (i - o.number + k) ≡ Some (record { domain = o.domain; number = k })
  pub items : (k : ℕ) → k < space.count o.domain → space.item s (i - o.number + k) ≡ space.item s i

-- Likewise of the slots that objects own; corresponding slots of one class domain have like domains.
pub record IsPart (space : Space) (s : ℕ) (o : DomainObject) : Type 0 where
  pub domain : o.domain < space.domains
  pub number : o.number < space.count o.domain
  pub room : o.number * width_in space o.domain ≤ s
  pub inside : (k : ℕ) → k < space.count o.domain → s - o.number * width_in space o.domain + k * width_in space o.domain < space.slots
  pub all : (k : ℕ) → k < space.count o.domain → space.owner (s - o.number * width_in space o.domain + k * width_in space o.domain) ≡ Some (record { domain = o.domain; number = k })
  pub spots : (k : ℕ) → k < space.count o.domain → IsSameSpot (space.place s) (space.place (s - o.number * width_in space o.domain + k * width_in space o.domain))
  pub sizes : (k : ℕ) → k < space.count o.domain → space.size (s - o.number * width_in space o.domain + k * width_in space o.domain) ≡ space.size s
  pub objects : (k i : ℕ) → k < space.count o.domain → space.object_at (s - o.number * width_in space o.domain + k * width_in space o.domain) i ≡ space.object_at s i
  pub items : (k i : ℕ) → k < space.count o.domain → space.item (s - o.number * width_in space o.domain + k * width_in space o.domain) i ≡ space.item s i

-- Required of slots and domains: none is empty, and they go by whole class domains; an object has one slot at a spot, and an
-- entry of a domain has an object at one index.
pub record IsSpace (space : Space) : Type 0 where
  pub filled : (s : ℕ) → s < space.slots → 0 < space.size s
  pub blocks : (s i : ℕ) (o : DomainObject) → s < space.slots → i < space.size s → space.object_at s i ≡ Some o → IsBlock space s i o
  pub parts : (s : ℕ) (o : DomainObject) → s < space.slots → space.owner s ≡ Some o → IsPart space s o
  pub one_slot : (s t : ℕ) → s < space.slots → t < space.slots → space.owner s ≡ space.owner t → IsSameSpot (space.place s) (space.place t) → s ≡ t
  pub one_index : (s i j : ℕ) (o : DomainObject) → s < space.slots → i < space.size s → j < space.size s → space.object_at s i ≡ Some o → space.object_at s j ≡ Some o → space.item s i ≡ space.item s j → i ≡ j

-- a renaming, by objects and places, and as arithmetic: both are equal
pub record BothSay (space : Space) (name : ℕ → ℕ → ℕ) (v w : List ℕ) : Type 0 where
  pub moves : IsRenamed space name v w → IsMoved space name v w
  pub renames : IsMoved space name v w → IsRenamed space name v w

abbrev pub RenamingLaw : Type 0
RenamingLaw = (space : Space) → IsSpace space → (name : ℕ → ℕ → ℕ) → IsRenaming space name → (v w : List ℕ) → IsVector space v → BothSay space name v w
