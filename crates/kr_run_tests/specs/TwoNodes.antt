-- Between crates: two nodes and an array, worked by hand.
use Rattle.std.specs.Prelude.{ℕ, pos, List, [], ◌∷◌, codes}
use Rattle.kr_value.specs.declared.value.Value.TheVariants.{Int, Null}
use Rattle.kr_value.specs.declared.object.Class.TheVariants.{Object, Array}
use Rattle.kr_value.specs.declared.object.Spot.TheVariants.{Field, Length, Element}
use Rattle.kr_mean.specs.declared.mode.Mode.TheVariants.{List as Listing}
use Rattle.kr_mean.specs.Problem.{Domain, Plain, Objects}
use Rattle.kr_space_layout.specs.declared.classes.ClassDomain.{ClassDomain}
use Rattle.kr_space_layout.specs.declared.item.DomainEntry.{DomainEntry}
use Rattle.kr_space_layout.specs.declared.item.DomainEntry.TheVariants as items
use Rattle.kr_space_layout.specs.Bounds.{Bounds}

-- up to two elements, each 7
abbrev pub lengths : Domain
lengths = Plain (Int (pos 0)) ∷ Plain (Int (pos 1)) ∷ Plain (Int (pos 2)) ∷ []

abbrev pub sevens : Domain
sevens = Plain (Int (pos 7)) ∷ []

-- the class domains as the code has them
abbrev pub nodes : ClassDomain
nodes = record { name = codes "N"; class = Object 0; count = 2; spots = record { spot = Field 0; domain = 0 } ∷ record { spot = Field 1; domain = 1 } ∷ [] }

abbrev pub arrays : ClassDomain
arrays = record { name = codes "int[]"; class = Array 0; count = 1; spots = record { spot = Length; domain = 2 } ∷ record { spot = Element 0; domain = 3 } ∷ record { spot = Element 1; domain = 3 } ∷ [] }

-- the domains as the code has them
abbrev pub item_lists : List (List DomainEntry)
item_lists = (items.Plain Null ∷ items.Objects 0 ∷ []) ∷ (items.Plain Null ∷ items.Objects 1 ∷ []) ∷ (items.Integers (pos 0) (pos 2) ∷ []) ∷ (items.Plain (Int (pos 7)) ∷ []) ∷ []

-- nodes with another node and an array, or null
abbrev pub two_nodes : Bounds
two_nodes = record {
  root = 0;
  mode = Listing;
  parameters = [];
  fuel = 9;
  domains =
      record { name = codes "N"; class = Object 0; count = 2; spots = record { spot = Field 0; domain = Plain Null ∷ Objects 0 ∷ [] } ∷ record { spot = Field 1; domain = Plain Null ∷ Objects 1 ∷ [] } ∷ [] }
      ∷ record { name = codes "int[]"; class = Array 0; count = 1; spots = record { spot = Length; domain = lengths } ∷ record { spot = Element 0; domain = sevens } ∷ record { spot = Element 1; domain = sevens } ∷ [] }
      ∷ [];
}

-- The root is the second node. Its other node is the first, and both have the array, of one element.
abbrev pub from_second : List ℕ
from_second = 1 ∷ 0 ∷ 1 ∷ 1 ∷ 1 ∷ 1 ∷ 0 ∷ 0 ∷ []
