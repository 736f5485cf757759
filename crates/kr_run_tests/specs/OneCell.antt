-- Between crates: a class of one field, worked by hand.
use Rattle.std.specs.Prelude.{ℕ, pos, List, [], ◌∷◌, codes}
use Rattle.kr_value.specs.declared.value.Value.TheVariants.{Int}
use Rattle.kr_value.specs.declared.object.Class.TheVariants.{Object}
use Rattle.kr_value.specs.declared.object.Spot.TheVariants.{Field}
use Rattle.kr_mean.specs.declared.mode.Mode.TheVariants.{List as Listing}
use Rattle.kr_mean.specs.Problem.{Plain}
use Rattle.kr_space_layout.specs.declared.classes.ClassDomain.{ClassDomain}
use Rattle.kr_space_layout.specs.declared.item.DomainEntry.{DomainEntry}
use Rattle.kr_space_layout.specs.declared.item.DomainEntry.TheVariants as items
use Rattle.kr_space_layout.specs.Bounds.{Bounds}

-- the class domain as the code has it
abbrev pub cells : ClassDomain
cells = record { name = codes "Cell"; class = Object 0; count = 1; spots = record { spot = Field 0; domain = 0 } ∷ [] }

-- the domain as the code has it
abbrev pub item_lists : List (List DomainEntry)
item_lists = (items.Integers (pos 0) (pos 2) ∷ []) ∷ []

-- one cell, with a number from 0 to 2
abbrev pub one_cell : ℕ → Bounds
one_cell fuel = record {
  root = 0;
  mode = Listing;
  parameters = [];
  fuel = fuel;
  domains = record { name = codes "Cell"; class = Object 0; count = 1; spots = record { spot = Field 0; domain = Plain (Int (pos 0)) ∷ Plain (Int (pos 1)) ∷ Plain (Int (pos 2)) ∷ [] } ∷ [] } ∷ [];
}
