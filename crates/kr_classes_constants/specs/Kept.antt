-- Between crates: values by the places of their constants' names.
use Rattle.std.specs.Prelude.{◌≡◌, ℕ, Bool, ◌&&◌, nat_eq, List, [], ◌∷◌, if◌then◌else◌, Option, Some, None}
use Rattle.kr_base.specs.declared.place.Place.{Place}
use Rattle.kr_value.specs.declared.value.Value.{Value}
use Rattle.kr_classes_table.specs.Constants.{Known, value_at}

-- the file, line and column of a place
abbrev pub Key : Type 0
Key = ℕ × ℕ × ℕ

abbrev pub is_key_of : Place → Key → Bool
is_key_of p k = nat_eq p.file k.0 && nat_eq p.line k.1 && nat_eq p.col k.2

-- the value kept for a place
abbrev pub found : Place → List (Key × Value) → Option Value
found p [] = None
found p (e ∷ es) = if is_key_of p e.0 then Some e.1 else found p es

-- at each place there is the value of the constant that is known there
abbrev pub AreValues : List Known → List (Key × Value) → Type 0
AreValues known kept = (p : Place) → found p kept ≡ value_at known p
