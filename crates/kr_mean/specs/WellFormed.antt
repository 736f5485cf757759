-- To be believed: well formed problems: what candidates, their heaps and their walks rely on.
use Rattle.std.specs.Prelude.{◌≡◌, ℕ, ◌+◌, ◌<◌, ◌≤◌, pos, List, [], ◌∷◌, length}
use Rattle.kr_mean.specs.Problem.{Problem, Plain, Objects, Domain, Spotted, slots, slot_at, choices_at, domain_at}
use Rattle.kr_value.specs.declared.object.Class.{Class}
use Rattle.kr_value.specs.declared.object.Class.TheVariants.{Object, Array}
use Rattle.kr_value.specs.declared.object.Spot.TheVariants.{Field, Length, Element}
use Rattle.kr_value.specs.declared.value.Value.{Value}
use Rattle.kr_value.specs.declared.value.Value.TheVariants.{Int, Bool as Truth, Null, Ref as Reference}

-- no value but an object's is a reference
abbrev pub IsPlain : Value → Type 0
IsPlain (Int n) = Unit {0}
IsPlain (Truth b) = Unit {0}
IsPlain Null = Unit {0}
IsPlain (Reference o) = ⊥

abbrev pub ArePlain : Domain → Type 0
ArePlain [] = Unit {0}
ArePlain (Plain v ∷ items) = IsPlain v × ArePlain items
ArePlain (Objects d ∷ items) = ArePlain items

-- the fields of a class from a number on, in order
abbrev pub AreFields : ℕ → List Spotted → Type 0
AreFields f [] = Unit {0}
AreFields f (s ∷ ss) = (s.spot ≡ Field f) × AreFields (f + 1) ss

-- the elements of an array type from a number on, in order
abbrev pub AreElements : ℕ → List Spotted → Type 0
AreElements k [] = Unit {0}
AreElements k (s ∷ ss) = (s.spot ≡ Element k) × AreElements (k + 1) ss

-- lengths, none above a number
abbrev pub AreLengths : ℕ → Domain → Type 0
AreLengths m [] = Unit {0}
AreLengths m (Plain (Int (pos n)) ∷ items) = (n ≤ m) × AreLengths m items
AreLengths m _ = ⊥

-- of a class its fields, of an array type the length and then as many elements as the greatest length
abbrev pub AreSpots : Class → List Spotted → Type 0
AreSpots (Object c) ss = AreFields 0 ss
AreSpots (Array t) [] = ⊥
AreSpots (Array t) (s ∷ ss) = (s.spot ≡ Length) × AreElements 0 ss × AreLengths (length ss) s.domain
AreSpots _ ss = ⊥

-- The root has a class domain; no slot's domain is empty, and no plain value is a reference; each object has its fields, or its
-- length and its elements.
pub record IsWellFormed (problem : Problem) : Type 0 where
  pub root : problem.root < length problem.domains
  pub filled : (s : ℕ) → s < length (slots problem) → 0 < length (choices_at problem s)
  pub plain : (s : ℕ) → s < length (slots problem) → ArePlain (slot_at problem s).domain
  pub spots : (d : ℕ) → d < length problem.domains → AreSpots (domain_at problem d).class (domain_at problem d).spots
