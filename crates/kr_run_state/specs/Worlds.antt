-- Between crates: the state that a world is, also with other candidates, and what it is to do a step of the meaning.
use Rattle.std.specs.Prelude.{◌≡◌, ℕ, ◌<◌, Bool, true, false, List, ◌++◌, length, map, Option, Some, None, Result, Ok, Err}
use Rattle.kr_value.specs.Heaps.{Heap, HeapObject, object_in, has_spot, value_of_spot}
use Rattle.kr_value.specs.declared.object.Class.{Class}
use Rattle.kr_value.specs.declared.object.Class.TheVariants.{Object, Array, Set, List as Sequence}
use Rattle.kr_value.specs.declared.object.Spot.{Spot}
use Rattle.kr_value.specs.declared.object.Spot.TheVariants.{Field, Length, Element}
use Rattle.kr_mean.specs.Places.{SlotPlace, At}
use Rattle.kr_mean.specs.Steps.{State, Outcome}
use Rattle.kr_run_state.specs.declared.world.World.{World}
use Rattle.kr_run_state.specs.declared.world.Halt.{Halt}
use Rattle.kr_run_state.specs.declared.world.Halt.TheVariants.{Ended, Memory}
use Rattle.kr_run_state.specs.Noting.{noting, is_read}
use Rattle.kr_run_state.specs.Shown.{local_of, old_of}

-- ---- other candidates

-- candidates in place of a world's own ones, or those
abbrev pub Others : Type 0
Others = Option Heap

abbrev pub candidates_of : Heap → Others → Heap
candidates_of own None = own
candidates_of own (Some others) = others

-- a field, or an array's length: of a class that has it each object does
abbrev pub is_fixed : Spot → Bool
is_fixed (Field f) = true
is_fixed Length = true
is_fixed (Element i) = false

-- A candidate in another's place: of its class, with the same fields, and where a spot that both have was read with the same
-- value there.
pub record StandsFor (seen : List SlotPlace) (o : ℕ) (own other : HeapObject) : Type 0 where
  pub class : other.class ≡ own.class
  pub fields : (spot : Spot) → is_fixed spot ≡ true → has_spot other spot ≡ has_spot own spot
  pub told : (spot : Spot) → is_read (At o spot) seen ≡ true → has_spot own spot ≡ true → has_spot other spot ≡ true → value_of_spot other spot ≡ value_of_spot own spot

-- As many candidates, each in the place of one, where a run has written none.
pub record StandFor (frozen : Bool) (seen : List SlotPlace) (own others : Heap) : Type 0 where
  pub unwritten : frozen ≡ true
  pub long : length others ≡ length own
  pub each : (o : ℕ) → o < length own → StandsFor seen o (object_in own o) (object_in others o)

-- a run can't distinguish them from its own candidates by its reads
abbrev pub AreLike : Bool → List SlotPlace → Heap → Others → Type 0
AreLike frozen seen own None = Unit {0}
AreLike frozen seen own (Some others) = StandFor frozen seen own others

abbrev pub Allows : World → Others → Type 0
Allows w x = AreLike w.is_frozen w.reads w.candidates x

-- ---- states

-- a world with other candidates
abbrev pub state_at : World → Others → State
state_at w x = record {
  this_value = w.this;
  locals = map local_of w.locals.items;
  result = w.result;
  olds = map old_of w.olds.items;
  thrown = w.thrown;
  heap = candidates_of w.candidates x ++ w.made;
  candidates = length w.candidates;
  fuel = w.fuel;
}

abbrev pub state_of : World → State
state_of w = state_at w None

-- Kept by a step: other candidates that are allowed after it were allowed before; candidates that are frozen after it were
-- so before, and are unchanged; there are as many.
pub record Keeps (before w : World) (x : Others) : Type 0 where
  pub allowed : Allows before x
  pub frozen_before : w.is_frozen ≡ true → before.is_frozen ≡ true
  pub same : w.is_frozen ≡ true → w.candidates ≡ before.candidates
  pub long : length w.candidates ≡ length before.candidates

-- The answer, the world and its reads are the outcome's, after what was read before: with all candidates that what was read
-- until then allows. On out-of-memory nothing is known.
abbrev pub Agrees : {A : Type 0} → Result A Halt → World → World → (Others → Outcome A) → Type 0
Agrees (Ok a) w before o = (x : Others) → Allows w x → Keeps before w x × (noting before.reads (o x) ≡ record { said = Ok a; after = state_at w x; reads = w.reads })
Agrees (Err (Ended e)) w before o = (x : Others) → Allows w x → Keeps before w x × (noting before.reads (o x) ≡ record { said = Err e; after = state_at w x; reads = w.reads })
Agrees (Err (Memory why)) w before o = Unit {0}

abbrev pub IsArray : Class → Type 0
IsArray (Array t) = Unit {0}
IsArray (Object c) = ⊥
IsArray Set = ⊥
IsArray Sequence = ⊥
