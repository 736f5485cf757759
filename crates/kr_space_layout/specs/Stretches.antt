-- Between crates: stretches of consecutive values of a domain, with all that their values are made of.
use Rattle.std.specs.Prelude.{◌≡◌, ℕ, ◌+◌, ◌^◌, ◌<◌, ◌≤◌, ℤ, pos, List, [], ◌∷◌, map, flat_map, length, All, Some, None}
use Rattle.std.specs.List.{range_with_len}
use Rattle.std.proofs.Common.{get_or}
use Rattle.kr_value.specs.declared.value.Value.TheVariants.{Int, Ref as Reference}
use Rattle.kr_mean.specs.Problem as problems
use Rattle.kr_mean.specs.Problem.{Domain, Choice}
use Rattle.kr_iso.specs.Objects.{shown}
use Rattle.kr_space_layout.specs.declared.item.DomainEntry.{DomainEntry}
use Rattle.kr_space_layout.specs.declared.item.DomainEntry.TheVariants as items
use Rattle.kr_space_layout.specs.declared.stretch.Block.{Block}
use Rattle.kr_space_layout.specs.declared.stretch.Stretch.{Stretch}
use Rattle.kr_space_layout.specs.declared.stretch.Stretch.TheVariants.{Plain, Integers, Objects}
use Rattle.kr_space_layout.specs.declared.stretch.Chosen.{Chosen}
use Rattle.kr_space_layout.specs.declared.values.Piece.{Piece}
use Rattle.kr_space_layout.specs.Items.{integers, width_between}

abbrev pub integer_choice : ℤ → Choice
integer_choice z = record { value = Int z; object = None }

abbrev pub object_choice : Block → ℕ → Choice
object_choice b k = record { value = Reference (b.first + k); object = Some (record { domain = b.domain; number = k }) }

-- the values of a stretch, in order
abbrev pub choices_of : Stretch → List Choice
choices_of (Plain v) = record { value = v; object = None } ∷ []
choices_of (Integers from to) = map integer_choice (integers from to)
choices_of (Objects b) = map (object_choice b) (range_with_len 0 b.count)

abbrev pub count_of : Stretch → ℕ
count_of (Plain v) = 1
count_of (Integers from to) = width_between from to
count_of (Objects b) = b.count

abbrev pub all_choices : List Stretch → List Choice
all_choices stretches = flat_map choices_of stretches

-- the meaning of a stretch in a problem
abbrev pub meant : Stretch → List problems.DomainItem
meant (Plain v) = problems.Plain v ∷ []
meant (Integers from to) = map (λ z. problems.Plain (Int z)) (integers from to)
meant (Objects b) = problems.Objects b.domain ∷ []

abbrev pub domain_of : List Stretch → Domain
domain_of stretches = flat_map meant stretches

-- a choice as the code has it
abbrev pub chosen : Chosen → Choice
chosen c = record { value = c.value; object = shown c.object }

-- ---- how stretches come of entries

-- a class domain that isn't there has no objects
abbrev pub no_block : ℕ → Block
no_block d = record { domain = d; first = 0; count = 0 }

abbrev pub stretch_of : List Block → DomainEntry → Stretch
stretch_of blocks (items.Plain v) = Plain v
stretch_of blocks (items.Integers from to) = Integers from to
stretch_of blocks (items.Objects d) = Objects (get_or blocks d (no_block d))

-- ---- stretches with their places

abbrev pub stretches_of : List Piece → List Stretch
stretches_of pieces = map (λ p. p.stretch) pieces

-- each stretch records how many values precede it, from a number on and up to another
abbrev pub AreCounted : ℕ → List Piece → ℕ → Type 0
AreCounted n [] total = n ≡ total
AreCounted n (p ∷ ps) total = (p.start ≡ n) × AreCounted (n + count_of p.stretch) ps total

-- the objects have numbers
abbrev pub IsNumbered : Block → Type 0
IsNumbered b = b.first + b.count < 2 ^ 32

abbrev pub Fits : Stretch → Type 0
Fits (Plain v) = Unit {0}
Fits (Integers from to) = Unit {0}
Fits (Objects b) = IsNumbered b

pub record ArePieces (pieces : List Piece) (size : ℕ) : Type 0 where
  pub counted : AreCounted 0 pieces size
  pub fit : All (λ p. Fits p.stretch) pieces

abbrev pub no_piece : Piece
no_piece = record { start = 0; stretch = Plain (Int (pos 0)) }

-- the last piece that begins at an index or before it
pub record IsLast (pieces : List Piece) (index k : ℕ) : Type 0 where
  pub inside : k < length pieces
  pub from : (get_or pieces k no_piece).start ≤ index
  pub before : k + 1 < length pieces → index < (get_or pieces (k + 1) no_piece).start
