-- Between crates: the parser's state: the complete numbers, and the digits so far of the next one.
use Rattle.std.specs.Prelude.{◌≡◌, ℕ, ◌^◌, ◌<◌, List, [], ◌∷◌, ◌++◌, Bool, true, false, All, length, take, codes, decimal, flat_map, Option, Some, None, IfSome}
use Rattle.kr_base.specs.declared.cut.reading.Step.{Step}
use Rattle.kr_base.specs.declared.cut.reading.Step.TheVariants.{Digit, Dot, Dead}
use Rattle.kr_base.specs.Cuts.{dotted}
use Rattle.kr_base.specs.Parsing.{Begins}

-- a number and its dot
abbrev pub ended : ℕ → List ℕ
ended n = decimal n ++ codes "."

abbrev pub begun_text : Option ℕ → List ℕ
begun_text None = []
begun_text (Some n) = decimal n

-- the text so far
abbrev pub text_so_far : List ℕ → Option ℕ → List ℕ
text_so_far done begun = flat_map ended done ++ begun_text begun

-- The next byte is a digit, the dot that ends the number, or one that no cut's text has here.
abbrev pub Steps : Option ℕ → ℕ → Step → Type 0
Steps begun byte (Digit n) = (n < 2 ^ 32) × (begun_text begun ++ byte ∷ [] ≡ decimal n)
Steps begun byte (Dot n) = (begun ≡ Some n) × (byte ≡ 46)
Steps begun byte Dead = (n : ℕ) (later rest : List ℕ) → n < 2 ^ 32 → begun_text begun ++ byte ∷ rest ≡ decimal n ++ flat_map dotted later → ⊥

-- The state after `front`: the first 4,096 complete numbers are kept, and all are counted.
pub record IsAt (front done : List ℕ) (begun : Option ℕ) (kept : List ℕ) (count : ℕ) : Type 0 where
  pub small : All (λ n. n < 2 ^ 32) done
  pub fits : IfSome begun (λ n. n < 2 ^ 32)
  pub text : front ≡ text_so_far done begun
  pub kept_is : kept ≡ take 4096 done
  pub count_is : count ≡ length done

-- The state after one byte more; false means that no cut's text continues with it.
abbrev pub Reads : List ℕ → List ℕ → ℕ → Bool → Option ℕ → List ℕ → ℕ → Type 0
Reads front done byte true begun kept count = (all : List ℕ) × IsAt (front ++ byte ∷ []) all begun kept count
Reads front done byte false begun kept count = Begins (front ++ byte ∷ []) → ⊥
