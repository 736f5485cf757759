-- To be believed: contract lines, as the Java Modeling Language writes them: two slashes and `@`, a word, and an expression up
-- to a semicolon, which ends what the line has before its comment.
use Rattle.std.specs.Prelude.{◌≡◌, ℕ, ◌⊎◌, Bool, true, false, not, ◌&&◌, ◌||◌, ◌==◌, cond, List, [], ◌∷◌, ◌++◌, codes, slice_index}
use Rattle.std.specs.List.{AllByRecursion}
use Rattle.kr_lex.specs.declared.kind.Kind.{Kind}
use Rattle.kr_lex.specs.declared.kind.Kind.TheVariants as kinds
use Rattle.kr_lex.specs.Characters.{is_line_end, is_white, EndsWord}

-- the spelling of the kinds that occur only in contract lines
unfoldable pub contract_spelling : Kind → List ℕ
contract_spelling kinds.Contract = codes "//@"
contract_spelling kinds.Requires = codes "requires"
contract_spelling kinds.Ensures = codes "ensures"
contract_spelling kinds.Signals = codes "signals"
contract_spelling kinds.Result = codes "\\result"
contract_spelling kinds.Old = codes "\\old"
contract_spelling _ = []

-- `//@`
abbrev pub BeginsContract : List ℕ → Type 0
BeginsContract (a ∷ b ∷ c ∷ more) = (a ≡ 47) × (b ≡ 47) × (c ≡ 64)
BeginsContract _ = ⊥

-- white space within a line
abbrev pub is_blank : ℕ → Bool
is_blank b = is_white b && not (is_line_end b)

-- the text before the line's end or `//`
abbrev pub code_of : List ℕ → List ℕ
code_of [] = []
code_of (b ∷ bs) = cond (is_line_end b || (b == 47 && slice_index bs 0 == 47)) [] (b ∷ code_of bs)

-- the last byte that is no white space, or the given one if there is none
abbrev pub last_solid : ℕ → List ℕ → ℕ
last_solid before [] = before
last_solid before (b ∷ bs) = last_solid (cond (is_white b) before b) bs

-- the line has a `/*`
abbrev pub has_block : List ℕ → Bool
has_block [] = false
has_block (b ∷ bs) = not (is_line_end b) && ((b == 47 && slice_index bs 0 == 42) || has_block bs)

-- the start of a contract line: mark, white space, and word
abbrev pub head_of : Kind → List ℕ → List ℕ
head_of kind blank = 47 ∷ 47 ∷ 64 ∷ blank ++ contract_spelling kind

-- the words of contract lines
abbrev pub IsContractWord : Kind → Type 0
IsContractWord kind = (kind ≡ kinds.Requires) ⊎ (kind ≡ kinds.Ensures) ⊎ (kind ≡ kinds.Signals)

-- The text begins with a contract line that has this word, after this white space.
pub record IsContract (text : List ℕ) (kind : Kind) (blank rest : List ℕ) : Type 0 where
  pub word : IsContractWord kind
  pub white : AllByRecursion (λ b. is_blank b ≡ true) blank
  pub spelled : text ≡ head_of kind blank ++ rest
  pub whole : EndsWord rest
  pub closed : last_solid 0 (code_of rest) ≡ 59
  pub no_block : has_block text ≡ false

-- a primary that only contract lines have
pub record IsContractToken (kind : Kind) (text : List ℕ) : Type 0 where
  pub one_of : (kind ≡ kinds.Result) ⊎ (kind ≡ kinds.Old)
  pub spelled : text ≡ contract_spelling kind
