-- To be believed: the gaps between tokens: white space and comments (Java Language Specification 3.6 and 3.7).
use Rattle.std.specs.Prelude.{◌≡◌, ℕ, ◌≤◌, ◌≢◌, ◌⊎◌, true, false, List, [], ◌∷◌, ◌++◌, length, slice_index}
use Rattle.std.specs.List.{AllByRecursion}
use Rattle.kr_lex.specs.Characters.{is_line_end, is_white}

-- the text ends, or its line does
abbrev pub EndsLine : List ℕ → Type 0
EndsLine [] = Unit {0}
EndsLine (b ∷ more) = is_line_end b ≡ true

-- two slashes, no `@`, and all up to the line's end
pub record IsLineComment (gap rest : List ℕ) : Type 0 where
  pub body : List ℕ
  pub spelled : gap ≡ 47 ∷ 47 ∷ body
  pub no_contract : slice_index body 0 ≢ 64
  pub in_line : AllByRecursion (λ b. is_line_end b ≡ false) body
  pub through : EndsLine rest

-- `/*`, and all up to and including the first later `*/`
pub record IsBlockComment (gap rest : List ℕ) : Type 0 where
  pub body : List ℕ
  pub spelled : gap ≡ 47 ∷ 42 ∷ body ++ 42 ∷ 47 ∷ []
  pub first : (other more : List ℕ) → body ++ 42 ∷ 47 ∷ rest ≡ other ++ 42 ∷ 47 ∷ more → length body ≤ length other

-- A text, before the rest, is a gap: a character of white space, or a comment.
pub data IsGap (gap rest : List ℕ) : Type 0 where
  white : (b : ℕ) → gap ≡ b ∷ [] → is_white b ≡ true → IsGap gap rest
  line : IsLineComment gap rest → IsGap gap rest
  block : IsBlockComment gap rest → IsGap gap rest

-- a comment begins, or a contract line
abbrev pub BeginsComment : List ℕ → Type 0
BeginsComment (a ∷ b ∷ more) = (a ≡ 47) × ((b ≡ 47) ⊎ (b ≡ 42))
BeginsComment _ = ⊥
