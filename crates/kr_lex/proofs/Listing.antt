-- The table of tokens with one spelling: each is listed under its first byte, longer ones first.
use Rattle.std.proofs.Common.{◌≡◌, ℕ, zero, suc, ◌<◌, ◌≤◌, ◌⊎◌, inl, inr, Bool, true, not, ◌&&◌, ◌||◌, cond, ◌==◌, nat_lt, List, [], ◌∷◌, Option, Some, None, length, slice_index, get_or, refl, arith}
use lib.Dec.{leb}
use Rattle.std.specs.Char.{is_ascii_lowercase, is_ascii_alphabetic, is_ascii_digit}
use Rattle.std.specs.Str.{bytes_eq}
use Rattle.std.proofs.lemmas.Bool.{cond_both, and_parts, leb-true}
use Rattle.kr_lex.specs.declared.kind.Kind.{Kind}
use Rattle.kr_lex.specs.declared.kind.Kind.TheVariants as kinds
use Rattle.kr_lex.specs.Characters.{is_white}
use Rattle.kr_lex.specs.Spelling.{spelling}
use Rattle.kr_lex.specs.Table.{beginning_with, from_exclamation, from_semicolon, from_a, from_l}

abbrev pub all_small : List ℕ → Bool
all_small [] = true
all_small (b ∷ bs) = is_ascii_lowercase b && all_small bs

abbrev pub all_ascii : List ℕ → Bool
all_ascii [] = true
all_ascii (b ∷ bs) = nat_lt b 128 && all_ascii bs

-- ASCII, and neither of a name or number, nor white, nor a backslash
abbrev pub is_symbol : ℕ → Bool
is_symbol b = (nat_lt 32 b && nat_lt b 128) && not (is_ascii_alphabetic b || (is_ascii_digit b || (is_white b || (b == 92 || (b == 95 || b == 36)))))

-- the kinds that are looked up where a kind begins
abbrev pub peers : Kind → List Kind
peers kind = beginning_with (slice_index (spelling kind) 0)

-- the first kind of a list that is spelled so
abbrev pub find : List ℕ → List Kind → Option Kind
find text [] = None
find text (kind ∷ others) = cond (bytes_eq text (spelling kind)) (Some kind) (find text others)

-- a symbol, which alone is a token too
pub record IsSingle (b : ℕ) : Type 0 where
  pub symbol : is_symbol b ≡ true
  pub kind : Kind
  pub spelled : spelling kind ≡ b ∷ []

-- A kind with one spelling is in the table, and is found there; it is a word of small letters, or begins with a symbol.
pub record IsListed (kind : Kind) : Type 0 where
  pub index : ℕ
  pub within : index < length (peers kind)
  pub there : kind ≡ get_or (peers kind) index kind
  pub found : find (spelling kind) (peers kind) ≡ Some kind
  pub ascii : all_ascii (spelling kind) ≡ true
  pub shape : (all_small (spelling kind) ≡ true) ⊎ IsSingle (slice_index (spelling kind) 0)

pub listed : (kind : Kind) → 0 < length (spelling kind) → IsListed kind
unfolding spelling beginning_with
listed kinds.Identifier h = absurd (omega (arith, h))
listed kinds.Number h = absurd (omega (arith, h))
listed kinds.LongNumber h = absurd (omega (arith, h))
listed kinds.Contract h = absurd (omega (arith, h))
listed kinds.Requires h = absurd (omega (arith, h))
listed kinds.Ensures h = absurd (omega (arith, h))
listed kinds.Signals h = absurd (omega (arith, h))
listed kinds.Result h = absurd (omega (arith, h))
listed kinds.Old h = absurd (omega (arith, h))
listed kinds.True h = record { index = 4; within = omega arith; there = refl; found = refl; ascii = refl; shape = inl refl }
listed kinds.False h = record { index = 1; within = omega arith; there = refl; found = refl; ascii = refl; shape = inl refl }
listed kinds.Null h = record { index = 1; within = omega arith; there = refl; found = refl; ascii = refl; shape = inl refl }
listed kinds.Boolean h = record { index = 0; within = omega arith; there = refl; found = refl; ascii = refl; shape = inl refl }
listed kinds.Break h = record { index = 1; within = omega arith; there = refl; found = refl; ascii = refl; shape = inl refl }
listed kinds.Class h = record { index = 2; within = omega arith; there = refl; found = refl; ascii = refl; shape = inl refl }
listed kinds.Continue h = record { index = 0; within = omega arith; there = refl; found = refl; ascii = refl; shape = inl refl }
listed kinds.Do h = record { index = 2; within = omega arith; there = refl; found = refl; ascii = refl; shape = inl refl }
listed kinds.Else h = record { index = 1; within = omega arith; there = refl; found = refl; ascii = refl; shape = inl refl }
listed kinds.Extends h = record { index = 0; within = omega arith; there = refl; found = refl; ascii = refl; shape = inl refl }
listed kinds.Final h = record { index = 2; within = omega arith; there = refl; found = refl; ascii = refl; shape = inl refl }
listed kinds.For h = record { index = 4; within = omega arith; there = refl; found = refl; ascii = refl; shape = inl refl }
listed kinds.If h = record { index = 5; within = omega arith; there = refl; found = refl; ascii = refl; shape = inl refl }
listed kinds.Import h = record { index = 3; within = omega arith; there = refl; found = refl; ascii = refl; shape = inl refl }
listed kinds.Instanceof h = record { index = 1; within = omega arith; there = refl; found = refl; ascii = refl; shape = inl refl }
listed kinds.Int h = record { index = 4; within = omega arith; there = refl; found = refl; ascii = refl; shape = inl refl }
listed kinds.New h = record { index = 2; within = omega arith; there = refl; found = refl; ascii = refl; shape = inl refl }
listed kinds.Package h = record { index = 1; within = omega arith; there = refl; found = refl; ascii = refl; shape = inl refl }
listed kinds.Private h = record { index = 2; within = omega arith; there = refl; found = refl; ascii = refl; shape = inl refl }
listed kinds.Protected h = record { index = 0; within = omega arith; there = refl; found = refl; ascii = refl; shape = inl refl }
listed kinds.Public h = record { index = 3; within = omega arith; there = refl; found = refl; ascii = refl; shape = inl refl }
listed kinds.Return h = record { index = 0; within = omega arith; there = refl; found = refl; ascii = refl; shape = inl refl }
listed kinds.Static h = record { index = 2; within = omega arith; there = refl; found = refl; ascii = refl; shape = inl refl }
listed kinds.Super h = record { index = 5; within = omega arith; there = refl; found = refl; ascii = refl; shape = inl refl }
listed kinds.This h = record { index = 3; within = omega arith; there = refl; found = refl; ascii = refl; shape = inl refl }
listed kinds.Void h = record { index = 1; within = omega arith; there = refl; found = refl; ascii = refl; shape = inl refl }
listed kinds.While h = record { index = 0; within = omega arith; there = refl; found = refl; ascii = refl; shape = inl refl }
listed kinds.Abstract h = record { index = 0; within = omega arith; there = refl; found = refl; ascii = refl; shape = inl refl }
listed kinds.Assert h = record { index = 1; within = omega arith; there = refl; found = refl; ascii = refl; shape = inl refl }
listed kinds.Byte h = record { index = 2; within = omega arith; there = refl; found = refl; ascii = refl; shape = inl refl }
listed kinds.Case h = record { index = 4; within = omega arith; there = refl; found = refl; ascii = refl; shape = inl refl }
listed kinds.Catch h = record { index = 1; within = omega arith; there = refl; found = refl; ascii = refl; shape = inl refl }
listed kinds.Char h = record { index = 5; within = omega arith; there = refl; found = refl; ascii = refl; shape = inl refl }
listed kinds.Const h = record { index = 3; within = omega arith; there = refl; found = refl; ascii = refl; shape = inl refl }
listed kinds.Default h = record { index = 0; within = omega arith; there = refl; found = refl; ascii = refl; shape = inl refl }
listed kinds.Double h = record { index = 1; within = omega arith; there = refl; found = refl; ascii = refl; shape = inl refl }
listed kinds.Enum h = record { index = 2; within = omega arith; there = refl; found = refl; ascii = refl; shape = inl refl }
listed kinds.Finally h = record { index = 0; within = omega arith; there = refl; found = refl; ascii = refl; shape = inl refl }
listed kinds.Float h = record { index = 3; within = omega arith; there = refl; found = refl; ascii = refl; shape = inl refl }
listed kinds.Goto h = record { index = 0; within = omega arith; there = refl; found = refl; ascii = refl; shape = inl refl }
listed kinds.Implements h = record { index = 0; within = omega arith; there = refl; found = refl; ascii = refl; shape = inl refl }
listed kinds.Interface h = record { index = 2; within = omega arith; there = refl; found = refl; ascii = refl; shape = inl refl }
listed kinds.Long h = record { index = 0; within = omega arith; there = refl; found = refl; ascii = refl; shape = inl refl }
listed kinds.Native h = record { index = 0; within = omega arith; there = refl; found = refl; ascii = refl; shape = inl refl }
listed kinds.Short h = record { index = 4; within = omega arith; there = refl; found = refl; ascii = refl; shape = inl refl }
listed kinds.Strictfp h = record { index = 1; within = omega arith; there = refl; found = refl; ascii = refl; shape = inl refl }
listed kinds.Switch h = record { index = 3; within = omega arith; there = refl; found = refl; ascii = refl; shape = inl refl }
listed kinds.Synchronized h = record { index = 0; within = omega arith; there = refl; found = refl; ascii = refl; shape = inl refl }
listed kinds.Throw h = record { index = 2; within = omega arith; there = refl; found = refl; ascii = refl; shape = inl refl }
listed kinds.Throws h = record { index = 1; within = omega arith; there = refl; found = refl; ascii = refl; shape = inl refl }
listed kinds.Transient h = record { index = 0; within = omega arith; there = refl; found = refl; ascii = refl; shape = inl refl }
listed kinds.Try h = record { index = 5; within = omega arith; there = refl; found = refl; ascii = refl; shape = inl refl }
listed kinds.Volatile h = record { index = 0; within = omega arith; there = refl; found = refl; ascii = refl; shape = inl refl }
listed kinds.LeftParenthesis h = record { index = 0; within = omega arith; there = refl; found = refl; ascii = refl; shape = inr (record { symbol = refl; kind = kinds.LeftParenthesis; spelled = refl }) }
listed kinds.RightParenthesis h = record { index = 0; within = omega arith; there = refl; found = refl; ascii = refl; shape = inr (record { symbol = refl; kind = kinds.RightParenthesis; spelled = refl }) }
listed kinds.LeftBrace h = record { index = 0; within = omega arith; there = refl; found = refl; ascii = refl; shape = inr (record { symbol = refl; kind = kinds.LeftBrace; spelled = refl }) }
listed kinds.RightBrace h = record { index = 0; within = omega arith; there = refl; found = refl; ascii = refl; shape = inr (record { symbol = refl; kind = kinds.RightBrace; spelled = refl }) }
listed kinds.LeftBracket h = record { index = 0; within = omega arith; there = refl; found = refl; ascii = refl; shape = inr (record { symbol = refl; kind = kinds.LeftBracket; spelled = refl }) }
listed kinds.RightBracket h = record { index = 0; within = omega arith; there = refl; found = refl; ascii = refl; shape = inr (record { symbol = refl; kind = kinds.RightBracket; spelled = refl }) }
listed kinds.Semicolon h = record { index = 0; within = omega arith; there = refl; found = refl; ascii = refl; shape = inr (record { symbol = refl; kind = kinds.Semicolon; spelled = refl }) }
listed kinds.Comma h = record { index = 0; within = omega arith; there = refl; found = refl; ascii = refl; shape = inr (record { symbol = refl; kind = kinds.Comma; spelled = refl }) }
listed kinds.Dot h = record { index = 0; within = omega arith; there = refl; found = refl; ascii = refl; shape = inr (record { symbol = refl; kind = kinds.Dot; spelled = refl }) }
listed kinds.At h = record { index = 0; within = omega arith; there = refl; found = refl; ascii = refl; shape = inr (record { symbol = refl; kind = kinds.At; spelled = refl }) }
listed kinds.Equal h = record { index = 1; within = omega arith; there = refl; found = refl; ascii = refl; shape = inr (record { symbol = refl; kind = kinds.Equal; spelled = refl }) }
listed kinds.Greater h = record { index = 5; within = omega arith; there = refl; found = refl; ascii = refl; shape = inr (record { symbol = refl; kind = kinds.Greater; spelled = refl }) }
listed kinds.Less h = record { index = 3; within = omega arith; there = refl; found = refl; ascii = refl; shape = inr (record { symbol = refl; kind = kinds.Less; spelled = refl }) }
listed kinds.Exclamation h = record { index = 1; within = omega arith; there = refl; found = refl; ascii = refl; shape = inr (record { symbol = refl; kind = kinds.Exclamation; spelled = refl }) }
listed kinds.Tilde h = record { index = 0; within = omega arith; there = refl; found = refl; ascii = refl; shape = inr (record { symbol = refl; kind = kinds.Tilde; spelled = refl }) }
listed kinds.Question h = record { index = 0; within = omega arith; there = refl; found = refl; ascii = refl; shape = inr (record { symbol = refl; kind = kinds.Question; spelled = refl }) }
listed kinds.Colon h = record { index = 0; within = omega arith; there = refl; found = refl; ascii = refl; shape = inr (record { symbol = refl; kind = kinds.Colon; spelled = refl }) }
listed kinds.EqualEqual h = record { index = 0; within = omega arith; there = refl; found = refl; ascii = refl; shape = inr (record { symbol = refl; kind = kinds.Equal; spelled = refl }) }
listed kinds.GreaterEqual h = record { index = 3; within = omega arith; there = refl; found = refl; ascii = refl; shape = inr (record { symbol = refl; kind = kinds.Greater; spelled = refl }) }
listed kinds.LessEqual h = record { index = 2; within = omega arith; there = refl; found = refl; ascii = refl; shape = inr (record { symbol = refl; kind = kinds.Less; spelled = refl }) }
listed kinds.ExclamationEqual h = record { index = 0; within = omega arith; there = refl; found = refl; ascii = refl; shape = inr (record { symbol = refl; kind = kinds.Exclamation; spelled = refl }) }
listed kinds.AmpersandAmpersand h = record { index = 0; within = omega arith; there = refl; found = refl; ascii = refl; shape = inr (record { symbol = refl; kind = kinds.Ampersand; spelled = refl }) }
listed kinds.BarBar h = record { index = 1; within = omega arith; there = refl; found = refl; ascii = refl; shape = inr (record { symbol = refl; kind = kinds.Bar; spelled = refl }) }
listed kinds.PlusPlus h = record { index = 0; within = omega arith; there = refl; found = refl; ascii = refl; shape = inr (record { symbol = refl; kind = kinds.Plus; spelled = refl }) }
listed kinds.MinusMinus h = record { index = 0; within = omega arith; there = refl; found = refl; ascii = refl; shape = inr (record { symbol = refl; kind = kinds.Minus; spelled = refl }) }
listed kinds.Plus h = record { index = 2; within = omega arith; there = refl; found = refl; ascii = refl; shape = inr (record { symbol = refl; kind = kinds.Plus; spelled = refl }) }
listed kinds.Minus h = record { index = 2; within = omega arith; there = refl; found = refl; ascii = refl; shape = inr (record { symbol = refl; kind = kinds.Minus; spelled = refl }) }
listed kinds.Star h = record { index = 1; within = omega arith; there = refl; found = refl; ascii = refl; shape = inr (record { symbol = refl; kind = kinds.Star; spelled = refl }) }
listed kinds.Slash h = record { index = 1; within = omega arith; there = refl; found = refl; ascii = refl; shape = inr (record { symbol = refl; kind = kinds.Slash; spelled = refl }) }
listed kinds.Ampersand h = record { index = 2; within = omega arith; there = refl; found = refl; ascii = refl; shape = inr (record { symbol = refl; kind = kinds.Ampersand; spelled = refl }) }
listed kinds.Bar h = record { index = 2; within = omega arith; there = refl; found = refl; ascii = refl; shape = inr (record { symbol = refl; kind = kinds.Bar; spelled = refl }) }
listed kinds.Caret h = record { index = 1; within = omega arith; there = refl; found = refl; ascii = refl; shape = inr (record { symbol = refl; kind = kinds.Caret; spelled = refl }) }
listed kinds.Percent h = record { index = 1; within = omega arith; there = refl; found = refl; ascii = refl; shape = inr (record { symbol = refl; kind = kinds.Percent; spelled = refl }) }
listed kinds.LessLess h = record { index = 1; within = omega arith; there = refl; found = refl; ascii = refl; shape = inr (record { symbol = refl; kind = kinds.Less; spelled = refl }) }
listed kinds.GreaterGreater h = record { index = 4; within = omega arith; there = refl; found = refl; ascii = refl; shape = inr (record { symbol = refl; kind = kinds.Greater; spelled = refl }) }
listed kinds.GreaterGreaterGreater h = record { index = 2; within = omega arith; there = refl; found = refl; ascii = refl; shape = inr (record { symbol = refl; kind = kinds.Greater; spelled = refl }) }
listed kinds.PlusEqual h = record { index = 1; within = omega arith; there = refl; found = refl; ascii = refl; shape = inr (record { symbol = refl; kind = kinds.Plus; spelled = refl }) }
listed kinds.MinusEqual h = record { index = 1; within = omega arith; there = refl; found = refl; ascii = refl; shape = inr (record { symbol = refl; kind = kinds.Minus; spelled = refl }) }
listed kinds.StarEqual h = record { index = 0; within = omega arith; there = refl; found = refl; ascii = refl; shape = inr (record { symbol = refl; kind = kinds.Star; spelled = refl }) }
listed kinds.SlashEqual h = record { index = 0; within = omega arith; there = refl; found = refl; ascii = refl; shape = inr (record { symbol = refl; kind = kinds.Slash; spelled = refl }) }
listed kinds.AmpersandEqual h = record { index = 1; within = omega arith; there = refl; found = refl; ascii = refl; shape = inr (record { symbol = refl; kind = kinds.Ampersand; spelled = refl }) }
listed kinds.BarEqual h = record { index = 0; within = omega arith; there = refl; found = refl; ascii = refl; shape = inr (record { symbol = refl; kind = kinds.Bar; spelled = refl }) }
listed kinds.CaretEqual h = record { index = 0; within = omega arith; there = refl; found = refl; ascii = refl; shape = inr (record { symbol = refl; kind = kinds.Caret; spelled = refl }) }
listed kinds.PercentEqual h = record { index = 0; within = omega arith; there = refl; found = refl; ascii = refl; shape = inr (record { symbol = refl; kind = kinds.Percent; spelled = refl }) }
listed kinds.LessLessEqual h = record { index = 0; within = omega arith; there = refl; found = refl; ascii = refl; shape = inr (record { symbol = refl; kind = kinds.Less; spelled = refl }) }
listed kinds.GreaterGreaterEqual h = record { index = 1; within = omega arith; there = refl; found = refl; ascii = refl; shape = inr (record { symbol = refl; kind = kinds.Greater; spelled = refl }) }
listed kinds.GreaterGreaterGreaterEqual h = record { index = 0; within = omega arith; there = refl; found = refl; ascii = refl; shape = inr (record { symbol = refl; kind = kinds.Greater; spelled = refl }) }

-- no spelling is longer than n
abbrev none_longer : ℕ → List Kind → Bool
none_longer n [] = true
none_longer n (kind ∷ kinds) = leb (length (spelling kind)) n && none_longer n kinds

abbrev falls : List Kind → Bool
falls [] = true
falls (kind ∷ kinds) = (leb 1 (length (spelling kind)) && none_longer (length (spelling kind)) kinds) && falls kinds

falls_from_exclamation : (first : ℕ) → falls (from_exclamation first) ≡ true
unfolding spelling
falls_from_exclamation first =
    cond_both (first == 33) _ _ (λ os. falls os ≡ true) (λ _. refl) (λ _.
    cond_both (first == 37) _ _ (λ os. falls os ≡ true) (λ _. refl) (λ _.
    cond_both (first == 38) _ _ (λ os. falls os ≡ true) (λ _. refl) (λ _.
    cond_both (first == 40) _ _ (λ os. falls os ≡ true) (λ _. refl) (λ _.
    cond_both (first == 41) _ _ (λ os. falls os ≡ true) (λ _. refl) (λ _.
    cond_both (first == 42) _ _ (λ os. falls os ≡ true) (λ _. refl) (λ _.
    cond_both (first == 43) _ _ (λ os. falls os ≡ true) (λ _. refl) (λ _.
    cond_both (first == 44) _ _ (λ os. falls os ≡ true) (λ _. refl) (λ _.
    cond_both (first == 45) _ _ (λ os. falls os ≡ true) (λ _. refl) (λ _.
    cond_both (first == 46) _ _ (λ os. falls os ≡ true) (λ _. refl) (λ _.
    cond_both (first == 47) _ _ (λ os. falls os ≡ true) (λ _. refl) (λ _.
    cond_both (first == 58) _ _ (λ os. falls os ≡ true) (λ _. refl) (λ _.
    refl))))))))))))

falls_from_semicolon : (first : ℕ) → falls (from_semicolon first) ≡ true
unfolding spelling
falls_from_semicolon first =
    cond_both (first == 59) _ _ (λ os. falls os ≡ true) (λ _. refl) (λ _.
    cond_both (first == 60) _ _ (λ os. falls os ≡ true) (λ _. refl) (λ _.
    cond_both (first == 61) _ _ (λ os. falls os ≡ true) (λ _. refl) (λ _.
    cond_both (first == 62) _ _ (λ os. falls os ≡ true) (λ _. refl) (λ _.
    cond_both (first == 63) _ _ (λ os. falls os ≡ true) (λ _. refl) (λ _.
    cond_both (first == 64) _ _ (λ os. falls os ≡ true) (λ _. refl) (λ _.
    cond_both (first == 91) _ _ (λ os. falls os ≡ true) (λ _. refl) (λ _.
    cond_both (first == 93) _ _ (λ os. falls os ≡ true) (λ _. refl) (λ _.
    cond_both (first == 94) _ _ (λ os. falls os ≡ true) (λ _. refl) (λ _.
    refl)))))))))

falls_from_a : (first : ℕ) → falls (from_a first) ≡ true
unfolding spelling
falls_from_a first =
    cond_both (first == 97) _ _ (λ os. falls os ≡ true) (λ _. refl) (λ _.
    cond_both (first == 98) _ _ (λ os. falls os ≡ true) (λ _. refl) (λ _.
    cond_both (first == 99) _ _ (λ os. falls os ≡ true) (λ _. refl) (λ _.
    cond_both (first == 100) _ _ (λ os. falls os ≡ true) (λ _. refl) (λ _.
    cond_both (first == 101) _ _ (λ os. falls os ≡ true) (λ _. refl) (λ _.
    cond_both (first == 102) _ _ (λ os. falls os ≡ true) (λ _. refl) (λ _.
    cond_both (first == 103) _ _ (λ os. falls os ≡ true) (λ _. refl) (λ _.
    cond_both (first == 105) _ _ (λ os. falls os ≡ true) (λ _. refl) (λ _.
    refl))))))))

falls_from_l : (first : ℕ) → falls (from_l first) ≡ true
unfolding spelling
falls_from_l first =
    cond_both (first == 108) _ _ (λ os. falls os ≡ true) (λ _. refl) (λ _.
    cond_both (first == 110) _ _ (λ os. falls os ≡ true) (λ _. refl) (λ _.
    cond_both (first == 112) _ _ (λ os. falls os ≡ true) (λ _. refl) (λ _.
    cond_both (first == 114) _ _ (λ os. falls os ≡ true) (λ _. refl) (λ _.
    cond_both (first == 115) _ _ (λ os. falls os ≡ true) (λ _. refl) (λ _.
    cond_both (first == 116) _ _ (λ os. falls os ≡ true) (λ _. refl) (λ _.
    cond_both (first == 118) _ _ (λ os. falls os ≡ true) (λ _. refl) (λ _.
    cond_both (first == 119) _ _ (λ os. falls os ≡ true) (λ _. refl) (λ _.
    cond_both (first == 123) _ _ (λ os. falls os ≡ true) (λ _. refl) (λ _.
    cond_both (first == 124) _ _ (λ os. falls os ≡ true) (λ _. refl) (λ _.
    cond_both (first == 125) _ _ (λ os. falls os ≡ true) (λ _. refl) (λ _.
    cond_both (first == 126) _ _ (λ os. falls os ≡ true) (λ _. refl) (λ _.
    refl))))))))))))

falls_beginning : (first : ℕ) → falls (beginning_with first) ≡ true
unfolding beginning_with
falls_beginning first =
    cond_both (nat_lt first 59) _ _ (λ os. falls os ≡ true) (λ _. falls_from_exclamation first) (λ _.
    cond_both (nat_lt first 97) _ _ (λ os. falls os ≡ true) (λ _. falls_from_semicolon first) (λ _.
    cond_both (nat_lt first 108) _ _ (λ os. falls os ≡ true) (λ _. falls_from_a first) (λ _. falls_from_l first)))

no_longer_at : (n k : ℕ) (os : List Kind) (kind : Kind) → none_longer n os ≡ true → k < length os → kind ≡ get_or os k kind → length (spelling kind) ≤ n
no_longer_at n k [] kind h l e = absurd (omega arith)
no_longer_at n zero (o ∷ os) kind h l e = rw e (leb-true _ _ (and_parts _ _ h).0)
no_longer_at n (suc k) (o ∷ os) kind h l e = no_longer_at n k os kind (and_parts _ _ h).1 (omega arith) e

some_at : (os : List Kind) (k : ℕ) (kind : Kind) → falls os ≡ true → k < length os → kind ≡ get_or os k kind → 0 < length (spelling kind)
some_at [] k kind f l e = absurd (omega arith)
some_at (o ∷ os) zero kind f l e = rw e (leb-true _ _ (and_parts _ _ (and_parts _ _ f).0).0)
some_at (o ∷ os) (suc k) kind f l e = some_at os k kind (and_parts _ _ f).1 (omega arith) e

pub some_in_table : (first k : ℕ) (kind : Kind) → k < length (beginning_with first) → kind ≡ get_or (beginning_with first) k kind → 0 < length (spelling kind)
some_in_table first k kind l e = some_at (beginning_with first) k kind (falls_beginning first) l e

-- in a descending list, later items are not longer
not_longer : (os : List Kind) (i k : ℕ) (here later : Kind) → falls os ≡ true → i ≤ k → k < length os → here ≡ get_or os i here → later ≡ get_or os k later
    → length (spelling later) ≤ length (spelling here)
not_longer [] i k here later f h l e g = absurd (omega arith)
not_longer (o ∷ os) zero zero here later f h l e g = rw (e, g) (omega arith)
not_longer (o ∷ os) zero (suc k) here later f h l e g = rw e (no_longer_at (length (spelling o)) k os later (and_parts _ _ (and_parts _ _ f).0).1 (omega arith) g)
not_longer (o ∷ os) (suc i) zero here later f h l e g = absurd (omega arith)
not_longer (o ∷ os) (suc i) (suc k) here later f h l e g = not_longer os i k here later (and_parts _ _ f).1 (omega arith) (omega arith) e g

pub not_longer_in_table : (first i k : ℕ) (here later : Kind) → i ≤ k → k < length (beginning_with first) → here ≡ get_or (beginning_with first) i here
    → later ≡ get_or (beginning_with first) k later → length (spelling later) ≤ length (spelling here)
not_longer_in_table first i k here later h l e g = not_longer (beginning_with first) i k here later (falls_beginning first) h l e g
