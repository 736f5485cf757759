-- Between crates: the tokens of one spelling by their first byte, longer ones first.
use Rattle.std.specs.Prelude.{ℕ, List, [], ◌∷◌, cond, ◌==◌, nat_lt}
use Rattle.kr_lex.specs.declared.kind.Kind.{Kind}
use Rattle.kr_lex.specs.declared.kind.Kind.TheVariants as kinds

-- those that begin with a byte below `;`
abbrev pub from_exclamation : ℕ → List Kind
from_exclamation first =
    cond (first == 33) (kinds.ExclamationEqual ∷ kinds.Exclamation ∷ []) (
    cond (first == 37) (kinds.PercentEqual ∷ kinds.Percent ∷ []) (
    cond (first == 38) (kinds.AmpersandAmpersand ∷ kinds.AmpersandEqual ∷ kinds.Ampersand ∷ []) (
    cond (first == 40) (kinds.LeftParenthesis ∷ []) (
    cond (first == 41) (kinds.RightParenthesis ∷ []) (
    cond (first == 42) (kinds.StarEqual ∷ kinds.Star ∷ []) (
    cond (first == 43) (kinds.PlusPlus ∷ kinds.PlusEqual ∷ kinds.Plus ∷ []) (
    cond (first == 44) (kinds.Comma ∷ []) (
    cond (first == 45) (kinds.MinusMinus ∷ kinds.MinusEqual ∷ kinds.Minus ∷ []) (
    cond (first == 46) (kinds.Dot ∷ []) (
    cond (first == 47) (kinds.SlashEqual ∷ kinds.Slash ∷ []) (
    cond (first == 58) (kinds.Colon ∷ []) (
    []))))))))))))

-- those that begin with a byte from `;` to `^`
abbrev pub from_semicolon : ℕ → List Kind
from_semicolon first =
    cond (first == 59) (kinds.Semicolon ∷ []) (
    cond (first == 60) (kinds.LessLessEqual ∷ kinds.LessLess ∷ kinds.LessEqual ∷ kinds.Less ∷ []) (
    cond (first == 61) (kinds.EqualEqual ∷ kinds.Equal ∷ []) (
    cond (first == 62) (kinds.GreaterGreaterGreaterEqual ∷ kinds.GreaterGreaterEqual ∷ kinds.GreaterGreaterGreater ∷ kinds.GreaterEqual ∷ kinds.GreaterGreater ∷ kinds.Greater ∷ []) (
    cond (first == 63) (kinds.Question ∷ []) (
    cond (first == 64) (kinds.At ∷ []) (
    cond (first == 91) (kinds.LeftBracket ∷ []) (
    cond (first == 93) (kinds.RightBracket ∷ []) (
    cond (first == 94) (kinds.CaretEqual ∷ kinds.Caret ∷ []) (
    [])))))))))

-- those that begin with a letter from `a` to `i`
abbrev pub from_a : ℕ → List Kind
from_a first =
    cond (first == 97) (kinds.Abstract ∷ kinds.Assert ∷ []) (
    cond (first == 98) (kinds.Boolean ∷ kinds.Break ∷ kinds.Byte ∷ []) (
    cond (first == 99) (kinds.Continue ∷ kinds.Catch ∷ kinds.Class ∷ kinds.Const ∷ kinds.Case ∷ kinds.Char ∷ []) (
    cond (first == 100) (kinds.Default ∷ kinds.Double ∷ kinds.Do ∷ []) (
    cond (first == 101) (kinds.Extends ∷ kinds.Else ∷ kinds.Enum ∷ []) (
    cond (first == 102) (kinds.Finally ∷ kinds.False ∷ kinds.Final ∷ kinds.Float ∷ kinds.For ∷ []) (
    cond (first == 103) (kinds.Goto ∷ []) (
    cond (first == 105) (kinds.Implements ∷ kinds.Instanceof ∷ kinds.Interface ∷ kinds.Import ∷ kinds.Int ∷ kinds.If ∷ []) (
    []))))))))

-- those that begin with a byte from `l` on
abbrev pub from_l : ℕ → List Kind
from_l first =
    cond (first == 108) (kinds.Long ∷ []) (
    cond (first == 110) (kinds.Native ∷ kinds.Null ∷ kinds.New ∷ []) (
    cond (first == 112) (kinds.Protected ∷ kinds.Package ∷ kinds.Private ∷ kinds.Public ∷ []) (
    cond (first == 114) (kinds.Return ∷ []) (
    cond (first == 115) (kinds.Synchronized ∷ kinds.Strictfp ∷ kinds.Static ∷ kinds.Switch ∷ kinds.Short ∷ kinds.Super ∷ []) (
    cond (first == 116) (kinds.Transient ∷ kinds.Throws ∷ kinds.Throw ∷ kinds.This ∷ kinds.True ∷ kinds.Try ∷ []) (
    cond (first == 118) (kinds.Volatile ∷ kinds.Void ∷ []) (
    cond (first == 119) (kinds.While ∷ []) (
    cond (first == 123) (kinds.LeftBrace ∷ []) (
    cond (first == 124) (kinds.BarEqual ∷ kinds.BarBar ∷ kinds.Bar ∷ []) (
    cond (first == 125) (kinds.RightBrace ∷ []) (
    cond (first == 126) (kinds.Tilde ∷ []) (
    []))))))))))))

-- all that begin with a byte
unfoldable pub beginning_with : ℕ → List Kind
beginning_with first =
    cond (nat_lt first 59) (from_exclamation first)
    (cond (nat_lt first 97) (from_semicolon first)
    (cond (nat_lt first 108) (from_a first) (from_l first)))
