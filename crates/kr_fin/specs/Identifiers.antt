-- To be believed: identifiers as texts (Java Language Specification 3.8), whether they are keywords or not.
use Rattle.std.specs.Prelude.{ℕ, Bool, false, ◌&&◌, List, [], ◌∷◌, chars}
use Rattle.std.specs.List.{list_all}
use Rattle.std.specs.Str.{is_utf8}
use Rattle.kr_lex.specs.Characters.{is_start, is_part}

-- a character that starts names, and then characters that names go on with
abbrev pub is_name : List ℕ → Bool
is_name [] = false
is_name (c ∷ cs) = is_start c && list_all is_part cs

unfoldable pub is_identifier : List ℕ → Bool
is_identifier text = is_utf8 text && is_name (chars text)
