-- To be believed: lines and columns (Java Language Specification 3.4): both are counted from 1, columns in characters. LF, CR,
-- and CR LF together, end a line.
use Rattle.std.specs.Prelude.{ℕ, ◌+◌, Bool, false, not, ◌&&◌, ◌||◌, ◌==◌, cond, List, [], ◌∷◌}
use Rattle.kr_base.specs.declared.place.Place.{Place}
use Rattle.kr_lex.specs.Characters.{is_line_end, begins_character}

-- a byte ends a line of its own, given the byte before it
abbrev pub ends_line : ℕ → ℕ → Bool
ends_line before b = b == 13 || (b == 10 && not (before == 13))

-- how many lines end in a text, given the byte before it
abbrev pub line_ends : ℕ → List ℕ → ℕ
line_ends before [] = 0
line_ends before (b ∷ bs) = cond (ends_line before b) 1 0 + line_ends b bs

abbrev pub has_line_end : List ℕ → Bool
has_line_end [] = false
has_line_end (b ∷ bs) = is_line_end b || has_line_end bs

-- the text after the last line end
abbrev pub last_line : List ℕ → List ℕ
last_line [] = []
last_line (b ∷ bs) = cond (has_line_end (b ∷ bs)) (last_line bs) (b ∷ bs)

-- how many characters a text of UTF-8 has
abbrev pub characters : List ℕ → ℕ
characters [] = 0
characters (b ∷ bs) = cond (begins_character b) 1 0 + characters bs

abbrev pub line_after : List ℕ → ℕ
line_after front = 1 + line_ends 0 front

abbrev pub column_after : List ℕ → ℕ
column_after front = 1 + characters (last_line front)

-- the place in a file right after a text
unfoldable pub place_after : ℕ → List ℕ → Place
place_after file front = record { file = file; line = line_after front; col = column_after front }
