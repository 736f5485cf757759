-- Between crates: the relation of a cursor to the text before it.
use Rattle.std.specs.Prelude.{◌≡◌, ℕ, Bool, ◌+◌, ◌-◌, ◌≤◌, List, length, take, slice_index, cond, ◌==◌}
use Rattle.kr_lex.specs.declared.cursor.Cursor.{Cursor}
use Rattle.kr_lex.specs.Places.{line_after, column_after}

-- the byte before an index, 0 at the first
abbrev pub byte_before : List ℕ → ℕ → ℕ
byte_before bytes at = cond (at == 0) 0 (slice_index bytes (at - 1))

-- 0 or 1
abbrev pub one_if : Bool → ℕ
one_if test = cond test 1 0

-- The cursor is in the line after the text before it; its column is counted from its origin.
pub record Stands (bytes : List ℕ) (cursor : Cursor) : Type 0 where
  pub within : cursor.at ≤ length bytes
  pub line : cursor.line ≡ line_after (take cursor.at bytes)
  pub column : column_after (take cursor.at bytes) + cursor.origin ≡ cursor.at + 1
