-- To be believed: the rows of a shard, as they are kept.
use Rattle.std.specs.Prelude.{ℕ, List}

-- their lines, one after another, and how many they are
pub record RowLines : Type 0 where
  pub bytes : List ℕ
  pub count : ℕ
