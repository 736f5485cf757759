-- Between crates: the meanings of a file's nodes.
use Rattle.std.specs.Prelude.{List}
use Rattle.kr_types_resolving.specs.declared.meaning.Meaning.{Meaning}

pub record Meanings : Type 0 where
  pub items : List Meaning
