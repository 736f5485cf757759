-- Between crates: the object domains that a document declares, by the numbers of their classes.
use Rattle.std.specs.Prelude.{◌≡◌, ℕ, ◌<◌, List, [], length, map, All}
use Rattle.std.proofs.Common.{get_or}
use Rattle.kr_fin.specs.declared.document.Count.{Count}
use Rattle.kr_space_rules.specs.declared.objects.Declared.{Declared}

abbrev pub no_count : Count
no_count = record { name = []; class = []; count = 0 }

abbrev pub declared_shown : List Count → Declared → ℕ × Count
declared_shown all d = (d.class, get_or all d.at no_count)

-- a place in the document
abbrev pub IsDeclared : List Count → Declared → Type 0
IsDeclared all d = d.at < length all

pub record AreDeclared (all : List Count) (domains : List Declared) (objects : List (ℕ × Count)) : Type 0 where
  pub stand : All (IsDeclared all) domains
  pub shown : map (declared_shown all) domains ≡ objects
