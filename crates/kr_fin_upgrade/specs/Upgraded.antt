-- To be believed: the finitization of version 2 that says what one of version 1 says: each class with a line is an object domain of its
-- own name, and so is, without objects, each other name in it that an object domain may have.
use Rattle.std.specs.Prelude.{ℕ, Bool, List, [], ◌∷◌, ◌++◌, flat_map, fold, if◌then◌else◌}
use Rattle.std.specs.List.{list_any}
use Rattle.std.specs.Ordering.{nat_cmp, is_eq, match_ordering}
use Rattle.std.specs.Cmp.Lexicographic.{slice_cmp}
use Rattle.kr_fin.specs.declared.document.Count.{Count}
use Rattle.kr_fin.specs.declared.document.FinDoc.{FinDoc}
use Rattle.kr_fin.specs.declared.document.NamedDomain.{NamedDomain}
use Rattle.kr_fin.specs.declared.document.Item.{Item}
use Rattle.kr_fin.specs.declared.document.Item.TheVariants.{Number, Range, Truth, Name}
use Rattle.kr_fin.specs.Shapes.{is_domain_name}

abbrev Text : Type 0
Text = List ℕ

-- an object domain that is named as its class
abbrev pub line : Text → ℕ → Count
line n count = record { name = n; class = n; count = count }

-- a name without objects, where it may be a domain's
abbrev pub name_lines : Text → List Count
name_lines n = if is_domain_name n then line n 0 ∷ [] else []

abbrev pub item_lines : Item → List Count
item_lines (Name n) = name_lines n
item_lines (Number z) = []
item_lines (Range from to) = []
item_lines (Truth b) = []

abbrev pub domain_lines : List NamedDomain → List Count
domain_lines ds = flat_map (λ d. flat_map item_lines d.domain) ds

-- ---- lists in the order of the names' bytes

abbrev pub has_line : List Count → Text → Bool
has_line cs n = list_any (λ c. is_eq (slice_cmp nat_cmp n c.name)) cs

-- one more at its place
abbrev pub put_line : List Count → Text → ℕ → List Count
put_line [] n count = line n count ∷ []
put_line (c ∷ cs) n count =
    match_ordering (slice_cmp nat_cmp n c.name) (line n count ∷ c ∷ cs) (line c.name count ∷ cs) (c ∷ put_line cs n count)

-- one more where its name has none
abbrev pub add_line : List Count → Count → List Count
add_line cs c = if has_line cs c.name then cs else put_line cs c.name c.count

abbrev pub all_lines : List Count → List Count
all_lines cs = fold add_line [] cs

-- ---- the whole

abbrev pub lines_of : FinDoc → List Count
lines_of d = d.objects ++ (name_lines d.root ++ (domain_lines d.fields ++ domain_lines d.params))

unfoldable pub up : FinDoc → FinDoc
up d = record {
  version = 2;
  root = d.root;
  fuel = d.fuel;
  objects = all_lines (lines_of d);
  arrays = d.arrays;
  fields = d.fields;
  params = d.params;
}
