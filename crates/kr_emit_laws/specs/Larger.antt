-- Between crates: a class table with one class more, after the others.
use Rattle.std.specs.Prelude.{ℕ, ◌≡◌, List, Some, None, false, bytes_eq, flat_map, option_to_list}
use Rattle.kr_classes_table.specs.Table.{Heading, Table, Method, number_of, outer_of, super_of, is_below, field_named, method_named, class_at}
use Rattle.kr_classes_table.specs.Constants.{outer_class}

-- what the names of classes mean, where one name more means a class
pub record AreNames (hs more : List Heading) (name : List ℕ) : Type 0 where
  pub kept : (n : List ℕ) (c : ℕ) → number_of hs n ≡ Some c → number_of more n ≡ Some c
  pub other : (n : List ℕ) → bytes_eq name n ≡ false → number_of more n ≡ number_of hs n
  pub outer : (c : ℕ) → outer_of more c ≡ outer_of hs c

-- the class of this name has nothing but methods
pub record IsLarger (table larger : Table) (name : List ℕ) : Type 0 where
  pub names : AreNames table.headings larger.headings name
  pub super : (c : ℕ) → super_of larger c ≡ super_of table c
  pub outer : (c : ℕ) → outer_class larger c ≡ outer_class table c
  pub below : (c d : ℕ) → is_below larger c d ≡ is_below table c d
  pub constructors : (c : ℕ) → flat_map (λ d. d.constructors) (option_to_list (class_at larger.classes c)) ≡ flat_map (λ d. d.constructors) (option_to_list (class_at table.classes c))
  pub fields : (c : ℕ) (n : List ℕ) → field_named larger c n ≡ field_named table c n
  pub methods : (c : ℕ) (n : List ℕ) (m : Method) → method_named table c n ≡ Some m → method_named larger c n ≡ Some m
  -- a class that has an outer one is no new one
  pub inner : (c o : ℕ) (n : List ℕ) → outer_class table c ≡ Some o → method_named table c n ≡ None → method_named larger c n ≡ None
  -- the new class has no fields
  pub fresh : (n : List ℕ) (k : ℕ) (m : List ℕ) → number_of table.headings n ≡ None → number_of larger.headings n ≡ Some k → field_named larger k m ≡ None
