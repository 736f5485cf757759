-- Between crates: domains of numbers of both widths, and the rules that others break, worked by hand.
use Rattle.std.specs.Prelude.{◌≡◌, ℕ, ◌++◌, pos, negsuc, List, [], ◌∷◌, true, Option, None, codes}
use Rattle.kr_ast.specs.Tree as trees
use Rattle.kr_ast.specs.Tree.{Tree}
use Rattle.kr_ast.specs.declared.node.Primitive.TheVariants.{Long}
use Rattle.kr_base.specs.Places.{nowhere}
use Rattle.kr_value.specs.declared.value.Value.TheVariants.{Int}
use Rattle.kr_mean.specs.declared.mode.Mode.TheVariants.{List as Listing}
use Rattle.kr_mean.specs.Problem.{Plain}
use Rattle.kr_fin.specs.declared.document.FinDoc.{FinDoc}
use Rattle.kr_fin.specs.declared.document.Item.{Item as FinItem}
use Rattle.kr_fin.specs.declared.document.Item.TheVariants.{Number, Range, Truth}
use Rattle.kr_space_meaning.specs.Examples.{always, array_of, arrays, broken, field_of, given, int_field, method_of, name, node_and, objects, parameters, plain_document, plain_root, refused, rep_ok_of, two_nodes, with_parameter}

abbrev Text : Type 0
Text = List ℕ

abbrev pub long : Tree
long = trees.PrimitiveType nowhere Long

-- a root with an int and a long
abbrev pub with_long : List Tree
with_long = plain_root (int_field (codes "a") ∷ field_of long (codes "b") ∷ [])

abbrev pub of_both : List FinItem → List FinItem → FinDoc
of_both a b = plain_document (codes "R") (objects (codes "R") 1 ∷ []) (given (codes "R.a") a ∷ given (codes "R.b") b ∷ [])

-- of the field a and of the field b
abbrev pub of_int : List FinItem → Option (Text × Text)
of_int items = refused with_long (of_both items (Number (pos 0) ∷ [])) Listing

abbrev pub of_long : List FinItem → Option (Text × Text)
of_long items = refused with_long (of_both (Number (pos 0) ∷ []) items) Listing

-- a root with an array of longs, and one array of a type
abbrev pub of_array : Text → List FinItem → Option (Text × Text)
of_array type elements =
    refused (plain_root (field_of (array_of long) (codes "a") ∷ []))
    (record (plain_document (codes "R") (objects (codes "R") 1 ∷ []) (given (codes "R.a") (name type ∷ []) ∷ given (type ++ codes ".*") elements ∷ [])) {
      arrays = arrays type 1 (Number (pos 1) ∷ []) ∷ [];
    })
    Listing

pub record LongRefusals : Type 0 where
  -- the least and the greatest int, and the numbers beside them
  pub ends_of_int : of_int (Number (negsuc 2147483647) ∷ Number (pos 2147483647) ∷ []) ≡ None
  pub above_int : of_int (Number (pos 2147483648) ∷ []) ≡ broken (codes "S4") (codes "fields.R.a")
  pub below_int : of_int (Number (negsuc 2147483648) ∷ []) ≡ broken (codes "S4") (codes "fields.R.a")
  pub range_to_the_greatest : of_int (Range (pos 2147483646) (pos 2147483647) ∷ []) ≡ None
  pub range_above_int : of_int (Range (pos 2147483647) (pos 2147483648) ∷ []) ≡ broken (codes "S4") (codes "fields.R.a")
  pub range_from_below_int : of_int (Range (negsuc 2147483648) (negsuc 2147483647) ∷ []) ≡ broken (codes "S4") (codes "fields.R.a")
  pub empty_range_past_int : of_int (Number (pos 0) ∷ Range (pos 2147483649) (pos 2147483648) ∷ []) ≡ None
  pub beside_int : of_long (Range (negsuc 2147483648) (negsuc 2147483647) ∷ Range (pos 2147483647) (pos 2147483648) ∷ []) ≡ None
  pub ends_of_long : of_long (Number (negsuc 9223372036854775807) ∷ Number (pos 9223372036854775807) ∷ []) ≡ None
  pub truth_for_long : of_long (Truth true ∷ []) ≡ broken (codes "S4") (codes "fields.R.b")
  pub null_for_long : of_long (name (codes "null") ∷ []) ≡ broken (codes "S4") (codes "fields.R.b")
  -- numbers that differ in their high bits alone are not one number
  pub high_bits : of_long (Number (pos 0) ∷ Number (pos 4294967296) ∷ []) ≡ None
  pub long_twice : of_long (Number (pos 4294967296) ∷ Range (pos 4294967295) (pos 4294967296) ∷ []) ≡ broken (codes "S5") (codes "fields.R.b")
  pub long_elements : of_array (codes "long[]") (Number (pos 2147483648) ∷ []) ≡ None
  pub ints_for_longs : of_array (codes "int[]") (Number (pos 0) ∷ []) ≡ broken (codes "S4") (codes "fields.R.a")

pub record LongProblems : Type 0 where
  pub of_a_parameter : parameters (node_and (rep_ok_of always ∷ method_of (codes "put") long ∷ [])) (with_parameter two_nodes (codes "put.x") (Number (pos 4294967297) ∷ Range (pos 2147483647) (pos 2147483648) ∷ [])) (codes "put")
      ≡ (Plain (Int (pos 4294967297)) ∷ Plain (Int (pos 2147483647)) ∷ Plain (Int (pos 2147483648)) ∷ []) ∷ []
