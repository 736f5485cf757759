-- Between crates: finitizations whose object domains have names of their own, their problems, and the rules that others break,
-- worked by hand.
use Rattle.std.specs.Prelude.{◌≡◌, ℕ, pos, List, [], ◌∷◌, Option, None, codes}
use Rattle.kr_ast.specs.Tree.{Tree}
use Rattle.kr_value.specs.declared.value.Value.TheVariants.{Null}
use Rattle.kr_value.specs.declared.object.Class.TheVariants.{Object}
use Rattle.kr_mean.specs.declared.mode.Mode.TheVariants.{List as Listing}
use Rattle.kr_mean.specs.Problem.{ClassDomain, Domain, Plain, Objects}
use Rattle.kr_fin.specs.declared.document.FinDoc.{FinDoc}
use Rattle.kr_fin.specs.declared.document.Count.{Count}
use Rattle.kr_fin.specs.declared.document.ArrayBound.{ArrayBound}
use Rattle.kr_fin.specs.declared.document.Item.{Item as FinItem}
use Rattle.kr_fin.specs.declared.document.Item.TheVariants.{Number}
use Rattle.kr_space_meaning.specs.Bounds.{problem_of}
use Rattle.kr_space_meaning.specs.Examples.{arrays, at, broken, domains, files, given, name, node, node_with, objects, plain_document, refused, two_classes}

abbrev Text : Type 0
Text = List ℕ

abbrev pub domain : Text → Text → ℕ → Count
domain n class count = record { name = n; class = class; count = count }

-- object domains, and values of the field `N.next`
abbrev pub named : Text → List Count → List FinItem → FinDoc
named root all items = record {
  version = 2;
  root = root;
  fuel = 9;
  objects = all;
  arrays = [];
  fields = given (codes "N.next") items ∷ [];
  params = [];
}

-- one node of the domain A, and an array type
abbrev pub with_array : Text → List ArrayBound → FinDoc
with_array root bounds = record (named root (domain (codes "A") (codes "N") 1 ∷ []) (name (codes "null") ∷ [])) { arrays = bounds }

abbrev pub nodes : Text → ℕ → Count
nodes n count = domain n (codes "N") count

abbrev pub null : FinItem
null = name (codes "null")

abbrev pub root : List Tree → FinDoc → ℕ
root classes document = (problem_of (files classes) document Listing).root

-- the object domain of the class N, which is the c-th
abbrev pub of_nodes : ℕ → Text → ℕ → Domain → ClassDomain
of_nodes c n count next = record { name = n; class = Object c; count = count; spots = at 0 next ∷ [] }

-- the class Other has no field
abbrev pub of_others : Text → ℕ → ClassDomain
of_others n count = record { name = n; class = Object 0; count = count; spots = [] }

-- a node that is the first one's, and two others
abbrev pub sentinel : Text → FinDoc
sentinel first = named first (nodes (codes "A") 1 ∷ nodes (codes "X") 2 ∷ []) (null ∷ name (codes "A") ∷ name (codes "X") ∷ [])

pub record DomainProblems : Type 0 where
  -- in version 1 domains are in the document's order too, and a class without objects has none
  pub in_document_order : domains two_classes (plain_document (codes "N") (objects (codes "N") 1 ∷ objects (codes "Other") 2 ∷ []) (given (codes "N.next") (name (codes "N") ∷ []) ∷ []))
      ≡ of_nodes 1 (codes "N") 1 (Objects 0 ∷ []) ∷ of_others (codes "Other") 2 ∷ []
  pub without_objects : domains two_classes (plain_document (codes "N") (objects (codes "N") 1 ∷ objects (codes "Other") 0 ∷ []) (given (codes "N.next") (name (codes "N") ∷ []) ∷ []))
      ≡ of_nodes 1 (codes "N") 1 (Objects 0 ∷ []) ∷ []
  pub of_one_class : domains (node ∷ []) (sentinel (codes "A"))
      ≡ of_nodes 0 (codes "A") 1 (Plain Null ∷ Objects 0 ∷ Objects 1 ∷ []) ∷ of_nodes 0 (codes "X") 2 (Plain Null ∷ Objects 0 ∷ Objects 1 ∷ []) ∷ []
  pub first_root : root (node ∷ []) (sentinel (codes "A")) ≡ 0
  pub second_root : root (node ∷ []) (sentinel (codes "X")) ≡ 1
  -- the order of names, not of classes
  pub of_two_classes : domains two_classes (named (codes "A") (nodes (codes "A") 1 ∷ domain (codes "B") (codes "Other") 2 ∷ nodes (codes "C") 1 ∷ []) (name (codes "C") ∷ []))
      ≡ of_nodes 1 (codes "A") 1 (Objects 2 ∷ []) ∷ of_others (codes "B") 2 ∷ of_nodes 1 (codes "C") 1 (Objects 2 ∷ []) ∷ []
  pub empty_left_out : domains (node ∷ []) (named (codes "X") (nodes (codes "A") 0 ∷ nodes (codes "X") 2 ∷ []) (null ∷ name (codes "A") ∷ name (codes "X") ∷ []))
      ≡ of_nodes 0 (codes "X") 2 (Plain Null ∷ Objects 0 ∷ []) ∷ []
  -- a name is that of the domain, whichever class has it too
  pub named_as_a_class : domains two_classes (named (codes "Other") (domain (codes "N") (codes "Other") 1 ∷ nodes (codes "Other") 1 ∷ []) (name (codes "Other") ∷ []))
      ≡ of_others (codes "N") 1 ∷ of_nodes 1 (codes "Other") 1 (Objects 1 ∷ []) ∷ []
  pub one_class_taken : refused (node ∷ []) (sentinel (codes "A")) Listing ≡ None
  pub named_as_a_class_taken : refused two_classes (named (codes "Other") (domain (codes "N") (codes "Other") 1 ∷ nodes (codes "Other") 1 ∷ []) (name (codes "Other") ∷ [])) Listing ≡ None
  pub named_int_taken : refused (node ∷ []) (named (codes "int") (nodes (codes "int") 1 ∷ []) (name (codes "int") ∷ [])) Listing ≡ None

pub record DomainRefusals : Type 0 where
  pub class_is_no_domain : refused (node ∷ []) (named (codes "A") (nodes (codes "A") 1 ∷ []) (name (codes "N") ∷ [])) Listing ≡ broken (codes "S1") (codes "fields.N.next")
  pub domain_unknown : refused (node ∷ []) (named (codes "A") (nodes (codes "A") 1 ∷ []) (name (codes "B") ∷ [])) Listing ≡ broken (codes "S1") (codes "fields.N.next")
  pub root_unknown : refused (node ∷ []) (named (codes "N") (nodes (codes "A") 1 ∷ []) (name (codes "A") ∷ [])) Listing ≡ broken (codes "S1") (codes "root")
  pub root_is_null : refused (node ∷ []) (named (codes "null") (nodes (codes "A") 1 ∷ []) (name (codes "A") ∷ [])) Listing ≡ broken (codes "S1") (codes "root")
  pub class_unknown : refused (node ∷ []) (named (codes "A") (domain (codes "A") (codes "M") 1 ∷ []) (name (codes "A") ∷ [])) Listing ≡ broken (codes "S1") (codes "fields.N.next")
  pub class_unknown_unused : refused (node ∷ []) (named (codes "A") (nodes (codes "A") 1 ∷ domain (codes "B") (codes "M") 0 ∷ []) (name (codes "A") ∷ [])) Listing ≡ broken (codes "S1") (codes "objects.B")
  pub class_is_null : refused (node ∷ []) (named (codes "A") (nodes (codes "A") 1 ∷ domain (codes "B") (codes "null") 0 ∷ []) (name (codes "A") ∷ [])) Listing ≡ broken (codes "S1") (codes "objects.B")
  pub class_is_array_type : refused (node ∷ []) (named (codes "A") (nodes (codes "A") 1 ∷ domain (codes "B") (codes "int[]") 0 ∷ []) (name (codes "A") ∷ [])) Listing ≡ broken (codes "S1") (codes "objects.B")
  pub no_domain_given : refused (node ∷ []) (record (sentinel (codes "A")) { fields = [] }) Listing ≡ broken (codes "S2") (codes "fields.N.next")
  pub root_without_objects : refused (node ∷ []) (named (codes "B") (nodes (codes "A") 1 ∷ nodes (codes "B") 0 ∷ []) (name (codes "A") ∷ [])) Listing ≡ broken (codes "S3") (codes "this")
  pub no_objects_named : refused (node ∷ []) (named (codes "A") (nodes (codes "A") 1 ∷ nodes (codes "B") 0 ∷ []) (name (codes "B") ∷ [])) Listing ≡ broken (codes "S3") (codes "fields.N.next")
  -- a name's type is judged where it has no objects too
  pub unfit_domain : refused two_classes (named (codes "A") (nodes (codes "A") 1 ∷ domain (codes "B") (codes "Other") 0 ∷ []) (null ∷ name (codes "B") ∷ [])) Listing ≡ broken (codes "S4") (codes "fields.N.next")
  pub domain_twice : refused (node ∷ []) (named (codes "A") (nodes (codes "A") 1 ∷ []) (name (codes "A") ∷ name (codes "A") ∷ [])) Listing ≡ broken (codes "S5") (codes "fields.N.next")
  pub array_root : refused (node ∷ []) (with_array (codes "int[]") []) Listing ≡ broken (codes "S3") (codes "this")
  pub empty_array_root : refused (node ∷ []) (with_array (codes "int[]") (arrays (codes "int[]") 0 (Number (pos 0) ∷ []) ∷ [])) Listing ≡ broken (codes "S3") (codes "this")
  pub bounded_array_root : refused (node ∷ []) (with_array (codes "int[]") (arrays (codes "int[]") 1 (Number (pos 0) ∷ []) ∷ [])) Listing ≡ broken (codes "S7") (codes "root")
  pub array_root_of_classes : refused (node ∷ []) (record (node_with (null ∷ [])) { root = codes "int[]" }) Listing ≡ broken (codes "S1") (codes "root")
