-- Between crates: small documents carried over, and their tables, worked by hand.
use Rattle.std.specs.Prelude.{◌≡◌, ℕ, pos, List, [], ◌∷◌, codes}
use Rattle.toml.specs.Data.{string, integer, array, table, no_items, item, no_members, member}
use Rattle.kr_fin.specs.declared.document.Count.{Count}
use Rattle.kr_fin.specs.declared.document.FinDoc.{FinDoc}
use Rattle.kr_fin.specs.declared.document.NamedDomain.{NamedDomain}
use Rattle.kr_fin.specs.declared.document.Item.{Item}
use Rattle.kr_fin.specs.declared.document.Item.TheVariants.{Number, Range, Name}
use Rattle.kr_fin_upgrade.specs.Upgraded.{line, up}
use Rattle.kr_fin_upgrade.specs.Tables.{table_of}

abbrev Text : Type 0
Text = List ℕ

abbrev pub document : ℕ → Text → List Count → List NamedDomain → List NamedDomain → FinDoc
document version root objects fields params = record {
  version = version;
  root = root;
  fuel = 9;
  objects = objects;
  arrays = [];
  fields = fields;
  params = params;
}

abbrev pub given : Text → List Item → NamedDomain
given key domain = record { key = key; domain = domain }

abbrev pub name : Text → Item
name n = Name n

abbrev pub next : List Item → List NamedDomain
next items = given (codes "N.next") items ∷ []

abbrev pub carried : Text → List Count → List Item → List Count
carried root objects items = (up (document 1 root objects (next items) [])).objects

pub record Carried : Type 0 where
  -- the whole of a document
  pub whole : up (document 1 (codes "N") (line (codes "N") 2 ∷ []) (next (name (codes "null") ∷ name (codes "N") ∷ [])) [])
      ≡ document 2 (codes "N") (line (codes "N") 2 ∷ []) (next (name (codes "null") ∷ name (codes "N") ∷ [])) []
  -- a root without a line, and names without one, in the order of bytes, each once
  pub root_alone : carried (codes "N") [] [] ≡ line (codes "N") 0 ∷ []
  pub names : carried (codes "N") (line (codes "N") 1 ∷ []) (name (codes "P") ∷ name (codes "M") ∷ name (codes "P") ∷ name (codes "N") ∷ []) ≡ line (codes "M") 0 ∷ line (codes "N") 1 ∷ line (codes "P") 0 ∷ []
  pub front_first : carried (codes "N") (line (codes "N") 1 ∷ []) (name (codes "NN") ∷ name (codes "A") ∷ name (codes "a b") ∷ name (codes "") ∷ []) ≡ line (codes "A") 0 ∷ line (codes "N") 1 ∷ line (codes "NN") 0 ∷ []
  pub parameters : (up (document 1 (codes "N") [] [] (given (codes "put.x") (name (codes "M") ∷ []) ∷ []))).objects ≡ line (codes "M") 0 ∷ line (codes "N") 0 ∷ []
  -- null, array types, other texts that aren't names, numbers and truth values have no line; an array type of a class without one
  -- doesn't give it one
  pub no_names : carried (codes "N") [] (name (codes "null") ∷ name (codes "N[]") ∷ name (codes "M[][]") ∷ Number (pos 1) ∷ Range (pos 0) (pos 1) ∷ []) ≡ line (codes "N") 0 ∷ []
  pub root_null : carried (codes "null") [] [] ≡ []
  pub root_array : carried (codes "int[]") [] [] ≡ []

pub record Tables : Type 0 where
  pub first : table_of (document 1 (codes "N") (line (codes "N") 2 ∷ []) (next (name (codes "null") ∷ Range (pos 1) (pos 2) ∷ [])) [])
      ≡ member (codes "arrays") (table no_members)
      (member (codes "fields") (table (member (codes "N.next") (array (item (string (codes "null")) (item (table (member (codes "from") (integer (pos 1)) (member (codes "to") (integer (pos 2)) no_members))) no_items))) no_members))
      (member (codes "fuel") (integer (pos 9))
      (member (codes "objects") (table (member (codes "N") (integer (pos 2)) no_members))
      (member (codes "params") (table no_members)
      (member (codes "root") (string (codes "N"))
      (member (codes "version") (integer (pos 1)) no_members))))))
  pub second : table_of (document 2 (codes "N") (line (codes "N") 2 ∷ []) [] [])
      ≡ member (codes "arrays") (table no_members)
      (member (codes "fields") (table no_members)
      (member (codes "fuel") (integer (pos 9))
      (member (codes "objects") (table (member (codes "N") (table (member (codes "class") (string (codes "N")) (member (codes "count") (integer (pos 2)) no_members))) no_members))
      (member (codes "params") (table no_members)
      (member (codes "root") (string (codes "N"))
      (member (codes "version") (integer (pos 2)) no_members))))))
