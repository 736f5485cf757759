-- To be believed: finitizations that break no rule of their own: what is read is one.
use Rattle.std.specs.Prelude.{◌≡◌, ◌==◌, pos, Bool, true, false, Ok}
use Rattle.std.specs.List.{AllByRecursion}
use Rattle.toml.specs.Data.{Members}
use Rattle.kr_fin.specs.declared.document.ArrayBound.{ArrayBound}
use Rattle.kr_fin.specs.declared.document.Count.{Count}
use Rattle.kr_fin.specs.declared.document.FinDoc.{FinDoc}
use Rattle.kr_fin.specs.declared.document.NamedDomain.{NamedDomain}
use Rattle.kr_fin.specs.declared.document.Item.{Item}
use Rattle.kr_fin.specs.declared.document.Item.TheVariants.{Number, Range, Truth, Name}
use Rattle.kr_fin.specs.declared.shapes.Purpose.{Purpose}
use Rattle.kr_fin.specs.declared.shapes.Purpose.TheVariants.{Lengths, Slot}
use Rattle.kr_fin.specs.Ascending.{IsInOrder}
use Rattle.kr_fin.specs.Meaning.{document_in}
use Rattle.kr_fin.specs.Shapes.{counts, fuels, have, is_domain_name, is_pair, limits_of, versions}
use Rattle.kr_fin_upgrade.specs.Tables.{table_of}

-- lengths are numbers alone
abbrev pub IsPlain : Purpose → Type 0
IsPlain Slot = Unit {0}
IsPlain Lengths = ⊥

abbrev pub IsItem : Purpose → Item → Type 0
IsItem purpose (Number z) = have (limits_of purpose) z ≡ true
IsItem purpose (Range from to) = (have (limits_of purpose) from ≡ true) × (have (limits_of purpose) to ≡ true)
IsItem purpose (Truth b) = IsPlain purpose
IsItem purpose (Name n) = IsPlain purpose

-- in version 1 an object domain has its class's name
abbrev pub IsNamed : Bool → Count → Type 0
IsNamed true c = is_domain_name c.name ≡ true
IsNamed false c = c.class ≡ c.name

pub record IsCount (second : Bool) (c : Count) : Type 0 where
  pub few : have counts (pos c.count) ≡ true
  pub named : IsNamed second c

pub record IsBound (b : ArrayBound) : Type 0 where
  pub few : have counts (pos b.count) ≡ true
  pub lengths : AllByRecursion (IsItem Lengths) b.lengths

pub record IsDomain (d : NamedDomain) : Type 0 where
  pub pair : is_pair d.key ≡ true
  pub items : AllByRecursion (IsItem Slot) d.domain

pub record IsDocument (d : FinDoc) : Type 0 where
  pub version : have versions (pos d.version) ≡ true
  pub fuel : have fuels (pos d.fuel) ≡ true
  pub objects : AllByRecursion (IsCount (d.version == 2)) d.objects
  pub arrays : AllByRecursion IsBound d.arrays
  pub fields : AllByRecursion IsDomain d.fields
  pub params : AllByRecursion IsDomain d.params
  pub order : IsInOrder d

-- a table's document is one, where it breaks no rule and its keys ascend
abbrev pub ReadLaw : Type 0
ReadLaw = (ms : Members) (d : FinDoc) → document_in ms ≡ Ok d → IsInOrder d → IsDocument d

-- what is written of a document is read as the document
abbrev pub WrittenLaw : Type 0
WrittenLaw = (d : FinDoc) → IsDocument d → document_in (table_of d) ≡ Ok d
