-- Between crates: the keys of a document's tables by their places.
use Rattle.std.specs.Prelude.{map}
use Rattle.kr_classes_names.specs.Listed.{IsIndexOf}
use Rattle.kr_fin.specs.declared.document.FinDoc.{FinDoc}
use Rattle.kr_space.specs.declared.keys.Keys.{Keys}

pub record AreKeys (document : FinDoc) (keys : Keys) : Type 0 where
  pub fields : IsIndexOf (map (λ d. d.key) document.fields) keys.fields
  pub params : IsIndexOf (map (λ d. d.key) document.params) keys.params
