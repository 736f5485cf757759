-- Between crates: the keys of a document's lists ascend in the order of bytes, and so differ.
use Rattle.std.specs.Prelude.{ℕ, List, map}
use Rattle.std.specs.List.Sorted.{IsStrictlySortedBy}
use Rattle.std.specs.Ordering.{nat_cmp}
use Rattle.std.specs.Cmp.Lexicographic.{slice_cmp}
use Rattle.kr_fin.specs.declared.document.Count.{Count}
use Rattle.kr_fin.specs.declared.document.ArrayBound.{ArrayBound}
use Rattle.kr_fin.specs.declared.document.NamedDomain.{NamedDomain}
use Rattle.kr_fin.specs.declared.document.FinDoc.{FinDoc}

abbrev pub AreAscending : List (List ℕ) → Type 0
AreAscending keys = IsStrictlySortedBy (slice_cmp nat_cmp) keys

abbrev pub AreCounts : List Count → Type 0
AreCounts cs = AreAscending (map (λ c. c.name) cs)

abbrev pub AreBounds : List ArrayBound → Type 0
AreBounds bs = AreAscending (map (λ b. b.name) bs)

abbrev pub AreDomains : List NamedDomain → Type 0
AreDomains ds = AreAscending (map (λ d. d.key) ds)

pub record IsInOrder (document : FinDoc) : Type 0 where
  pub objects : AreCounts document.objects
  pub arrays : AreBounds document.arrays
  pub fields : AreDomains document.fields
  pub params : AreDomains document.params
