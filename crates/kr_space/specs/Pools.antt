-- Between crates: the domains that a document gives, by number: those of its fields, of its parameters, and of its lengths.
use Rattle.std.specs.Prelude.{◌≡◌, ℕ, List, ◌++◌, map, Option}
use Rattle.kr_classes_table.specs.Types.{JavaType}
use Rattle.kr_mean.specs.Problem.{Domain}
use Rattle.kr_fin.specs.declared.document.ArrayBound.{ArrayBound}
use Rattle.kr_fin.specs.declared.document.FinDoc.{FinDoc}
use Rattle.kr_fin.specs.declared.document.NamedDomain.{NamedDomain}
use Rattle.kr_space_layout.specs.declared.classes.ClassDomain.{ClassDomain}
use Rattle.kr_space_layout.specs.declared.item.DomainEntry.{DomainEntry}
use Rattle.kr_space_layout.specs.Bounds.{class_domain as domain_shown}
use Rattle.kr_space_layout.specs.Items.{domain_of}
use Rattle.kr_space_meaning.specs.Keys.{field_type, parameter_type}
use Rattle.kr_space_meaning.specs.Bounds.{Setting, domains_of, lengths_of, root_of, values_given, values_of}
use Rattle.kr_space.specs.Basis.{setting_on}
use Rattle.kr_space.specs.declared.basis.Basis.{Basis}

-- the domains of a table, whose keys require types
abbrev pub all_values : Setting → (List ℕ → Option JavaType) → List NamedDomain → List Domain
all_values setting asked domains = map (λ d. values_of setting (asked d.key) d.domain) domains

abbrev pub all_lengths : Setting → List ArrayBound → List Domain
all_lengths setting arrays = map (λ a. lengths_of setting a.lengths) arrays

abbrev pub pool : Setting → FinDoc → List Domain
pool setting document =
    all_values setting (field_type setting.table) document.fields
    ++ (all_values setting (parameter_type setting.table (root_of setting)) document.params ++ all_lengths setting document.arrays)

-- a document's domain for a key of a field or of elements, and of a parameter
unfoldable pub fields_given : Setting → FinDoc → List ℕ → Domain
fields_given setting document key = values_given setting (field_type setting.table) document.fields key

unfoldable pub params_given : Setting → FinDoc → List ℕ → Domain
params_given setting document key = values_given setting (parameter_type setting.table (root_of setting)) document.params key

-- the class domains of the document's problem, whose domains go by their numbers in the pool
abbrev pub AreDomainsOn : Basis → List ClassDomain → Type 0
AreDomainsOn b domains = map (domain_shown (pool (setting_on b) b.document.now)) domains ≡ domains_of (setting_on b)

-- the entries of the domains in the pool
abbrev pub AreValuesOn : Basis → List (List DomainEntry) → Type 0
AreValuesOn b values = map domain_of values ≡ pool (setting_on b) b.document.now
