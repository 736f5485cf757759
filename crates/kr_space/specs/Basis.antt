-- Between crates: what the problem of a document is made of, with what is known of it.
use Rattle.std.specs.Prelude.{◌≡◌, ℕ, ◌+◌, ◌^◌, ◌<◌, List, length, map}
use Rattle.kr_classes_names.specs.Types.{TypeList}
use Rattle.kr_space_names.specs.Collected.{AreNumbers, types_shown}
use Rattle.kr_fin.specs.declared.document.FinDoc.{FinDoc}
use Rattle.kr_mean.specs.declared.mode.Mode.{Mode}
use Rattle.kr_space_layout.specs.Bounds.{Bounds}
use Rattle.kr_space_meaning.specs.Bounds.{Setting, domains_of, parameter_key, parameter_values, root_domain, setting_of, tested_parameters}
use Rattle.kr_space_meaning.specs.Limits.{IsWithinLimits}
use Rattle.kr_space_rules.specs.Classes.{AreClasses, files_of}
use Rattle.kr_space_rules.specs.ObjectDomains.{AreDeclared}
use Rattle.kr_space_rules.specs.Entries.{AreBounds}
use Rattle.kr_space.specs.Keys.{AreKeys}
use Rattle.kr_space.specs.declared.basis.Basis.{Basis}

abbrev pub setting_on : Basis → Setting
setting_on b = setting_of (files_of b.classes.now) b.document.now

-- the domains that a document gives have numbers
abbrev pub HasFewDomains : FinDoc → Type 0
HasFewDomains document = length document.fields + (length document.params + length document.arrays) < 2 ^ 32

-- classes and keys are those of the files and the document
pub record IsBasis (b : Basis) : Type 0 where
  pub classes : AreClasses b.classes.now
  pub keys : AreKeys b.document.now b.keys.now
  pub objects : AreDeclared b.document.now.objects b.objects.now (setting_on b).objects
  pub few : length b.objects.now + length b.bounds.now < 2 ^ 32
  pub few_domains : HasFewDomains b.document.now
  pub limits : IsWithinLimits b.document.now

-- the bounds are those of the document, by the numbers of these types
abbrev pub AreBoundsOn : TypeList → Basis → Type 0
AreBoundsOn types b = AreBounds types b.document.now.arrays b.bounds.now (setting_on b).arrays

-- these are the array types of the setting by their numbers
pub record AreArrays (types : TypeList) (setting : Setting) (arrays : List ℕ) : Type 0 where
  pub numbers : AreNumbers types arrays
  pub shown : types_shown types arrays ≡ setting.types
  pub few : length arrays < 2 ^ 32

-- the problem of a setting and a mode, but for its program
abbrev pub bounds_on : Setting → Mode → Bounds
bounds_on setting mode = record {
  root = root_domain setting;
  mode = mode;
  parameters = map (λ p. parameter_values setting (parameter_key mode p)) (tested_parameters setting mode);
  fuel = setting.document.fuel;
  domains = domains_of setting;
}
