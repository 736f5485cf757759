-- Between crates: a document beside a program, with what is known of both.
use Rattle.std.specs.Prelude.{◌+◌, ◌^◌, ◌<◌, length, All}
use Rattle.kr_mean.specs.Problem.{Problem}
use Rattle.kr_classes_names.specs.Types.{TypeList}
use Rattle.kr_space_layout.specs.Stretches.{IsNumbered}
use Rattle.kr_space_meaning.specs.Bounds.{Setting, problem_of, setting_of}
use Rattle.kr_space_rules.specs.Classes.{AreClasses, AreTyped, files_of}
use Rattle.kr_space_rules.specs.ObjectDomains.{AreDeclared}
use Rattle.kr_space_rules.specs.Entries.{AreBounds}
use Rattle.kr_space.specs.Sizes.{AreBlocks}
use Rattle.kr_space.specs.declared.bounded.Bounded.{Bounded}

abbrev pub setting_in : Bounded → Setting
setting_in b = setting_of (files_of b.classes.now) b.document.now

abbrev pub problem_in : Bounded → Problem
problem_in b = problem_of (files_of b.classes.now) b.document.now b.mode.now

-- the classes are those of the files, with these types, the bounds and blocks those of the document
pub record IsBounded (types : TypeList) (b : Bounded) : Type 0 where
  pub classes : AreClasses b.classes.now
  pub typed : AreTyped b.classes.now types
  pub few : length b.objects.now + length b.bounds.now < 2 ^ 32
  pub objects : AreDeclared b.document.now.objects b.objects.now (setting_in b).objects
  pub bounds : AreBounds types b.document.now.arrays b.bounds.now (setting_in b).arrays
  pub blocks : AreBlocks (problem_in b) b.blocks.now
  pub numbered : All IsNumbered b.blocks.now
