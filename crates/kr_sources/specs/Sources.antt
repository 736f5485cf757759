-- Between crates: what is known of the sources of a test.
use Rattle.std.specs.Prelude.{◌<◌, length}
use Rattle.kr_classes_names.specs.Shown.{AreHeads}
use Rattle.kr_classes_members.specs.Kept.{AreMembers}
use Rattle.kr_sources.specs.declared.sources.Sources.{Sources}

-- heads and members are those of the trees, and these are few
pub record AreSources (s : Sources) : Type 0 where
  pub few : length s.trees.now < 65
  pub heads : AreHeads s.trees.now s.heads.now
  pub members : AreMembers s.trees.now s.members.now
