use Rattle.std.proofs.Common.{◌≡◌, length}
use Rattle.kr_classes_names.specs.Types.{Extends}
use Rattle.kr_types.specs.Sites.{AreKept, IsSite}
use Rattle.kr_types.proofs.notes.notes_of.Given as goal

abbrev pub invariant-loop-at : goal.invariant-loop-at
invariant-loop-at l = record {
  extends : Extends l.initial.types l.types;
  site : IsSite l.site l.types;
  kept : AreKept l.site l.types l.noted;
  count : length l.noted.notes ≡ l.at;
}
