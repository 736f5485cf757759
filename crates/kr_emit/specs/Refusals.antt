-- Between crates: which refusal a broken rule gives.
use Rattle.std.specs.Prelude.{◌≡◌, Some}
use Rattle.kr_mean.specs.Problem.{Problem}
use Rattle.kr_emit_meaning.specs.Buildable as buildable
use Rattle.kr_emit_meaning.specs.Buildable.{build_fault}
use Rattle.kr_emit.specs.declared.refusal.BuildRefusal.{BuildRefusal}
use Rattle.kr_emit.specs.declared.refusal.BuildRefusal.TheVariants.{ClassName, Construction, Elements, NoMemory}

-- the least broken rule, at its first place or its least item; out of memory is possible at any time
abbrev pub Refuses : Problem → BuildRefusal → Type 0
Refuses problem (Construction place) = build_fault problem ≡ Some (buildable.Construction place)
Refuses problem (ClassName place) = build_fault problem ≡ Some (buildable.ClassName place)
Refuses problem (Elements item) = build_fault problem ≡ Some (buildable.Elements item)
Refuses problem (NoMemory why) = Unit {0}
