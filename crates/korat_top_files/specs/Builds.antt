-- To be believed: the steps of `emit`: those of a listing, and after them whether builders can be written for the problem.
use Rattle.std.specs.Prelude.{◌≡◌, ◌⊎◌, ℕ, List, Option, Some, None, Result, Ok, Err, codes}
use Rattle.kr_emit_meaning.specs.Buildable.{BuildFault, Construction, ClassName, Elements, build_fault}
use Rattle.kr_emit.specs.declared.refusal.BuildRefusal.{BuildRefusal}
use Rattle.kr_emit.specs.declared.refusal.BuildRefusal.TheVariants as refusals
use Rattle.kr_io.specs.Held.{Held}
use Rattle.kr_mean.specs.Problem as means
use Rattle.kr_mean.specs.declared.mode.Mode.TheVariants.{List as Listing}
use Rattle.kr_space_problem.specs.Posed.{posed}
use Rattle.kr_space_problem.specs.declared.problem.Problem.{Problem}
use Rattle.korat_top_files.specs.Found.{FailsToRead, IsFor}
use Rattle.korat_top_files.specs.Refusals.{Inputs, Refusal, at_place, call_code, name_of, of_finitization, refusal_of}
use Rattle.korat_top_files.specs.Steps.{AllTold, Checks, Reads}
use Rattle.korat_top_files.specs.declared.refusal.Stop.{Stop}
use Rattle.korat_top_files.specs.declared.refusal.Stop.TheVariants.{Read, Refused, Memory}
use Rattle.korat_top_files.specs.declared.rules.CallRule.TheVariants as rules

-- E1 and E2 at a place of a source, E3 of an array type
abbrev pub refusal_for : BuildFault → Refusal
refusal_for (Construction place) = at_place place (call_code rules.Construction)
refusal_for (ClassName place) = at_place place (call_code rules.ClassName)
refusal_for (Elements item) = of_finitization (codes "E3") item

-- the listing's problem is one for which builders can be written; or the first refusal
abbrev pub Builds : Held → Inputs → Result means.Problem Refusal → Type 0
Builds held inputs (Ok problem) = Checks held Listing inputs (Ok problem) × (build_fault problem ≡ None)
Builds held inputs (Err r) =
    Checks held Listing inputs (Err r)
    ⊎ ((problem : means.Problem) × (fault : BuildFault) × Checks held Listing inputs (Ok problem) × (build_fault problem ≡ Some fault) × (r ≡ refusal_for fault))

-- ---- between crates

-- what stops is a refusal by one of these rules, or being out of memory
abbrev pub StopsUnbuilt : BuildRefusal → Stop → Type 0
StopsUnbuilt (refusals.Construction place) stop = IsFor (refusal_for (Construction place)) stop
StopsUnbuilt (refusals.ClassName place) stop = IsFor (refusal_for (ClassName place)) stop
StopsUnbuilt (refusals.Elements item) stop = IsFor (refusal_for (Elements item)) stop
StopsUnbuilt (refusals.NoMemory why) stop = stop ≡ Memory why

-- what the steps say of what the files hold, where it is known; or a read fault; or out of memory, which is free
abbrev pub FindsBuilds : {F : Type 0} → (F → Held) → (F → ℕ) → (F → Option (List ℕ)) → Inputs → F → F → Result Problem Stop → Type 0
FindsBuilds held faults last inputs files files' (Ok f) = AllTold (held files) inputs → Builds (held files) inputs (Ok (posed f))
FindsBuilds held faults last inputs files files' (Err (Refused r)) = AllTold (held files) inputs → Builds (held files) inputs (Err (refusal_of r))
FindsBuilds held faults last inputs files files' (Err (Read failed)) = FailsToRead faults last (Reads (held files) inputs) (name_of inputs failed) files files'
FindsBuilds held faults last inputs files files' (Err (Memory why)) = Unit {0}
