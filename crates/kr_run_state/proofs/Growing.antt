-- The places read only grow.
use Rattle.std.proofs.Common.{◌≡◌, Bool, true, false, List, [], ◌∷◌, ◌++◌, refl, sym, ap, ◌∙◌, append_assoc}
use Rattle.std.proofs.lemmas.List.{append-nil}
use Rattle.std.specs.Prelude.{if◌then◌else◌, Result, Ok, Err, OnOk, OnErr}
use Rattle.kr_mean.specs.Places.{SlotPlace}
use Rattle.kr_run_state.specs.declared.world.World.{World}
use Rattle.kr_run_state.specs.Noting.{is_read, with_read}
use Rattle.kr_run_state.specs.Reading.{OnlyReads}

-- one more place
pub grown : (seen : List SlotPlace) (p : SlotPlace) → (more : List SlotPlace) × (with_read seen p ≡ seen ++ more)
grown seen p = go (is_read p seen)
  where
    go : (b : Bool) → (more : List SlotPlace) × ((if b then seen else seen ++ p ∷ []) ≡ seen ++ more)
    go true = ([], sym (append-nil seen))
    go false = (p ∷ [], refl)

-- a place that is noted, or not where memory runs out
pub only_noted : {E : Type 0} (w : World) (p : SlotPlace) (new : List SlotPlace) (r : Result (Unit {0}) E) → OnOk r (new ≡ with_read w.reads p) → OnErr r (new ≡ w.reads) → OnlyReads w (record w { reads = new })
only_noted w p new (Ok u) noted unchanged =
    let more = grown w.reads p in
    record { rest = refl; grows = (more.0, noted ∙ more.1) }
only_noted w p new (Err e) noted unchanged = record { rest = refl; grows = ([], unchanged ∙ sym (append-nil w.reads)) }

-- one step, and then another
pub only_then : (before middle w : World) → OnlyReads before middle → OnlyReads middle w → OnlyReads before w
only_then before middle w h k = record {
  rest = k.rest ∙ ap (λ (u : World). record u { reads = w.reads }) h.rest;
  grows = (h.grows.0 ++ k.grows.0, k.grows.1 ∙ (ap (λ (ps : List SlotPlace). ps ++ k.grows.0) h.grows.1 ∙ append_assoc before.reads h.grows.0 k.grows.0));
}
