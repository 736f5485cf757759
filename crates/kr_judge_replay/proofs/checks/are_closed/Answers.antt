use Rattle.std.proofs.Common.{◌≡◌, ◌+◌, ◌++◌, ◌∷◌, inl, inr, [], true, List, get_or, subst, take}
use Rattle.std.specs.Prelude.{map}
use Rattle.std.proofs.lemmas.List.{map_more}
use Rattle.kr_mean.specs.Places.{SlotPlace, At}
use Rattle.kr_value.specs.declared.object.Spot.TheVariants.{Element}
use Rattle.kr_run_state.specs.Noting.{is_read}
use Rattle.kr_mean.specs.Places.{place_of}
use Rattle.kr_value.specs.declared.place.SlotPlace.TheVariants.{This}
use Rattle.kr_judge_replay.proofs.Held.{read_more}
use Rattle.kr_judge_replay.proofs.checks.are_closed.Goals as goal

pub loop-place-preserved : goal.loop-place-preserved
loop-place-preserved c = λ o i h.
    let places = c.as_slice-places.result.now in
    let k = c.loop-place.place-index in
    let q = place_of (get_or places k This) in
    let next : map place_of (take (k + 1) places) ≡ map place_of (take k places) ++ q ∷ [] = map_more place_of places k This c.loop-place-test.true in
    let h' = subst (λ (ps : List SlotPlace). is_read (At o (Element i)) ps ≡ true) next h in
    elim (read_more (map place_of (take k places)) q (At o (Element i)) h') [
      | inl r ↦ c.loop-place.invariant o i r
      | inr e ↦ c.is_closed.ensures c.if-not-is_closed.false o i e
    ]
