-- Locals of the code, as those of the meaning.
use Rattle.std.proofs.Common.{◌≡◌, ℕ, zero, suc, ◌<◌, Bool, true, List, [], ◌∷◌, length, Ok, refl, sym, ap, ◌∙◌, subst}
use Rattle.std.specs.Prelude.{map, slice_set, slice_get, option_map, nat_lt, None}
use Rattle.std.proofs.lemmas.List.{map-set, length-map}
use Rattle.std.proofs.lemmas.Bool.{lt-ltb}
use Rattle.kr_value.specs.declared.value.Value.{Value}
use Rattle.kr_mean.specs.Steps as steps
use Rattle.kr_mean.specs.Steps.{State, bind, give, assign, assign_if, local_at, plain_local}
use Rattle.kr_run_state.specs.declared.world.Local.{Local}
use Rattle.kr_run_state.specs.Shown.{local_of}

pub local_there : (locals : List Local) (k : ℕ) → option_map local_of (slice_get locals k) ≡ local_at (map local_of locals) k
local_there [] k = refl
local_there (l ∷ ls) zero = refl
local_there (l ∷ ls) (suc k) = local_there ls k

pub assigned : (s : State) (locals : List Local) (k : ℕ) (v given : Value) → s.locals ≡ map local_of locals → k < length locals
    → bind (assign k v) (λ u. give given) s ≡ record { said = Ok given; after = record s { locals = map local_of (slice_set locals k (record { value = v; parameter = None })) }; reads = [] }
unfolding bind
assigned s locals k v given is lt =
    let there : nat_lt k (length s.locals) ≡ true = lt-ltb k (length s.locals) (subst (λ (n : ℕ). k < n) (sym (ap length is ∙ length-map locals local_of)) lt) in
    let set : slice_set s.locals k (plain_local v) ≡ map local_of (slice_set locals k (record { value = v; parameter = None })) =
    ap (λ (ls : List steps.Local). slice_set ls k (plain_local v)) is ∙ sym (map-set local_of locals k (record { value = v; parameter = None })) in
    ap (λ (b : Bool). bind (assign_if b k v) (λ u. give given) s) there
    ∙ ap (λ (ls : List steps.Local). record { said = Ok given; after = record s { locals = ls }; reads = [] }) set
