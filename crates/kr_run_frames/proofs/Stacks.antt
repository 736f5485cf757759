-- How a stack keeps its frames.
use Rattle.std.proofs.Common.{◌≡◌, ℕ, ◌+◌, ◌-◌, ◌<◌, ◌≤◌, zero, suc, List, [], ◌∷◌, ◌++◌, length, take, drop, get_or, refl, sym, ap, subst, ◌∙◌, arith}
use Rattle.std.specs.Prelude.{Bool, reverse}
use Rattle.std.proofs.lemmas.List.{get_or_default, length-reverse, length-take-le, reverse-append, take_all, take_at, take_more}
use Rattle.kr_value.specs.declared.value.Value.{Value}
use Rattle.kr_code.specs.declared.expression.Nodes.{Nodes}
use Rattle.kr_run_state.specs.declared.world.Local.{Local}
use Rattle.kr_run_frames.specs.declared.frame.Goal.{Goal}
use Rattle.kr_run_frames.specs.declared.frame.Up.{Up}
use Rattle.kr_run_frames.specs.declared.frame.Waiting.{Waiting}
use Rattle.kr_run_frames.specs.declared.frame.Waiting.TheVariants as kept
use Rattle.kr_run_frames.specs.Frame.{Frame}
use Rattle.kr_run_frames.specs.Frame as frames
use Rattle.kr_run_frames.specs.Kept.{HasNoList, IsOnTop, frame_of, locals_from, locals_on, unpacked, values_from, values_on}
use Rattle.kr_run_frames.specs.Frames.{out_value, out_flow, out_unit}
use Rattle.kr_run_frames.specs.Copies.{GoOnAlike}

-- ---- lists

take_whole : {A : Type 0} (xs : List A) → take (length xs) xs ≡ xs
take_whole xs = take_all (length xs) xs (omega arith)

drop_whole : {A : Type 0} (xs : List A) → drop (length xs) xs ≡ []
drop_whole [] = refl
drop_whole (x ∷ xs) = drop_whole xs

-- items after others
drop_front : {A : Type 0} (xs ys : List A) → drop (length xs) (xs ++ ys) ≡ ys
drop_front [] ys = refl
drop_front (x ∷ xs) ys = drop_front xs ys

-- so many frames, the topmost one first
pub top_first : (ws : List Waiting) (n : ℕ) (w : Waiting) → 0 < n → n ≤ length ws → w ≡ get_or ws (n - 1) w → reverse (take n ws) ≡ w ∷ reverse (take (n - 1) ws)
top_first ws n w some below is =
    let at : n ≡ n - 1 + 1 = omega arith in
    let in_them : n - 1 < length ws = omega arith in
    ap (λ (k : ℕ). reverse (take k ws)) at
    ∙ ap reverse (take_more ws (n - 1) w in_them)
    ∙ reverse-append (take (n - 1) ws) (get_or ws (n - 1) w ∷ [])
    ∙ ap (λ (v : Waiting). v ∷ reverse (take (n - 1) ws)) (sym is)

-- ---- frames

as_many : (ws : List Waiting) (vs : List Value) (ls : List Local) → length (unpacked ws vs ls) ≡ length ws
as_many [] vs ls = refl
as_many (w ∷ ws) vs ls = ap (λ (n : ℕ). suc n) (as_many ws _ _)

pub how_many : (ws : List Waiting) (n : ℕ) (vs : List Value) (ls : List Local) → n ≤ length ws → n ≡ length (unpacked (reverse (take n ws)) vs ls)
how_many ws n vs ls below = sym (as_many (reverse (take n ws)) vs ls ∙ length-reverse (take n ws) ∙ length-take-le n ws below)

pub is_on_top : (ws : List Waiting) (n : ℕ) (w : Waiting) (vs : List Value) (ls : List Local) → 0 < n → n ≤ length ws → w ≡ get_or ws (n - 1) w → IsOnTop w (unpacked (reverse (take n ws)) vs ls)
is_on_top ws n w vs ls some below is = record {
  values = drop (values_from w (length vs)) vs;
  locals = drop (locals_from w (length ls)) ls;
  rest = unpacked (reverse (take (n - 1) ws)) (take (values_from w (length vs)) vs) (take (locals_from w (length ls)) ls);
  is = ap (λ (us : List Waiting). unpacked us vs ls) (top_first ws n w some below is);
}

-- below so many there is none
pub none_there : (ws : List Waiting) (n k : ℕ) (vs : List Value) (ls : List Local) → n ≤ length ws → n ≤ k → length (unpacked (reverse (take n ws)) vs ls) ≤ k
none_there ws n k vs ls below le = subst (λ (m : ℕ). m ≤ k) (how_many ws n vs ls below) le

-- the frame below so many
pub frame_there : (ws : List Waiting) (n k : ℕ) (w : Waiting) (vs : List Value) (ls : List Local) → k < n → n ≤ length ws → w ≡ get_or ws (n - 1 - k) w → IsOnTop w (drop k (unpacked (reverse (take n ws)) vs ls))
frame_there ws n zero w vs ls lt below is =
    let same : n - 1 - 0 ≡ n - 1 = omega arith in
    is_on_top ws n w vs ls lt below (is ∙ ap (λ (i : ℕ). get_or ws i w) same)
frame_there ws n (suc k) w vs ls lt below is =
    let v : Waiting = get_or ws (n - 1) w in
    let some : 0 < n = omega (arith, lt) in
    let in_them : n - 1 < length ws = omega (arith, some, below) in
    let first = top_first ws n v some below (get_or_default ws (n - 1) w v in_them) in
    let same : n - 1 - suc k ≡ n - 1 - 1 - k = omega arith in
    let under = frame_there ws (n - 1) k w (take (values_from v (length vs)) vs) (take (locals_from v (length ls)) ls) (omega (arith, lt)) (omega (arith, below)) (is ∙ ap (λ (i : ℕ). get_or ws i w) same) in
    subst (λ (us : List Waiting). IsOnTop w (drop (suc k) (unpacked us vs ls))) (sym first) under

-- what is after the topmost frame is room
pub released : (ws us : List Waiting) (n : ℕ) (vs : List Value) (ls : List Local) → us ≡ take n ws → n ≤ length ws → unpacked (reverse (take n us)) vs ls ≡ unpacked (reverse (take n ws)) vs ls
released ws us n vs ls e le =
    let whole : take n (take n ws) ≡ take n ws = take_all n (take n ws) (omega (arith, length-take-le n ws le)) in
    ap (λ (xs : List Waiting). unpacked (reverse (take n xs)) vs ls) e ∙ ap (λ (xs : List Waiting). unpacked (reverse xs) vs ls) whole

-- ---- the lists of the topmost frame

its_values : (w : Waiting) (ws : List Waiting) (vs : List Value) (ls : List Local) → drop (values_from w (length vs)) vs ≡ values_on (unpacked (w ∷ ws) vs ls)
its_values (kept.Value f) ws vs ls = drop_whole vs
its_values (kept.Test f) ws vs ls = drop_whole vs
its_values (kept.Flow f) ws vs ls = drop_whole vs
its_values (kept.Unit f) ws vs ls = drop_whole vs
its_values (kept.Arguments goal ns k) ws vs ls = refl
its_values (kept.UpArguments up ns k) ws vs ls = refl
its_values (kept.UpEnter up ns) ws vs ls = drop_whole vs
its_values (kept.Construct line object k) ws vs ls = refl
its_values (kept.Scope n) ws vs ls = drop_whole vs
its_values (kept.Catch cs) ws vs ls = drop_whole vs
its_values (kept.Leave void this k) ws vs ls = drop_whole vs
its_values kept.Complete ws vs ls = drop_whole vs
its_values (kept.Back this k) ws vs ls = drop_whole vs
its_values (kept.Made object) ws vs ls = drop_whole vs
its_values (kept.Store field object) ws vs ls = drop_whole vs

its_locals : (w : Waiting) (ws : List Waiting) (vs : List Value) (ls : List Local) → drop (locals_from w (length ls)) ls ≡ locals_on (unpacked (w ∷ ws) vs ls)
its_locals (kept.Value f) ws vs ls = drop_whole ls
its_locals (kept.Test f) ws vs ls = drop_whole ls
its_locals (kept.Flow f) ws vs ls = drop_whole ls
its_locals (kept.Unit f) ws vs ls = drop_whole ls
its_locals (kept.Arguments goal ns k) ws vs ls = drop_whole ls
its_locals (kept.UpArguments up ns k) ws vs ls = drop_whole ls
its_locals (kept.UpEnter up ns) ws vs ls = drop_whole ls
its_locals (kept.Construct line object k) ws vs ls = drop_whole ls
its_locals (kept.Scope n) ws vs ls = drop_whole ls
its_locals (kept.Catch cs) ws vs ls = drop_whole ls
its_locals (kept.Leave void this k) ws vs ls = refl
its_locals kept.Complete ws vs ls = drop_whole ls
its_locals (kept.Back this k) ws vs ls = refl
its_locals (kept.Made object) ws vs ls = drop_whole ls
its_locals (kept.Store field object) ws vs ls = drop_whole ls

pub values_there : (ws : List Waiting) (n : ℕ) (w : Waiting) (vs : List Value) (ls : List Local) → 0 < n → n ≤ length ws → w ≡ get_or ws (n - 1) w → drop (values_from w (length vs)) vs ≡ values_on (unpacked (reverse (take n ws)) vs ls)
values_there ws n w vs ls some below is = its_values w (reverse (take (n - 1) ws)) vs ls ∙ ap (λ (us : List Waiting). values_on (unpacked us vs ls)) (sym (top_first ws n w some below is))

pub locals_there : (ws : List Waiting) (n : ℕ) (w : Waiting) (vs : List Value) (ls : List Local) → 0 < n → n ≤ length ws → w ≡ get_or ws (n - 1) w → drop (locals_from w (length ls)) ls ≡ locals_on (unpacked (reverse (take n ws)) vs ls)
locals_there ws n w vs ls some below is = its_locals w (reverse (take (n - 1) ws)) vs ls ∙ ap (λ (us : List Waiting). locals_on (unpacked us vs ls)) (sym (top_first ws n w some below is))

-- where nothing is left after so many, those are all
none_left : {A : Type 0} (k : ℕ) (xs : List A) → drop k xs ≡ [] → take k xs ≡ xs
none_left zero [] e = refl
none_left zero (x ∷ xs) e = absurd (cc (e))
none_left (suc k) [] e = refl
none_left (suc k) (x ∷ xs) e = ap (λ ys. x ∷ ys) (none_left k xs e)

-- a frame whose lists are empty goes, and the lists stay
pub plainly : (ws : List Waiting) (n : ℕ) (vs : List Value) (ls : List Local) → 0 < n → n ≤ length ws → values_on (unpacked (reverse (take n ws)) vs ls) ≡ [] → locals_on (unpacked (reverse (take n ws)) vs ls) ≡ [] → unpacked (reverse (take (n - 1) ws)) vs ls ≡ drop 1 (unpacked (reverse (take n ws)) vs ls)
plainly ws n vs ls some below no_vs no_ls =
    let w : Waiting = get_or ws (n - 1) kept.Complete in
    let in_them : n - 1 < length ws = omega (arith, some, below) in
    let is = get_or_default ws (n - 1) kept.Complete w in_them in
    let us = reverse (take (n - 1) ws) in
    let values = none_left (values_from w (length vs)) vs (values_there ws n w vs ls some below is ∙ no_vs) in
    let locals = none_left (locals_from w (length ls)) ls (locals_there ws n w vs ls some below is ∙ no_ls) in
    sym (
    ap (λ (xs : List Waiting). drop 1 (unpacked xs vs ls)) (top_first ws n w some below is)
    ∙ ap (λ (xs : List Value). unpacked us xs (take (locals_from w (length ls)) ls)) values
    ∙ ap (λ (xs : List Local). unpacked us vs xs) locals
    )

-- ---- one frame more

same_lists : (w : Waiting) → HasNoList w → (vs us : List Value) (ls ms : List Local) → frame_of w vs ls ≡ frame_of w us ms
same_lists (kept.Value f) p vs us ls ms = refl
same_lists (kept.Test f) p vs us ls ms = refl
same_lists (kept.Flow f) p vs us ls ms = refl
same_lists (kept.Unit f) p vs us ls ms = refl
same_lists (kept.Arguments goal ns k) p vs us ls ms = absurd p
same_lists (kept.UpArguments up ns k) p vs us ls ms = absurd p
same_lists (kept.UpEnter up ns) p vs us ls ms = refl
same_lists (kept.Construct line object k) p vs us ls ms = absurd p
same_lists (kept.Scope n) p vs us ls ms = refl
same_lists (kept.Catch cs) p vs us ls ms = refl
same_lists (kept.Leave void this k) p vs us ls ms = absurd p
same_lists kept.Complete p vs us ls ms = refl
same_lists (kept.Back this k) p vs us ls ms = absurd p
same_lists (kept.Made object) p vs us ls ms = refl
same_lists (kept.Store field object) p vs us ls ms = refl

no_values : (w : Waiting) → HasNoList w → (n : ℕ) → values_from w n ≡ n
no_values (kept.Value f) p n = refl
no_values (kept.Test f) p n = refl
no_values (kept.Flow f) p n = refl
no_values (kept.Unit f) p n = refl
no_values (kept.Arguments goal ns k) p n = absurd p
no_values (kept.UpArguments up ns k) p n = absurd p
no_values (kept.UpEnter up ns) p n = refl
no_values (kept.Construct line object k) p n = absurd p
no_values (kept.Scope m) p n = refl
no_values (kept.Catch cs) p n = refl
no_values (kept.Leave void this k) p n = absurd p
no_values kept.Complete p n = refl
no_values (kept.Back this k) p n = absurd p
no_values (kept.Made object) p n = refl
no_values (kept.Store field object) p n = refl

no_locals : (w : Waiting) → HasNoList w → (n : ℕ) → locals_from w n ≡ n
no_locals (kept.Value f) p n = refl
no_locals (kept.Test f) p n = refl
no_locals (kept.Flow f) p n = refl
no_locals (kept.Unit f) p n = refl
no_locals (kept.Arguments goal ns k) p n = absurd p
no_locals (kept.UpArguments up ns k) p n = absurd p
no_locals (kept.UpEnter up ns) p n = refl
no_locals (kept.Construct line object k) p n = absurd p
no_locals (kept.Scope m) p n = refl
no_locals (kept.Catch cs) p n = refl
no_locals (kept.Leave void this k) p n = absurd p
no_locals kept.Complete p n = refl
no_locals (kept.Back this k) p n = absurd p
no_locals (kept.Made object) p n = refl
no_locals (kept.Store field object) p n = refl

pub pushed : (w : Waiting) (ws us : List Waiting) (vs : List Value) (ls : List Local) → HasNoList w → us ≡ w ∷ ws → unpacked us vs ls ≡ frame_of w [] [] ∷ unpacked ws vs ls
pushed w ws us vs ls p e =
    ap (λ (xs : List Waiting). unpacked xs vs ls) e
    ∙ ap (λ (f : Frame). f ∷ unpacked ws (take (values_from w (length vs)) vs) (take (locals_from w (length ls)) ls)) (same_lists w p _ [] _ [])
    ∙ ap (λ (xs : List Value). frame_of w [] [] ∷ unpacked ws xs (take (locals_from w (length ls)) ls)) (ap (λ (n : ℕ). take n vs) (no_values w p (length vs)) ∙ take_whole vs)
    ∙ ap (λ (xs : List Local). frame_of w [] [] ∷ unpacked ws vs xs) (ap (λ (n : ℕ). take n ls) (no_locals w p (length ls)) ∙ take_whole ls)

-- with values, or with locals, after those of the others
with_values : (f : List Value → Frame) (ws : List Waiting) (vs us : List Value) (ls : List Local) → f (drop (length vs) (vs ++ us)) ∷ unpacked ws (take (length vs) (vs ++ us)) (take (length ls) ls) ≡ f us ∷ unpacked ws vs ls
with_values f ws vs us ls =
    ap (λ (xs : List Value). f xs ∷ unpacked ws (take (length vs) (vs ++ us)) (take (length ls) ls)) (drop_front vs us)
    ∙ ap (λ (xs : List Value). f us ∷ unpacked ws xs (take (length ls) ls)) (take_at vs us (length vs) refl)
    ∙ ap (λ (xs : List Local). f us ∷ unpacked ws vs xs) (take_whole ls)

with_locals : (f : List Local → Frame) (ws : List Waiting) (vs : List Value) (ls ms : List Local) → f (drop (length ls) (ls ++ ms)) ∷ unpacked ws (take (length vs) vs) (take (length ls) (ls ++ ms)) ≡ f ms ∷ unpacked ws vs ls
with_locals f ws vs ls ms =
    ap (λ (xs : List Local). f xs ∷ unpacked ws (take (length vs) vs) (take (length ls) (ls ++ ms))) (drop_front ls ms)
    ∙ ap (λ (xs : List Local). f ms ∷ unpacked ws (take (length vs) vs) xs) (take_at ls ms (length ls) refl)
    ∙ ap (λ (xs : List Value). f ms ∷ unpacked ws xs ls) (take_whole vs)

pub pushed_arguments : (goal : Goal) (ns : Nodes) (n : ℕ) (ws us : List Waiting) (vs found all : List Value) (ls : List Local) → us ≡ kept.Arguments goal ns n ∷ ws → n ≡ length vs → all ≡ vs ++ found → unpacked us all ls ≡ frames.Arguments goal ns found ∷ unpacked ws vs ls
pushed_arguments goal ns n ws us vs found all ls e is more =
    ap (λ (xs : List Waiting). unpacked xs all ls) e
    ∙ ap (λ (k : ℕ). unpacked (kept.Arguments goal ns k ∷ ws) all ls) is
    ∙ ap (λ (xs : List Value). unpacked (kept.Arguments goal ns (length vs) ∷ ws) xs ls) more
    ∙ with_values (λ (xs : List Value). frames.Arguments goal ns xs) ws vs found ls

pub pushed_up_arguments : (up : Up) (ns : Nodes) (n : ℕ) (ws us : List Waiting) (vs found all : List Value) (ls : List Local) → us ≡ kept.UpArguments up ns n ∷ ws → n ≡ length vs → all ≡ vs ++ found → unpacked us all ls ≡ frames.UpArguments up ns found ∷ unpacked ws vs ls
pushed_up_arguments up ns n ws us vs found all ls e is more =
    ap (λ (xs : List Waiting). unpacked xs all ls) e
    ∙ ap (λ (k : ℕ). unpacked (kept.UpArguments up ns k ∷ ws) all ls) is
    ∙ ap (λ (xs : List Value). unpacked (kept.UpArguments up ns (length vs) ∷ ws) xs ls) more
    ∙ with_values (λ (xs : List Value). frames.UpArguments up ns xs) ws vs found ls

pub pushed_construct : (line : Nodes) (object : Value) (n : ℕ) (ws us : List Waiting) (vs found all : List Value) (ls : List Local) → us ≡ kept.Construct line object n ∷ ws → n ≡ length vs → all ≡ vs ++ found → unpacked us all ls ≡ frames.Construct line object found ∷ unpacked ws vs ls
pushed_construct line object n ws us vs found all ls e is more =
    ap (λ (xs : List Waiting). unpacked xs all ls) e
    ∙ ap (λ (k : ℕ). unpacked (kept.Construct line object k ∷ ws) all ls) is
    ∙ ap (λ (xs : List Value). unpacked (kept.Construct line object (length vs) ∷ ws) xs ls) more
    ∙ with_values (λ (xs : List Value). frames.Construct line object xs) ws vs found ls

pub pushed_leave : (void : Bool) (this : Value) (n : ℕ) (ws us : List Waiting) (vs : List Value) (ls ms all : List Local) → us ≡ kept.Leave void this n ∷ ws → n ≡ length ls → all ≡ ls ++ ms → unpacked us vs all ≡ frames.Leave void this ms ∷ unpacked ws vs ls
pushed_leave void this n ws us vs ls ms all e is more =
    ap (λ (xs : List Waiting). unpacked xs vs all) e
    ∙ ap (λ (k : ℕ). unpacked (kept.Leave void this k ∷ ws) vs all) is
    ∙ ap (λ (xs : List Local). unpacked (kept.Leave void this (length ls) ∷ ws) vs xs) more
    ∙ with_locals (λ (xs : List Local). frames.Leave void this xs) ws vs ls ms

pub pushed_back : (this : Value) (n : ℕ) (ws us : List Waiting) (vs : List Value) (ls ms all : List Local) → us ≡ kept.Back this n ∷ ws → n ≡ length ls → all ≡ ls ++ ms → unpacked us vs all ≡ frames.Back this ms ∷ unpacked ws vs ls
pushed_back this n ws us vs ls ms all e is more =
    ap (λ (xs : List Waiting). unpacked xs vs all) e
    ∙ ap (λ (k : ℕ). unpacked (kept.Back this k ∷ ws) vs all) is
    ∙ ap (λ (xs : List Local). unpacked (kept.Back this (length ls) ∷ ws) vs xs) more
    ∙ with_locals (λ (xs : List Local). frames.Back this xs) ws vs ls ms

-- ---- copies

pub same_frames : (ws us : List Waiting) (vs vs' : List Value) (ls ls' : List Local) → ws ≡ us → vs ≡ vs' → ls ≡ ls' → unpacked ws vs ls ≡ unpacked us vs' ls'
same_frames ws us vs vs' ls ls' e f g =
    ap (λ (xs : List Waiting). unpacked xs vs ls) e ∙ ap (λ (xs : List Value). unpacked us xs ls) f ∙ ap (λ (xs : List Local). unpacked us vs' xs) g

pub go_on_alike : (fs gs : List Frame) → gs ≡ fs → GoOnAlike fs gs
go_on_alike fs gs e = record {
  value = λ code d o. ap (λ (hs : List Frame). out_value code d hs o) (sym e);
  flow = λ code d o. ap (λ (hs : List Frame). out_flow code d hs o) (sym e);
  unit = λ code d o. ap (λ (hs : List Frame). out_unit code d hs o) (sym e);
}
