-- Rows handed over, one piece after another.
use Rattle.std.proofs.Common.{◌≡◌, ◌≤◌, inl, inr, true, ℕ, zero, suc, ◌+◌, List, [], ◌∷◌, ◌++◌, length, take, drop, refl, sym, ap, ◌∙◌, subst, arith, append_assoc, length-take, Vec, Global}
use Rattle.std.specs.Prelude.{Some, None, Result, Ok, Err, IfOk}
use Rattle.std.proofs.lemmas.List.{append-nil, take-append-drop}
use Rattle.kr_base.specs.declared.entry.Entry.{Entry}
use Rattle.kr_core.specs.declared.event.Event.{Event}
use Rattle.kr_core.specs.Rows.{drained}
use Rattle.kr_survey.specs.Joins.{joined, lists}
use Rattle.kr_survey.specs.Scans.{rows_of}
use Rattle.kr_survey.specs.Takings.{Takes, Took, Ends, Halts}
use Rattle.kr_survey.specs.declared.taker.End.{End}
use Rattle.kr_survey.specs.declared.taker.End.TheVariants.{Whole, Full as AtFull}
use Rattle.kr_survey.specs.declared.taker.Halt.{Halt}
use Rattle.kr_survey.specs.declared.taker.Halt.TheVariants.{Sink, Memory}
use Rattle.kr_survey.specs.declared.taker.Room.{Room}
use Rattle.kr_survey.specs.declared.taker.Room.TheVariants.{More, Full}
use Rattle.kr_pool.specs.Handing.{HasTaken, HasBroken, HandsOver, ReachesTo}
use Rattle.kr_pool.specs.Sharing.{EndsFull, EndsLogged, SharesRest, with_log}
use Rattle.kr_pool_desk.specs.Runs.{are_shared}

-- fronts of a list

front : {A : Type 0} (xs ys : List A) → xs ≡ take (length xs) (xs ++ ys)
front [] ys = refl
front {A} (x ∷ xs) ys = ap (λ (l : List A). x ∷ l) (front xs ys)

nothing : {A : Type 0} (k : ℕ) → take {A = A} k [] ≡ []
nothing zero = refl
nothing (suc k) = refl

take_then : {A : Type 0} (d k n : ℕ) (all : List A) → n ≡ d + k → take d all ++ take k (drop d all) ≡ take n all
take_then zero k n all e = let m : k ≡ n = omega (arith, e) in ap (λ i. take i all) m
take_then {A} (suc d) k n [] e = nothing k ∙ sym (nothing n)
take_then {A} (suc d) k zero (x ∷ xs) e = absurd (omega (arith, e))
take_then {A} (suc d) k (suc n) (x ∷ xs) e = ap (λ (l : List A). x ∷ l) (take_then d k n xs (omega (arith, e)))

front_more : {A : Type 0} (d n : ℕ) (rows all : List A) → rows ≡ take (length rows) (drop d all) → n ≡ d + length rows → take d all ++ rows ≡ take n all
front_more {A} d n rows all is e = ap (λ (l : List A). take d all ++ l) is ∙ take_then d (length rows) n all e

take_front : {A : Type 0} (n : ℕ) (xs ys : List A) → take n xs ≡ take (length (take n xs)) (xs ++ ys)
take_front zero xs ys = refl
take_front (suc n) [] ys = refl
take_front {A} (suc n) (x ∷ xs) ys = ap (λ (l : List A). x ∷ l) (take_front n xs ys)

front_of : {A : Type 0} (n e : ℕ) (all : List A) → take n (take e all) ≡ take (length (take n (take e all))) all
front_of {A} n e all = take_front n (take e all) (drop e all) ∙ ap (λ (l : List A). take (length (take n (take e all))) l) (take-append-drop e all)

taken_few : {A : Type 0} (n e : ℕ) (all : List A) → length (take n (take e all)) ≤ e
taken_few n e all = let a = length-take n (take e all) in let b = length-take e all in omega (arith, a, b)

-- pieces

pub pieces_whole : {R : Type 0} (before after : List (Vec R Global)) (v : Vec R Global) (all : List (Vec R Global)) (done : List R) → (before ++ v ∷ []) ++ after ≡ all
    → done ++ joined (lists all) ≡ ((done ++ joined (lists before)) ++ v.items) ++ joined (lists after)
pieces_whole {R} before after v all done is =
    ap (λ (vs : List (Vec R Global)). done ++ joined (lists vs)) (sym is)
    ∙ (ap (λ (l : List R). done ++ l) (parts (before ++ v ∷ []) after ∙ ap (λ (l : List R). l ++ joined (lists after)) (last before v))
    ∙ (sym (append_assoc done (joined (lists before) ++ v.items) (joined (lists after))) ∙ ap (λ (l : List R). l ++ joined (lists after)) (sym (append_assoc done (joined (lists before)) v.items))))
  where
    parts : (xs ys : List (Vec R Global)) → joined (lists (xs ++ ys)) ≡ joined (lists xs) ++ joined (lists ys)
    parts [] ys = refl
    parts (x ∷ xs) ys = ap (λ (l : List R). x.items ++ l) (parts xs ys) ∙ sym (append_assoc x.items (joined (lists xs)) (joined (lists ys)))

    last : (xs : List (Vec R Global)) (w : Vec R Global) → joined (lists (xs ++ w ∷ [])) ≡ joined (lists xs) ++ w.items
    last xs w = parts xs (w ∷ []) ∙ ap (λ (l : List R). joined (lists xs) ++ l) (append-nil w.items)

pub pieces_more : {R : Type 0} (before : List (Vec R Global)) (v : Vec R Global) (done : List R) → (done ++ joined (lists before)) ++ v.items ≡ done ++ joined (lists (before ++ v ∷ []))
pieces_more {R} before v done =
    sym (pieces_whole before [] v (before ++ v ∷ []) done (append-nil (before ++ v ∷ [])) ∙ append-nil ((done ++ joined (lists before)) ++ v.items))

module _ {T K R : Type 0} (takes : Takes T K R) where
  -- a front of all was taken, and then the taker was full, or broke off

  pub taken_full : (whole some rest : List R) (a : T) (from : K) (b : T) (out : K) → whole ≡ some ++ rest → takes a from some b out (Some Full) → HasTaken takes whole a from b out Full
  taken_full whole some rest a from b out is h = (length some, subst (λ (l : List R). takes a from l b out (Some Full)) (front some rest ∙ ap (λ (l : List R). take (length some) l) (sym is)) h)

  pub broken : (whole done rows rest : List R) (a : T) (from : K) (b : T) (out : K) (halt : Halt) → whole ≡ (done ++ rows) ++ rest → Took takes a from done rows b out (Err halt) → HasBroken takes whole a from b out halt
  broken whole done rows rest a from b out Sink is h = (length (done ++ rows), subst (λ (l : List R). takes a from l b out None) (front (done ++ rows) rest ∙ ap (λ (l : List R). take (length (done ++ rows)) l) (sym is)) h)
  broken whole done rows rest a from b out (Memory why) is h = (
    length done,
    More,
    subst (λ (l : List R). takes a from l b out (Some More)) (front done (rows ++ rest) ∙ ap (λ (l : List R). take (length done) l) (sym (is ∙ append_assoc done rows rest))) h,
  )

  full_within : (e : ℕ) (all : List R) (a : T) (from : K) (b : T) (out : K) → HasTaken takes (take e all) a from b out Full → (n : ℕ) × (n ≤ e) × takes a from (take n all) b out (Some Full)
  full_within e all a from b out h = (length (take h.0 (take e all)), taken_few h.0 e all, subst (λ (l : List R). takes a from l b out (Some Full)) (front_of h.0 e all) h.1)

  broken_within : (e : ℕ) (all : List R) (a : T) (from : K) (b : T) (out : K) (halt : Halt) → HasBroken takes (take e all) a from b out halt → HasBroken takes all a from b out halt
  broken_within e all a from b out Sink h = (length (take h.0 (take e all)), subst (λ (l : List R). takes a from l b out None) (front_of h.0 e all) h.1)
  broken_within e all a from b out (Memory why) h = (length (take h.0 (take e all)), h.1, subst (λ (l : List R). takes a from l b out (Some h.1)) (front_of h.0 e all) h.2)

  -- the next rows of all

  pub reaches_by : (es : List (Entry R)) (d e : ℕ) (rows : List R) (old : T) (was : K) (new : T) (out : K) (r : Result Room Halt) → rows ≡ take (length rows) (drop d (rows_of es)) → e ≡ d + length rows
      → ((start : T) (from : K) (done : List R) → takes start from done old was (Some More) → HandsOver takes (done ++ rows) start from new out r) → ReachesTo takes es d e old was new out r
  reaches_by es d e rows old was new out (Ok room) is count h = λ start from t.
      subst (λ (l : List R). HasTaken takes l start from new out room) (front_more d e rows (rows_of es) is count) (h start from (take d (rows_of es)) t)
  reaches_by es d e rows old was new out (Err halt) is count h = λ start from t.
      broken_within e (rows_of es) start from new out halt (subst (λ (l : List R). HasBroken takes l start from new out halt) (front_more d e rows (rows_of es) is count) (h start from (take d (rows_of es)) t))

  -- to the end

  pub shares_then : (es : List (Entry R)) (workers d e : ℕ) (old : T) (was : K) (mid : T) (between : K) (new : T) (out : K) (r : Result (End × Vec Event Global) Halt) → ReachesTo takes es d e old was mid between (Ok More)
      → SharesRest takes es workers e mid between new out r → SharesRest takes es workers d old was new out r
  shares_then es workers d e old was mid between new out r h k = λ start from t. k start from (h start from t)

  pub halts : (es : List (Entry R)) (a : T) (from : K) (b : T) (out : K) (halt : Halt) → HasBroken takes (rows_of es) a from b out halt → Halts takes es a from b out halt
  halts es a from b out Sink h = h
  halts es a from b out (Memory why) h = h

  -- a listing handed over to its end, where the log has no stop
  pub rest_logged : (es : List (Entry R)) (workers : ℕ) (log : List Event) (a : T) (from : K) (b : T) (out : K) (end : End) → are_shared workers log ≡ true → Ends takes es a from b out end → EndsLogged takes es workers log a from b out end
  rest_logged es workers log a from b out (Whole tried spent) whole h = h
  rest_logged es workers log a from b out AtFull whole h = (h.0, inl whole, h.1)

  -- a log says less than its end
  pub logged_ends : (es : List (Entry R)) (workers : ℕ) (log : List Event) (a : T) (from : K) (b : T) (out : K) (end : End) → EndsLogged takes es workers log a from b out end → Ends takes es a from b out end
  logged_ends es workers log a from b out (Whole tried spent) h = h
  logged_ends es workers log a from b out AtFull h = (h.0, h.2)

  full_ends : (es : List (Entry R)) (workers : ℕ) (log : List Event) (a : T) (from : K) (b : T) (out : K) (end : End) → end ≡ AtFull → (n : ℕ) × (n ≤ drained log) × takes a from (take n (rows_of es)) b out (Some Full) → EndsLogged takes es workers log a from b out end
  full_ends es workers log a from b out (Whole tried spent) is h = absurd (cc (is))
  full_ends es workers log a from b out AtFull is h = (h.0, inr h.1, h.2)

  -- the taker is full, of rows that were drained
  pub shares_full : (es : List (Entry R)) (workers d e : ℕ) (old : T) (was : K) (new : T) (out : K) (r : Result (End × Vec Event Global) Halt) → ReachesTo takes es d e old was new out (Ok Full) → EndsFull r
      → IfOk r (λ x. drained x.1.items ≡ e) → SharesRest takes es workers d old was new out r
  shares_full es workers d e old was new out (Ok r) h k f = λ start from t.
      let n = full_within e (rows_of es) start from new out (h start from t) in
      full_ends es workers r.1.items start from new out r.0 k (n.0, omega (arith, n.1, f), n.2)
  shares_full es workers d e old was new out (Err Sink) h k f = absurd k
  shares_full es workers d e old was new out (Err (Memory why)) h k f = λ start from t.
      let n = full_within e (rows_of es) start from new out (h start from t) in (n.0, Full, n.2)

-- a log's events are its items
pub named_ok : (P : End × List Event → Type 0) (r : Result (End × Vec Event Global) Halt) → IfOk r (λ x. P (x.0, x.1.items)) → IfOk (with_log r) P
named_ok P (Ok r) h = h
named_ok P (Err halt) h = tt
