-- A deque that is emptied by its owner.
use Rattle.std.proofs.Common.{◌≡◌, ℕ, ◌+◌, ◌-◌, ◌<◌, ◌≤◌, List, [], ◌∷◌, ◌++◌, Bool, true, true≢false, length, refl, sym, ap, ◌∙◌, subst, arith, append_assoc, length-append}
use Rattle.std.specs.Prelude.{Option, Some, None, MatchOption}
use Rattle.std.proofs.lemmas.List.{append-nil}
use Rattle.crossbeam_deque.specs.Handles.{worker_view, worker_flavor}
use Rattle.kr_base.specs.declared.span.Span.{Span}
use Rattle.kr_survey.specs.Spans.{how_many}
use Rattle.kr_deque_hands.specs.Pieces.{AllAhead}
use Rattle.kr_deque_hands.proofs.Covers.{counted_append}
use Rattle.kr_deque_hands.specs.declared.task.Task.{Task}
use Rattle.kr_deque_hands.specs.declared.task.Task.TheVariants.{Whole, Mark}
use Rattle.kr_deque_hands.specs.declared.rule.Log.{Log}
use Rattle.kr_deque_hands.specs.declared.rule.View.{View}
use Rattle.kr_deque_hands.specs.Logs.{spans_taken, IsRest, IsFirst, MayBeEmpty, IsPopped}
use Rattle.kr_deque_hands.specs.Building.{Owner}
use Rattle.kr_deque_hands.specs.Gathering.{Drains}
use Rattle.kr_deque_hands.proofs.Turns.{weigh_takes, count_takes}
use Rattle.kr_deque_hands.proofs.Carrying.{ahead_append}

-- So far these were taken and added. Of a deque that was shut at first, nothing was.
pub record IsDraining (first now : Owner) (before after : List Span) : Type 0 where
  pub fifo : worker_flavor now ≡ 0
  pub owner : (worker_view now).log.owner ≡ true
  pub thief : (worker_view now).log.thief ≡ true
  pub rest : List Span
  pub ahead : AllAhead rest
  pub added : after ≡ before ++ rest
  pub given : (worker_view now).log.given ≡ (worker_view first).log.given
  pub pushed : (worker_view now).log.pushed ≡ (worker_view first).log.pushed
  pub popped : (worker_view now).log.popped ≡ (worker_view first).log.popped ++ rest
  pub stolen : (worker_view now).log.stolen ≡ (worker_view first).log.stolen
  pub none : (worker_view first).marks.shut ≡ true → ((worker_view now).marks.shut ≡ true) × (rest ≡ [])

pub draining_none : (first now : Owner) (l : List Span) → worker_view now ≡ worker_view first → worker_flavor now ≡ 0 → (worker_view first).log.owner ≡ true → (worker_view first).log.thief ≡ true → IsDraining first now l l
draining_none w now l e f o t = record {
  fifo = f;
  owner = ap (λ (v : View). v.log.owner) e ∙ o;
  thief = ap (λ (v : View). v.log.thief) e ∙ t;
  rest = [];
  ahead = tt;
  added = sym (append-nil l);
  given = ap (λ (v : View). v.log.given) e;
  pushed = ap (λ (v : View). v.log.pushed) e;
  popped = ap (λ (v : View). v.log.popped) e ∙ sym (append-nil (worker_view w).log.popped);
  stolen = ap (λ (v : View). v.log.stolen) e;
  none = λ s. (ap (λ (v : View). v.marks.shut) e ∙ s, refl);
}

pub draining_more : (first now next : Owner) (before after : List Span) (x : Span) → (d : IsDraining first now before after) → worker_flavor next ≡ 0 → IsPopped (worker_view now) (Whole x ∷ []) (worker_view next)
    → IsDraining first next before (after ++ x ∷ [])
draining_more first now next before after x d f p =
    let e = p.0 in
    record {
      fifo = f;
      owner = ap (λ (v : View). v.log.owner) e ∙ d.owner;
      thief = ap (λ (v : View). v.log.thief) e ∙ d.thief;
      rest = d.rest ++ x ∷ [];
      ahead = ahead_append d.rest (x ∷ []) d.ahead (p.2, tt);
      added = ap (λ (l : List Span). l ++ x ∷ []) d.added ∙ append_assoc before d.rest (x ∷ []);
      given = ap (λ (v : View). v.log.given) e ∙ d.given;
      pushed = ap (λ (v : View). v.log.pushed) e ∙ d.pushed;
      popped = ap (λ (v : View). v.log.popped) e ∙ (ap (λ (l : List Span). l ++ x ∷ []) d.popped ∙ append_assoc (worker_view first).log.popped d.rest (x ∷ []));
      stolen = ap (λ (v : View). v.log.stolen) e ∙ d.stolen;
      none = λ s. absurd (true≢false (sym (d.none s).0 ∙ p.1));
    }

-- a mark is nothing
pub draining_mark : (first now next : Owner) (before after : List Span) (k : ℕ) → (d : IsDraining first now before after) → worker_flavor next ≡ 0 → IsPopped (worker_view now) (Mark k ∷ []) (worker_view next)
    → IsDraining first next before after
draining_mark first now next before after k d f p =
    let e = p.0 in
    record {
      fifo = f;
      owner = ap (λ (v : View). v.log.owner) e ∙ d.owner;
      thief = ap (λ (v : View). v.log.thief) e ∙ d.thief;
      rest = d.rest;
      ahead = d.ahead;
      added = d.added;
      given = ap (λ (v : View). v.log.given) e ∙ d.given;
      pushed = ap (λ (v : View). v.log.pushed) e ∙ d.pushed;
      popped = ap (λ (v : View). v.log.popped) e ∙ d.popped;
      stolen = ap (λ (v : View). v.log.stolen) e ∙ d.stolen;
      none = λ s. absurd (true≢false (sym (d.none s).0 ∙ p.1));
    }

-- no more was taken than came before the first
few_taken : (v : Log) (x : Span) → IsFirst v x → v.thief ≡ true → length v.popped + length v.stolen + 1 ≤ length (v.given ++ v.pushed)
few_taken v x e t =
    let n = ap (λ (l : List Span). length l) e.came ∙ length-append (spans_taken e.takes) (x ∷ e.rest) in
    let o = ap (λ (l : List Span). length l) e.popped_is in
    let s = ap (λ (l : List Span). length l) (e.stolen_is t) in
    omega (arith, n, o, s, count_takes e.takes)

pub first_same : (v w : Log) (x : Span) → w ≡ v → IsFirst w x → IsFirst v x
first_same v w x e f = subst (λ (l : Log). IsFirst l x) e f

-- how much there is to take
abbrev pub to_take : View → ℕ
to_take v = (length (v.log.given ++ v.log.pushed) - (length v.log.popped + length v.log.stolen)) + (v.marks.pushed - v.marks.popped)

-- a pop leaves less of it
pub draining_less : (now next : View) (x : Span) → now.log.thief ≡ true → IsPopped now (Whole x ∷ []) next → to_take next < to_take now
draining_less now next x t p =
    let e = p.0 in
    let f = few_taken now.log x p.3 t in
    let a = ap (λ (v : View). length (v.log.given ++ v.log.pushed)) e in
    let b = ap (λ (v : View). length v.log.popped) e in
    let d = ap (λ (v : View). length v.log.stolen) e in
    let m = ap (λ (v : View). v.marks.pushed) e in
    let q = ap (λ (v : View). v.marks.popped) e in
    let n = length-append now.log.popped (x ∷ []) in
    omega (arith, f, a, b, d, n, m, q)

pub draining_fewer : (now next : View) (k : ℕ) → IsPopped now (Mark k ∷ []) next → to_take next < to_take now
draining_fewer now next k p =
    let e = p.0 in
    let a = ap (λ (v : View). length (v.log.given ++ v.log.pushed)) e in
    let b = ap (λ (v : View). length v.log.popped) e in
    let d = ap (λ (v : View). length v.log.stolen) e in
    let m = ap (λ (v : View). v.marks.pushed) e in
    let q = ap (λ (v : View). v.marks.popped) e in
    let fewer = p.2 in
    omega (arith, a, b, d, m, q, fewer)

-- what came, as it was taken, and the rest
weigh_rest : (p : Span → Bool) (given pushed popped stolen held : List Span) → IsRest (given ++ pushed) popped stolen held → how_many p given + how_many p pushed ≡ how_many p popped + how_many p stolen + how_many p held
weigh_rest p given pushed popped stolen held e =
    let came = ap (λ (l : List Span). how_many p l) e.front ∙ counted_append p (spans_taken e.takes) held in
    let two = counted_append p given pushed in
    let w = weigh_takes p e.takes in
    let o = ap (λ (l : List Span). how_many p l) e.popped_is in
    let t = ap (λ (l : List Span). how_many p l) e.stolen_is in
    omega (arith, came, two, w, o, t)

-- once it is empty, all that came was taken
pub draining_all : (first now : Owner) (before after held : List Span) → (d : IsDraining first now before after) → MayBeEmpty (worker_view now).log
    → IsRest ((worker_view first).log.given ++ (worker_view first).log.pushed) (worker_view first).log.popped (worker_view first).log.stolen held
    → Drains (worker_view first) (worker_view first).log.stolen before after
draining_all first now before after held d m r =
    let v = (worker_view first).log in
    let u = (worker_view now).log in
    let whole : (p : Span → Bool) → how_many p v.given + how_many p v.pushed ≡ how_many p v.popped + how_many p v.stolen + how_many p d.rest = λ p.
    let w = weigh_rest p u.given u.pushed u.popped m.0 [] m.2 in
    let o = ap (λ (l : List Span). how_many p l) d.popped ∙ counted_append p v.popped d.rest in
    let t = ap (λ (l : List Span). how_many p l) (sym (m.1 d.thief) ∙ d.stolen) in
    let g = ap (λ (l : List Span). how_many p l) d.given in
    let q = ap (λ (l : List Span). how_many p l) d.pushed in
    omega (arith, w, o, t, g, q) in
    record {
      rest = d.rest;
      ahead = d.ahead;
      added = d.added;
      all = whole;
      held = held;
      is_rest = r;
      same = λ p. let a = whole p in let b = weigh_rest p v.given v.pushed v.popped v.stolen held r in omega (arith, a, b);
      none = λ s. (d.none s).1;
    }

-- what a call that took nothing reports
pub when_none : {A : Type 0} {P : Type 0} (o : Option A) (Q : A → Type 0) → ((x : A) → o ≡ Some x → ⊥) → MatchOption o P Q → P
when_none None Q n m = m
when_none (Some x) Q n m = absurd (n x refl)

-- what stays when the owner takes a task, or finds none
pub kept_by_pop : (o : Option Task) (v w : View) (P : Type 0) → MatchOption o ((w ≡ v) × P) (λ t. IsPopped v (t ∷ []) w)
    → (w.log.owner ≡ v.log.owner) × (w.log.thief ≡ v.log.thief) × (w.log.pushed ≡ v.log.pushed) × (w.marks.pushed ≡ v.marks.pushed) × (v.marks.shut ≡ true → w.marks.shut ≡ true)
kept_by_pop None v w P m = (
  ap (λ (x : View). x.log.owner) m.0,
  ap (λ (x : View). x.log.thief) m.0,
  ap (λ (x : View). x.log.pushed) m.0,
  ap (λ (x : View). x.marks.pushed) m.0,
  λ s. ap (λ (x : View). x.marks.shut) m.0 ∙ s,
)
kept_by_pop (Some (Whole s)) v w P m = (
  ap (λ (x : View). x.log.owner) m.0,
  ap (λ (x : View). x.log.thief) m.0,
  ap (λ (x : View). x.log.pushed) m.0,
  ap (λ (x : View). x.marks.pushed) m.0,
  λ s. absurd (true≢false (sym s ∙ m.1)),
)
kept_by_pop (Some (Mark k)) v w P m = (
  ap (λ (x : View). x.log.owner) m.0,
  ap (λ (x : View). x.log.thief) m.0,
  ap (λ (x : View). x.log.pushed) m.0,
  ap (λ (x : View). x.marks.pushed) m.0,
  λ s. absurd (true≢false (sym s ∙ m.1)),
)
