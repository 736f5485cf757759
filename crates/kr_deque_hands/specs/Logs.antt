-- Between crates: the rule of a deque of spans and marks: what came to it, who took what, and what it holds.
use Rattle.std.specs.Prelude.{◌≡◌, ℕ, ◌+◌, ◌<◌, ◌≤◌, ◌==◌, Bool, true, false, List, [], ◌∷◌, ◌++◌, map, length, if◌then◌else◌}
use mathlib.Core.Option.{some}
use lib.ListN.{get_elem?}
use Rattle.kr_base.specs.declared.span.Span.{Span}
use Rattle.kr_survey.specs.Spans.{is_ahead}
use Rattle.kr_deque_hands.specs.Pieces.{AllAhead}
use Rattle.kr_deque_hands.specs.declared.task.Task.{Task}
use Rattle.kr_deque_hands.specs.declared.task.Task.TheVariants.{Whole, Mark}
use Rattle.kr_deque_hands.specs.declared.rule.Log.{Log}
use Rattle.kr_deque_hands.specs.declared.rule.Marks.{Marks}
use Rattle.kr_deque_hands.specs.declared.rule.View.{View}

-- a span that was taken, by the owner or by the thief
pub record Take : Type 0 where
  pub by_owner : Bool
  pub span : Span

abbrev pub spans_taken : List Take → List Span
spans_taken ts = map (λ t. t.span) ts

abbrev pub owners : List Take → List Span
owners [] = []
owners (t ∷ ts) = if t.by_owner then t.span ∷ owners ts else owners ts

abbrev pub thiefs : List Take → List Span
thiefs [] = []
thiefs (t ∷ ts) = if t.by_owner then thiefs ts else t.span ∷ thiefs ts

-- ---- what lies on a deque

abbrev pub spans_among : List Task → List Span
spans_among [] = []
spans_among (Whole s ∷ ts) = s ∷ spans_among ts
spans_among (Mark k ∷ ts) = spans_among ts

abbrev pub marks_among : List Task → ℕ
marks_among [] = 0
marks_among (Whole s ∷ ts) = marks_among ts
marks_among (Mark k ∷ ts) = 1 + marks_among ts

-- of so many pushes each mark has a number below, and nothing lies after the mark of the last push
abbrev pub Numbered : ℕ → List Task → Type 0
Numbered n [] = Unit {0}
Numbered n (Whole s ∷ ts) = Numbered n ts
Numbered n (Mark k ∷ ts) = (k < n) × (k + 1 ≡ n → ts ≡ []) × Numbered n ts

-- ---- what a pass knows

abbrev pub log : Bool → Bool → List Span → List Span → List Span → List Span → Log
log owner thief given pushed popped stolen = record { owner = owner; thief = thief; given = given; pushed = pushed; popped = popped; stolen = stolen }

abbrev pub marks : ℕ → ℕ → Bool → Marks
marks pushed popped shut = record { pushed = pushed; popped = popped; shut = shut }

abbrev pub no_marks : Marks
no_marks = marks 0 0 false

abbrev pub view_of : Log → Marks → View
view_of l m = record { log = l; marks = m }

-- One pass at most is the owner's, which has the lists of what was given at the start, of what was pushed and of what was
-- popped, and knows the marks. One at most is the thief's, which has the list of what was stolen.
abbrev pub Owns : ℕ → List Span → List Span → ℕ → List Take → List Task → ℕ → View → Type 0
Owns owner given pushed count takes items port v =
    (port ≡ owner) × (v.log.given ≡ given) × (v.log.pushed ≡ pushed) × (v.log.popped ≡ owners takes)
    × (v.marks.pushed ≡ count) × (v.marks.popped + marks_among items ≤ count) × (v.marks.shut ≡ true → items ≡ [])

abbrev pub Fits : ℕ → ℕ → List Span → List Span → ℕ → List Take → List Task → ℕ → View → Type 0
Fits owner thief given pushed count takes items port v =
    (v.log.owner ≡ true → Owns owner given pushed count takes items port v) × (v.log.thief ≡ true → (port ≡ thief) × (v.log.stolen ≡ thiefs takes))

-- What came is what was taken, in the order in which it was taken, and then what the deque holds. Each span begins before it
-- ends.
pub record Kept (items : List Task) (views : List View) : Type 0 where
  pub owner : ℕ
  pub thief : ℕ
  pub given : List Span
  pub pushed : List Span
  pub count : ℕ
  pub takes : List Take
  pub came : given ++ pushed ≡ spans_taken takes ++ spans_among items
  pub ahead : AllAhead (spans_among items)
  pub numbered : Numbered (length pushed + count) items
  pub fits : (port : ℕ) (v : View) → get_elem? views port ≡ some v → Fits owner thief given pushed count takes items port v

-- What the owner and the thief took of a deque is a front of what came, each span once, in the order in which it came. This is
-- the rest.
pub record IsRest (came popped stolen rest : List Span) : Type 0 where
  pub takes : List Take
  pub front : came ≡ spans_taken takes ++ rest
  pub popped_is : popped ≡ owners takes
  pub stolen_is : stolen ≡ thiefs takes

-- The first span of a deque: it came right after all those that the owner and a thief had taken.
pub record IsFirst (v : Log) (first : Span) : Type 0 where
  pub takes : List Take
  pub rest : List Span
  pub came : v.given ++ v.pushed ≡ spans_taken takes ++ first ∷ rest
  pub popped_is : v.popped ≡ owners takes
  pub stolen_is : v.thief ≡ true → v.stolen ≡ thiefs takes

-- all that came may have been taken: what the owner took, and what a thief took
abbrev pub MayBeEmpty : Log → Type 0
MayBeEmpty v = (stolen : List Span) × (v.thief ≡ true → v.stolen ≡ stolen) × IsRest (v.given ++ v.pushed) v.popped stolen []

-- of a pass with both roles: this is the rest
abbrev pub KnowsRest : Log → List Task → Type 0
KnowsRest v items = v.owner ≡ true → v.thief ≡ true → IsRest (v.given ++ v.pushed) v.popped v.stolen (spans_among items)

-- ---- what each step does to a view

abbrev pub given_more : Log → Span → Log
given_more v s = log v.owner v.thief (v.given ++ s ∷ []) v.pushed v.popped v.stolen

abbrev pub pushed_more : Log → Span → Log
pushed_more v s = log v.owner v.thief v.given (v.pushed ++ s ∷ []) v.popped v.stolen

abbrev pub popped_more : Log → Span → Log
popped_more v s = log v.owner v.thief v.given v.pushed (v.popped ++ s ∷ []) v.stolen

abbrev pub stolen_more : Log → Span → Log
stolen_more v s = log v.owner v.thief v.given v.pushed v.popped (v.stolen ++ s ∷ [])

-- how many pushes there were since the start: the number of the next mark
abbrev pub turn : View → ℕ
turn v = length v.log.pushed + v.marks.pushed

abbrev pub IsGiven : View → List Task → View → Type 0
IsGiven v (Whole s ∷ ts) = λ w. w ≡ view_of (given_more v.log s) (marks v.marks.pushed v.marks.popped false)
IsGiven v (Mark k ∷ ts) = λ w. ⊥
IsGiven v [] = λ w. ⊥

abbrev pub IsPushed : View → List Task → View → Type 0
IsPushed v (Whole s ∷ ts) = λ w. w ≡ view_of (pushed_more v.log s) (marks v.marks.pushed v.marks.popped false)
IsPushed v (Mark k ∷ ts) = λ w. w ≡ view_of v.log (marks (v.marks.pushed + 1) v.marks.popped false)
IsPushed v [] = λ w. ⊥

-- The owner takes. Of a deque that is shut it takes nothing. The mark of the last push shuts it.
abbrev pub IsPopped : View → List Task → View → Type 0
IsPopped v (Whole s ∷ ts) = λ w. (w ≡ view_of (popped_more v.log s) v.marks) × (v.marks.shut ≡ false) × (is_ahead s ≡ true) × IsFirst v.log s
IsPopped v (Mark k ∷ ts) = λ w. (w ≡ view_of v.log (marks v.marks.pushed (v.marks.popped + 1) (k + 1 == turn v))) × (v.marks.shut ≡ false) × (v.marks.popped < v.marks.pushed)
IsPopped v [] = λ w. ⊥

abbrev pub IsStolen : View → List Task → View → Type 0
IsStolen v (Whole s ∷ ts) = λ w. (w ≡ view_of (stolen_more v.log s) v.marks) × (is_ahead s ≡ true)
IsStolen v (Mark k ∷ ts) = λ w. w ≡ v
IsStolen v [] = λ w. ⊥

-- ---- the two roles of a pass

abbrev pub owner_part : View → View
owner_part v = view_of (log true false v.log.given v.log.pushed v.log.popped []) v.marks

abbrev pub thief_part : View → View
thief_part v = view_of (log false true [] [] [] v.log.stolen) no_marks

abbrev pub both_parts : View → View → View
both_parts v w = view_of (log true true v.log.given v.log.pushed v.log.popped w.log.stolen) v.marks

abbrev pub no_part : View
no_part = view_of (log false false [] [] [] []) no_marks
