-- Turns of a search, over plain lists.
use Rattle.std.proofs.Common.{◌≡◌, ℕ, ◌<◌, ◌≤◌, zero, suc, Bool, List, [], ◌∷◌, ◌++◌, Some, refl, sym, ap, ◌∙◌, subst, arith, get_or, length, drop, set, append-nil}
use Rattle.std.specs.Prelude.{Result, Ok, Err, OnErr, is_ok, if◌then◌else◌}
use Rattle.kr_base.specs.Cuts.{Before}
use Rattle.kr_mean.specs.Space.{Space}
use Rattle.kr_mean.specs.Blocks.{IsSpace}
use Rattle.kr_mean.specs.Readings.{AllBelow, IsReading}
use Rattle.kr_mean.specs.Runs.{key_along}
use Rattle.kr_mean.specs.Entries.{IsListed}
use Rattle.kr_iso.specs.Choices.{PathIn, AllowedPath}
use Rattle.kr_mean.specs.Choices.{IsAllowed, IsNextChoice}
use Rattle.kr_step.specs.Steps.{path_of, indices_of, NextIs, IsFirst, IsStuck, IsMoved, IsFront, Advanced}
use Rattle.kr_step.specs.declared.seeking.Lead.{Lead}
use Rattle.kr_step.specs.Turns.{Turned, Leads}
use Rattle.kr_step.specs.declared.candidates.Ending.{Ending}
use Rattle.kr_step.specs.declared.stage.Stage.{Stage}
use Rattle.kr_step.specs.declared.stage.Stage.TheVariants.{Behind}
use Rattle.kr_step.specs.Stages.{StandsAt}
use Rattle.kr_step.proofs.Paths.{allowed_front}
use Rattle.kr_step.proofs.Seeks.{extend, indices_more, seek_end, seek_past, seek_whole}
use Rattle.kr_step.proofs.Nexts.{Top, top, top_in, stuck_none, found_stuck}

-- it also holds of candidates that are equal
pub stuck_along : (S T : Space) (o p : List ℕ → List ℕ) (c v : List ℕ) (path : List (ℕ × ℕ)) → T ≡ S → p ≡ o → IsStuck S o c v path → IsStuck T p c v path
stuck_along S T o p c v path e f k = subst (λ (x : Space). IsStuck x p c v path) (sym e) (subst (λ (x : List ℕ → List ℕ). IsStuck S x c v path) (sym f) k)

-- the slot at the end of a path
pub record Popped (S : Space) (order : List ℕ → List ℕ) (v : List ℕ) (path : List (ℕ × ℕ)) (s i : ℕ) : Type 0 where
  pub slot : s < S.slots
  pub index : i < S.size s
  pub long : length v ≡ S.slots
  pub inside : PathIn S path
  pub allowed : AllowedPath S [] path

pub popped : {M : Type 0} (S : Space) (order : List ℕ → List ℕ) (mark : List ℕ → M) → IsSpace S → IsReading S order mark → (c v : List ℕ) (path : List (ℕ × ℕ)) (s i : ℕ) → IsStuck S order c v (path ++ (s, i) ∷ []) → Popped S order v path s i
popped S order mark is reading c v path s i k =
    let t : Top S order mark is reading path s i c v = top S order mark is reading path s i c v k in
    record { slot = t.slot; index = t.index; long = k.of.vector.long; inside = top_in S order mark is reading path s i c v k; allowed = allowed_front S [] path ((s, i) ∷ []) k.allowed }

-- a path that stays a front while it is written down in full
path_rest : (w : List ℕ) (path rest : List (ℕ × ℕ)) (ss : List ℕ) → path_of w ss ≡ path ++ rest → rest ≡ path_of w (drop (length path) ss)
path_rest w [] rest ss e = sym e
path_rest w (p ∷ path) rest [] e = absurd (cc (e))
path_rest w (p ∷ path) rest (s ∷ ss) e = path_rest w path rest ss (cc (e))

pub whole_path : (w : List ℕ) (path rest : List (ℕ × ℕ)) (ss : List ℕ) → path_of w ss ≡ path ++ rest → path ++ path_of w (drop (length path) ss) ≡ path_of w ss
whole_path w path rest ss e = ap (λ (l : List (ℕ × ℕ)). path ++ l) (sym (path_rest w path rest ss e)) ∙ sym e

indices_all : (w ss : List ℕ) → indices_of (path_of w ss) ≡ key_along w ss
indices_all w [] = refl
indices_all w (s ∷ ss) = ap (λ (l : List ℕ). get_or w s 0 ∷ l) (indices_all w ss)

-- where a candidate was found, the search is just after it
pub behind : {M : Type 0} (S : Space) (order : List ℕ → List ℕ) (mark : List ℕ → M) → IsSpace S → IsReading S order mark → (c key w : List ℕ) (path : List (ℕ × ℕ)) → IsFirst S order c w → path ≡ path_of w (order w) → key ≡ indices_of path → IsStuck S order key w path × (key ≡ key_along w (order w))
behind S order mark is reading c key w path first e k =
    let at : key ≡ key_along w (order w) = k ∙ (ap indices_of e ∙ indices_all w (order w)) in
    (subst (λ (x : List ℕ). IsStuck S order x w path) (sym at) (subst (IsStuck S order (key_along w (order w)) w) (sym e) (found_stuck S order mark is reading c w first)), at)

-- an empty path leads nowhere
pub none_left : {M : Type 0} (S : Space) (order : List ℕ → List ℕ) (mark : List ℕ → M) → IsSpace S → IsReading S order mark → (c v : List ℕ) (path : List (ℕ × ℕ)) → path ≡ [] → IsStuck S order c v path → (u : List ℕ) → IsListed S order u → Before c (key_along u (order u)) → ⊥
none_left S order mark is reading c v path e k = stuck_none S order mark is reading c v (subst (IsStuck S order c v) e k)

pub turned_along : (S T : Space) (o p : List ℕ → List ℕ) (c : List ℕ) (b : Bool) (v : List ℕ) (path : List (ℕ × ℕ)) → T ≡ S → p ≡ o → Turned T p c b v path → Turned S o c b v path
turned_along S T o p c b v path e f k = subst (λ (x : Space). Turned x o c b v path) e (subst (λ (x : List ℕ → List ℕ). Turned T x c b v path) f k)

pub leads_along : (S T : Space) (o p : List ℕ → List ℕ) (c : List ℕ) (n : ℕ) (l m : Lead) (w : List ℕ) (old path : List (ℕ × ℕ)) → T ≡ S → p ≡ o → l ≡ m → Leads T p c n l w old path → Leads S o c n m w old path
leads_along S T o p c n l m w old path e f g k =
    subst (λ (x : Lead). Leads S o c n x w old path) g (subst (λ (x : Space). Leads x o c n l w old path) e (subst (λ (x : List ℕ → List ℕ). Leads T x c n l w old path) f k))

-- a push where there is room
pub pushed : {T E : Type 0} (r : Result T E) (a b new : List (ℕ × ℕ)) (len cap : ℕ) → OnErr r (cap ≤ len) → len < cap → new ≡ (if is_ok r then a else b) → new ≡ a
pushed (Ok x) a b new len cap full room e = e
pushed (Err x) a b new len cap full room e = absurd (omega arith)

pub below_at : (n : ℕ) (xs : List ℕ) (i : ℕ) → AllBelow n xs → i < length xs → get_or xs i 0 < n
below_at n [] i b h = absurd (omega arith)
below_at n (x ∷ xs) zero b h = b.0
below_at n (x ∷ xs) (suc i) b h = below_at n xs i b.1 (omega arith)

pub followed : {M : Type 0} (S : Space) (order : List ℕ → List ℕ) (mark : List ℕ → M) → IsSpace S → IsReading S order mark → (w new : List ℕ) (path items : List (ℕ × ℕ)) (s j n : ℕ) → IsFront S order w path → NextIs w path s (order w) → j < S.size s → IsAllowed S path s j
    → new ≡ set w s j → items ≡ path ++ (s, j) ∷ [] → j ≡ n → IsFront S order new items × (indices_of items ≡ indices_of path ++ n ∷ [])
followed S order mark is reading w new path items s j n f next lt a e p q = (
  subst (λ (l : List ℕ). IsFront S order l items) (sym e) (subst (IsFront S order (set w s j)) (sym p) (extend S order mark is reading w path s j f next lt a)),
  ap indices_of p ∙ (indices_more path s j ∙ ap (λ (k : ℕ). indices_of path ++ k ∷ []) q),
)

pub passed : {M : Type 0} (S : Space) (order : List ℕ → List ℕ) (mark : List ℕ → M) → IsSpace S → IsReading S order mark → (c w new : List ℕ) (path items : List (ℕ × ℕ)) (s i j : ℕ) (tail : List ℕ) → IsFront S order w path → NextIs w path s (order w) → c ≡ indices_of path ++ i ∷ tail
    → IsNextChoice S path s i (Some j) → (j ≡ i → ⊥) → new ≡ set w s j → items ≡ path ++ (s, j) ∷ [] → IsMoved S order c new items
passed S order mark is reading c w new path items s i j tail f next at choice other e p =
    subst (λ (l : List ℕ). IsMoved S order c l items) (sym e) (subst (IsMoved S order c (set w s j)) (sym p) (seek_past S order mark is reading c w path s i j tail f next at choice other))

pub settled : {M : Type 0} (S : Space) (order : List ℕ → List ℕ) (mark : List ℕ → M) → IsSpace S → IsReading S order mark → (w new last : List ℕ) (path items : List (ℕ × ℕ)) → IsFront S order w path → length path < length (order w) → new ≡ w → last ≡ order w
    → items ≡ path ++ path_of new (drop (length path) last) → IsFirst S order (indices_of path) new × (items ≡ path_of new (order new))
settled S order mark is reading w new last path items f h e l p =
    let m : IsMoved S order (indices_of path) w path = seek_whole S order mark is reading (indices_of path) w path f h refl in
    let whole : items ≡ path_of w (order w) =
    p ∙ (ap (λ (x : List ℕ). path ++ path_of x (drop (length path) last)) e ∙ (ap (λ (x : List ℕ). path ++ path_of w (drop (length path) x)) l ∙ whole_path w path m.leads.0 (order w) m.leads.1)) in
    (subst (IsFirst S order (indices_of path)) (sym e) m.first, subst (λ (x : List ℕ). items ≡ path_of x (order x)) (sym e) whole)

pub ended : {M : Type 0} (S : Space) (order : List ℕ → List ℕ) (mark : List ℕ → M) → IsSpace S → IsReading S order mark → (w new : List ℕ) (path : List (ℕ × ℕ)) → IsFront S order w path → length (order w) ≤ length path → new ≡ w → IsStuck S order (indices_of path) new path
ended S order mark is reading w new path f h e =
    subst (λ (x : List ℕ). IsStuck S order (indices_of path) x path) (sym e) (seek_end S order mark is reading (indices_of path) w path [] f h (sym (append-nil (indices_of path))))

-- a candidate that was moved to, written down in full
pub arrived : (S : Space) (order : List ℕ → List ℕ) (c w new last : List ℕ) (path items : List (ℕ × ℕ)) → IsMoved S order c w path → new ≡ w → last ≡ order w → items ≡ path ++ path_of new (drop (length path) last) → items ≡ path_of w (order w)
arrived S order c w new last path items m e l p =
    p ∙ (ap (λ (x : List ℕ). path ++ path_of x (drop (length path) last)) e ∙ (ap (λ (x : List ℕ). path ++ path_of w (drop (length path) x)) l ∙ whole_path w path m.leads.0 (order w) m.leads.1))

pub no_indices : (path : List (ℕ × ℕ)) → indices_of path ≡ [] → path ≡ []
no_indices [] e = refl
no_indices (p ∷ path) e = absurd (cc (e))

pub moved_along : (S T : Space) (o p : List ℕ → List ℕ) (c v : List ℕ) (path : List (ℕ × ℕ)) → T ≡ S → p ≡ o → IsMoved S o c v path → IsMoved T p c v path
moved_along S T o p c v path e f k = subst (λ (x : Space). IsMoved x p c v path) (sym e) (subst (λ (x : List ℕ → List ℕ). IsMoved S x c v path) (sym f) k)

-- the result of going back, of a search that is just after a candidate
pub back : (S : Space) (o : List ℕ → List ℕ) (m : List ℕ → Ending) (stage : Stage) (c v w : List ℕ) (path new : List (ℕ × ℕ)) (b t : Bool) → stage ≡ Behind → b ≡ t → (IsStuck S o c v path → Advanced S o c b w new) → StandsAt S o m stage c v path → Advanced S o c t w new
back S o m stage c v w path new b t e f advanced stands =
    subst (λ (x : Bool). Advanced S o c x w new) f (advanced (subst (λ (s : Stage). StandsAt S o m s c v path) e stands))

pub stays_behind : (S : Space) (o : List ℕ → List ℕ) (m : List ℕ → Ending) (stage : Stage) (c w : List ℕ) (new : List (ℕ × ℕ)) → stage ≡ Behind → IsStuck S o c w new → StandsAt S o m stage c w new
stays_behind S o m stage c w new e k = subst (λ (s : Stage). StandsAt S o m s c w new) (sym e) k
