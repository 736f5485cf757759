-- The survey's rows are those drained, and then of each segment those kept and those to come.
use Rattle.std.proofs.Common.{◌≡◌, ℕ, List, [], ◌∷◌, ◌++◌, Bool, false, sym, ap, ◌∙◌, subst, Option, Some, None, append_assoc}
use Rattle.std.proofs.lemmas.List.Concat.{flat_map-append}
use Rattle.kr_base.specs.declared.span.Bound.{Bound}
use Rattle.kr_base.specs.declared.span.Bound.TheVariants.{At}
use Rattle.kr_base.specs.declared.entry.Entry.{Entry}
use Rattle.kr_base.specs.Bounds.{less}
use Rattle.kr_base.specs.Entries.{Ascends, within}
use Rattle.kr_base.proofs.Bounds.{irreflexive, not_above}
use Rattle.kr_survey.specs.Scans.{rows_of}
use Rattle.kr_core.specs.declared.segment.Segment.{Segment}
use Rattle.kr_core.specs.Beside.{Others, Measures}
use Rattle.kr_core.proofs.Spent.{within-append, within-none}
use Rattle.kr_core.proofs.Chains.{Chain}
use Rattle.kr_core.proofs.Steps.{chain-up}
use Rattle.kr_board.specs.Boards.{rows_from, BoardLaw}
use Rattle.kr_board.proofs.Sound.{join}
use Rattle.kr_board.proofs.Staying.{holds}

-- rows of two spans that adjoin
rows-join : {R : Type 0} (a m b : Bound) (all : List (Entry R)) → Ascends all → less m a ≡ false → less b m ≡ false → rows_of (within a m all) ++ rows_of (within m b all) ≡ rows_of (within a b all)
rows-join {R} a m b all asc h k = sym (flat_map-append _ (within a m all) (within m b all)) ∙ ap (λ (l : List (Entry R)). rows_of l) (within-append a m b all asc h k)

-- from a bound on: those up to the mark, those up to the upto, those after it
three : {R : Type 0} (a mark upto e : Bound) (all : List (Entry R)) (rest : List R) → Ascends all → less mark a ≡ false → less upto mark ≡ false → less e upto ≡ false → rest ≡ rows_of (within upto e all)
    → rows_of (within a mark all) ++ (rows_of (within mark upto all) ++ rest) ≡ rows_of (within a e all)
three {R} a mark upto e all rest asc low high up is =
    ap (λ (l : List R). rows_of (within a mark all) ++ (rows_of (within mark upto all) ++ l)) is
    ∙ (ap (λ (l : List R). rows_of (within a mark all) ++ l) (rows-join mark upto e all asc high up) ∙ rows-join a mark e all asc low (not_above mark upto e high up))

others-rows : {R : Type 0} (P : Type 0) (all : List (Entry R)) (next : ℕ) (flag : Bool) (last : Option Segment) (a : Bound) (segs : List Segment) (e : Bound) (kept : List (List R)) → Ascends all
    → Chain P all next flag last a segs e → Others rows_of all segs kept → rows_from all segs kept ≡ rows_of (within a e all)
others-rows {R} P all next flag last a [] e [] asc h o = sym (ap (λ (l : List (Entry R)). rows_of l) (within-none a e all (subst (λ (b : Bound). less a b ≡ false) h.0 (irreflexive a))))
others-rows P all next flag last a [] e (k ∷ ks) asc h o = absurd o
others-rows P all next flag last a (s ∷ ss) e [] asc h o = absurd o
others-rows {R} P all next flag last a (s ∷ ss) e (k ∷ ks) asc h o =
    let l = h.1.0 in
    let rest = others-rows P all next flag (Some s) s.upto ss e ks asc h.1.1.1 o.1 in
    ap (λ (x : List R). x ++ (rows_of (within s.mark s.upto all) ++ rows_from all ss ks)) o.0
    ∙ (three s.after s.mark s.upto e all (rows_from all ss ks) asc l.low l.high (chain-up P all next flag (Some s) s.upto ss e h.1.1.1) rest ∙ ap (λ (b : Bound). rows_of (within b e all)) l.adjoins)

all-rows : {R : Type 0} (P : Type 0) (all : List (Entry R)) (next : ℕ) (flag : Bool) (from a : Bound) (segs : List Segment) (e : Bound) (before : List R) (kept : List (List R)) → Ascends all → less a from ≡ false
    → Chain P all next flag None a segs e → Measures join rows_of all from before segs kept → rows_of (within from e all) ≡ before ++ rows_from all segs kept
all-rows P all next flag from a [] e before kept asc up h m = absurd m
all-rows P all next flag from a (s ∷ ss) e before [] asc up h m = absurd m
all-rows {R} P all next flag from a (s ∷ ss) e before (k ∷ ks) asc up h m =
    let l = h.1.0 in
    let low : less s.mark from ≡ false = not_above from s.after s.mark (subst (λ (b : Bound). less b from ≡ false) (sym l.adjoins) up) l.low in
    let rest = others-rows P all next flag (Some s) s.upto ss e ks asc h.1.1.1 m.1 in
    sym (sym (append_assoc before k (rows_of (within s.mark s.upto all) ++ rows_from all ss ks)) ∙ (ap (λ (x : List R). x ++ (rows_of (within s.mark s.upto all) ++ rows_from all ss ks)) m.0
    ∙ three from s.mark s.upto e all (rows_from all ss ks) asc low l.high (chain-up P all next flag (Some s) s.upto ss e h.1.1.1) rest))

pub board_law : {R : Type 0} → BoardLaw R
board_law all span cuts b asc inside board =
    let k = holds all span cuts b asc inside board in
    record {
      before = board.rows.before;
      count = board.rows.count;
      rows = all-rows (Unit {0}) all b.core.next b.core.spent (At span.after) _ b.core.segments b.core.end board.rows.before b.kept asc k.above k.chain board.rows.rows;
    }
