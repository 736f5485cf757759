-- Entries in few bytes stay the same while the second list grows.
use Rattle.std.proofs.Common.{◌≡◌, ℕ, ◌+◌, ◌<◌, ◌≤◌, Bool, true, false, refl, sym, ap, ◌∙◌, arith, List, [], ◌∷◌, ◌++◌, length, get_or, All, length-append}
use Rattle.std.specs.Prelude.{Result, Ok, Err, OnErr}
use Rattle.std.proofs.Math.ListN.{set}
use Rattle.std.proofs.Math.Seq.{get_or-append_seam}
use Rattle.std.proofs.lemmas.List.{get_or_append_left, get_or-map, map-append, map-set}
use Rattle.std.proofs.lemmas.List.Elements.{All-head, All-push, All-tail, All-weaker}
use Rattle.kr_ast.specs.declared.node.Entry.{Entry}
use Rattle.kr_ast.specs.declared.short_entry.ShortEntry.{ShortEntry}
use Rattle.kr_ast.specs.declared.short_entry.LongNode.{LongNode}
use Rattle.kr_ast.specs.Entries.{Entries, IsKept, entries_shown, entry_by, entry_shown, is_long, no_node, node_of}
use Rattle.kr_ast.specs.Forest.{owned}

-- a node that fits doesn't ask for the second list
pub short_by : (file : ℕ) (l : LongNode) (s : ShortEntry) → is_long s.shape ≡ false → entry_by file l s ≡ record { place = record { file = file; line = s.line; col = s.col }; node = node_of s.shape s.first s.second; parent = s.parent; position = s.position }
short_by file l s short = rw short refl

pub long_by : (file : ℕ) (l : LongNode) (s : ShortEntry) → is_long s.shape ≡ true → entry_by file l s ≡ record { place = record { file = l.file; line = s.line; col = s.col }; node = l.node; parent = s.parent; position = s.position }
long_by file l s long = rw long refl

one_more : (file : ℕ) (longs more : List LongNode) (s : ShortEntry) (b : Bool) → is_long s.shape ≡ b → IsKept (length longs) s → entry_shown file (longs ++ more) s ≡ entry_shown file longs s
one_more file longs more s true is kept = ap (λ l. entry_by file l s) (get_or_append_left longs more no_node s.first (kept is))
one_more file longs more s false is kept = short_by file (get_or (longs ++ more) s.first no_node) s is ∙ sym (short_by file (get_or longs s.first no_node) s is)

pub shown_more : (file : ℕ) (longs more : List LongNode) (ss : List ShortEntry) → All (IsKept (length longs)) ss → entries_shown file (longs ++ more) ss ≡ entries_shown file longs ss
shown_more file longs more [] kept = refl
shown_more file longs more (s ∷ ss) kept =
    ap (λ e. e ∷ entries_shown file (longs ++ more) ss) (one_more file longs more s (is_long s.shape) refl (All-head (IsKept (length longs)) s ss kept))
    ∙ ap (λ es. entry_shown file longs s ∷ es) (shown_more file longs more ss (All-tail (IsKept (length longs)) s ss kept))

pub kept_more : (m n : ℕ) (ss : List ShortEntry) → m ≤ n → All (IsKept m) ss → All (IsKept n) ss
kept_more m n ss le kept = All-weaker (IsKept m) (IsKept n) (λ s here long. omega (arith, here long, le)) ss kept

pub kept_grown : (longs more : List LongNode) (ss : List ShortEntry) → All (IsKept (length longs)) ss → All (IsKept (length (longs ++ more))) ss
kept_grown longs more ss kept = kept_more (length longs) (length (longs ++ more)) ss (omega (arith, length-append longs more)) kept

-- an entry is added
pub shown_pushed : (file : ℕ) (longs more : List LongNode) (ss : List ShortEntry) (s : ShortEntry) (e : Entry) → All (IsKept (length longs)) ss → entry_shown file (longs ++ more) s ≡ e → entries_shown file (longs ++ more) (ss ++ s ∷ []) ≡ entries_shown file longs ss ++ e ∷ []
shown_pushed file longs more ss s e kept shown =
    map-append (entry_shown file (longs ++ more)) ss (s ∷ [])
    ∙ (ap (λ es. es ++ entry_shown file (longs ++ more) s ∷ []) (shown_more file longs more ss kept) ∙ ap (λ e. entries_shown file longs ss ++ e ∷ []) shown)

pub kept_pushed : (longs more : List LongNode) (ss : List ShortEntry) (s : ShortEntry) → All (IsKept (length longs)) ss → IsKept (length (longs ++ more)) s → All (IsKept (length (longs ++ more))) (ss ++ s ∷ [])
kept_pushed longs more ss s kept here = All-push (IsKept (length (longs ++ more))) ss s (kept_grown longs more ss kept) here

-- a node that doesn't fit is at the end of the second list
pub shown_long : (file at : ℕ) (longs : List LongNode) (l : LongNode) (s : ShortEntry) → is_long s.shape ≡ true → s.first ≡ length longs → entry_shown file (longs ++ l ∷ []) s ≡ record { place = record { file = l.file; line = s.line; col = s.col }; node = l.node; parent = s.parent; position = s.position }
shown_long file at longs l s long first =
    ap (λ k. entry_by file (get_or (longs ++ l ∷ []) k no_node) s) first
    ∙ (ap (λ l. entry_by file l s) (get_or-append_seam longs l [] no_node) ∙ long_by file l s long)

-- a node gets its parent
pub shown_parent : (file : ℕ) (longs : List LongNode) (ss : List ShortEntry) (i parent position : ℕ) (s : ShortEntry) (d : Entry) → i < length ss → s ≡ get_or ss i s → entries_shown file longs (set ss i (record s { parent = parent; position = position })) ≡ set (entries_shown file longs ss) i (owned parent position (get_or (entries_shown file longs ss) i d))
shown_parent file longs ss i parent position s d lt is =
    map-set (entry_shown file longs) ss i (record s { parent = parent; position = position })
    ∙ ap (λ e. set (entries_shown file longs ss) i (owned parent position e)) (ap (entry_shown file longs) is ∙ sym (get_or-map (entry_shown file longs) ss i s d lt))

abbrev pub entries_of : ℕ → List LongNode → List ShortEntry → Entries
entries_of file longs ss = record { items = entries_shown file longs ss }

-- more nodes in the second list alone change nothing
pub same_view : (file : ℕ) (longs longs' : List LongNode) (ss : List ShortEntry) (more : List LongNode) → longs' ≡ longs ++ more → All (IsKept (length longs)) ss → entries_of file longs' ss ≡ entries_of file longs ss
same_view file longs longs' ss more e kept =
    ap (λ (ls : List LongNode). entries_of file ls ss) e ∙ ap (λ es. let x : Entries = record { items = es } in x) (shown_more file longs more ss kept)

pub on_err : {A E : Type 0} {P : Type 0} (r : Result A E) → P → OnErr r P
on_err (Ok x) p = tt
on_err (Err e) p = p
