-- Keys in one buffer.
use Rattle.std.proofs.Common.{◌≡◌, ℕ, zero, suc, ◌+◌, ◌-◌, ◌<◌, ◌≤◌, List, [], ◌∷◌, ◌++◌, Bool, true, false, length, take, drop, get_or, refl, sym, ap, ◌∙◌, subst, arith}
use Rattle.std.specs.Prelude.{slice_range, if◌then◌else◌}
use Rattle.std.proofs.lemmas.List.{drop_at, drop-append-le, length-append, length-drop, take-append-le, take_all}
use Rattle.kr_base.specs.declared.span.Bound.TheVariants.{At}
use Rattle.kr_base.specs.Bounds.{is_same}
use Rattle.kr_trace.specs.Checked.{Rows, is_last_key}
use Rattle.kr_trace.specs.Tables.{IsTable, Tiles, adds, begin, pieces}

pub tiles_within : (from : ℕ) (ends : List ℕ) (len : ℕ) → Tiles from ends len → from ≤ len
tiles_within from [] len h = omega (arith, h)
tiles_within from (e ∷ es) len h = omega (arith, h.0, tiles_within e es len h.1)

pub length-pieces : (numbers : List ℕ) (from : ℕ) (ends : List ℕ) → length (pieces numbers from ends) ≡ length ends
length-pieces numbers from [] = refl
length-pieces numbers from (e ∷ es) = ap suc (length-pieces numbers e es)

last_piece : (numbers key : List ℕ) (from : ℕ) → from ≡ length numbers → slice_range (numbers ++ key) from (length numbers + length key) ≡ key
last_piece numbers key from is =
    let count : length numbers + length key - from ≡ length key = omega (arith, is) in
    rw count (ap (take (length key)) (drop_at numbers key from (sym is)) ∙ take_all (length key) key (omega arith))

same_piece : (numbers key : List ℕ) (from end : ℕ) → from ≤ end → end ≤ length numbers → slice_range (numbers ++ key) from end ≡ slice_range numbers from end
same_piece numbers key from end low high =
    ap (take (end - from)) (drop-append-le from numbers key (omega arith))
    ∙ take-append-le (end - from) (drop from numbers) key (omega (arith, length-drop from numbers))

-- one more key
pub pieces-push : (numbers key : List ℕ) (from : ℕ) (ends : List ℕ) (end : ℕ) → Tiles from ends (length numbers) → end ≡ length numbers + length key
    → pieces (numbers ++ key) from (ends ++ end ∷ []) ≡ pieces numbers from ends ++ key ∷ []
pieces-push numbers key from [] end h is = ap (λ (k : List ℕ). k ∷ []) (ap (slice_range (numbers ++ key) from) is ∙ last_piece numbers key from h)
pieces-push numbers key from (e ∷ es) end h is =
    let piece = same_piece numbers key from e h.0 (tiles_within e es (length numbers) h.1) in
    let rest = pieces-push numbers key e es end h.1 is in
    ap (λ (k : List ℕ). k ∷ pieces (numbers ++ key) e (es ++ end ∷ [])) piece ∙ ap (λ (ks : List (List ℕ)). slice_range numbers from e ∷ ks) rest

pub tiles-push : (from : ℕ) (ends : List ℕ) (len end : ℕ) → Tiles from ends len → len ≤ end → Tiles from (ends ++ end ∷ []) end
tiles-push from [] len end h more = (omega (arith, h), refl)
tiles-push from (e ∷ es) len end h more = (h.0, tiles-push e es len end h.1 more)

begin_next : (from e : ℕ) (es : List ℕ) (i : ℕ) → begin e es i ≡ begin from (e ∷ es) (suc i)
begin_next from e es zero = refl
begin_next from e es (suc i) = refl

-- the key at an index
pub piece_at : (numbers : List ℕ) (from : ℕ) (ends : List ℕ) (i : ℕ) → i < length ends
    → get_or (pieces numbers from ends) i [] ≡ slice_range numbers (begin from ends i) (get_or ends i 0)
piece_at numbers from [] i h = absurd (omega (arith, h))
piece_at numbers from (e ∷ es) zero h = refl
piece_at numbers from (e ∷ es) (suc i) h =
    piece_at numbers e es i (omega (arith, h)) ∙ ap (λ (k : ℕ). slice_range numbers k (get_or es i 0)) (begin_next from e es i)

pub bounds_at : (from : ℕ) (ends : List ℕ) (len i : ℕ) → Tiles from ends len → i < length ends → (begin from ends i ≤ get_or ends i 0) × (get_or ends i 0 ≤ len)
bounds_at from [] len i h l = absurd (omega (arith, l))
bounds_at from (e ∷ es) len zero h l = (h.0, tiles_within e es len h.1)
bounds_at from (e ∷ es) len (suc i) h l =
    let rest = bounds_at e es len i h.1 (omega (arith, l)) in
    (subst (λ (k : ℕ). k ≤ get_or es i 0) (begin_next from e es i) rest.0, rest.1)

-- ---- rows with their keys

pub rows_count : (numbers ends : List ℕ) (failing : ℕ) (rows : Rows) → record { keys = pieces numbers 0 ends; failing = failing } ≡ rows → length rows.keys ≡ length ends
rows_count numbers ends failing rows is = sym (ap (λ (r : Rows). length r.keys) is) ∙ length-pieces numbers 0 ends

pub rows_key : (numbers ends : List ℕ) (failing : ℕ) (rows : Rows) (i : ℕ) → record { keys = pieces numbers 0 ends; failing = failing } ≡ rows → i < length ends
    → get_or rows.keys i [] ≡ slice_range numbers (begin 0 ends i) (get_or ends i 0)
rows_key numbers ends failing rows i is h = sym (ap (λ (r : Rows). get_or r.keys i []) is) ∙ piece_at numbers 0 ends i h

pub table_more : (numbers key ends numbers' ends' : List ℕ) (end failing failing' : ℕ) → IsTable numbers ends failing → end ≡ length numbers + length key → failing' ≤ failing + 1
    → numbers' ≡ numbers ++ key → ends' ≡ ends ++ end ∷ [] → IsTable numbers' ends' failing'
table_more numbers key ends numbers' ends' end failing failing' h is more ns es =
    let whole : end ≡ length (numbers ++ key) = is ∙ sym (length-append numbers key) in
    let own : IsTable (numbers ++ key) (ends ++ end ∷ []) failing' = record {
      tiles = subst (λ (k : ℕ). Tiles 0 (ends ++ end ∷ []) k) whole (tiles-push 0 ends (length numbers) end h.tiles (omega (arith, is)));
      few = omega (arith, h.few, more, length-append ends (end ∷ []));
    } in
    subst (λ (n : List ℕ). IsTable n ends' failing') (sym ns) (subst (λ (e : List ℕ). IsTable (numbers ++ key) e failing') (sym es) own)

pub rows_more : (numbers key ends numbers' ends' : List ℕ) (end failing failing' : ℕ) (passes : Bool) (rows : Rows) → Tiles 0 ends (length numbers) → end ≡ length numbers + length key
    → numbers' ≡ numbers ++ key → ends' ≡ ends ++ end ∷ [] → failing' ≡ (if passes then failing else failing + 1) → record { keys = pieces numbers 0 ends; failing = failing } ≡ rows
    → record { keys = pieces numbers' 0 ends'; failing = failing' } ≡ adds rows key passes
rows_more numbers key ends numbers' ends' end failing failing' passes rows h is ns es fs seen =
    ap (λ (n : List ℕ). record { keys = pieces n 0 ends'; failing = failing' }) ns
    ∙ (ap (λ (e : List ℕ). record { keys = pieces (numbers ++ key) 0 e; failing = failing' }) es
    ∙ (ap (λ (k : ℕ). record { keys = pieces (numbers ++ key) 0 (ends ++ end ∷ []); failing = k }) fs
    ∙ (ap (λ (ks : List (List ℕ)). record { keys = ks; failing = if passes then failing else failing + 1 }) (pieces-push numbers key 0 ends end h is)
    ∙ ap (λ (r : Rows). adds r key passes) seen)))

pub passing : (b : Bool) (f f' : ℕ) → b ≡ true → f' ≡ f → f' ≡ (if b then f else f + 1)
passing b f f' is e = rw is e

pub not_passing : (b : Bool) (f f' : ℕ) → b ≡ false → f' ≡ f + 1 → f' ≡ (if b then f else f + 1)
not_passing b f f' is e = rw is e

pub last_key_is : (key : List ℕ) (keys : List (List ℕ)) (n : ℕ) → n + 1 ≡ length keys → is_last_key key keys ≡ is_same (At key) (At (get_or keys n []))
last_key_is key [] n h = absurd (omega (arith, h))
last_key_is key (k ∷ []) zero h = refl
last_key_is key (k ∷ []) (suc n) h = absurd (omega (arith, h))
last_key_is key (k ∷ next ∷ keys) zero h = absurd (omega (arith, h))
last_key_is key (k ∷ next ∷ keys) (suc n) h = last_key_is key (next ∷ keys) n (omega (arith, h))
